-- `enter`: answers with the same words are led to from the slot where the search is, and what is entered there is led to from the home slot.
use Prim.Native.Nat.{ℕ}
use mathlib.Core.Path.{◌≡◌}
use mathlib.Core.List.{List}
use Rattle.engine.specs.Index.{Seeking}
use Rattle.engine.proofs.IndexLaws.{Sought}
use Rattle.engine.proofs.repeats.index.enter.Given as goal

abbrev pub invariant-loop : goal.invariant-loop
invariant-loop l = (l.output ≡ l.initial.output) × ((ws : List (List ℕ)) (v : List ℕ) → Seeking l.initial.output l.start l.next l.table l.size ws v → Seeking l.output l.start l.next l.table l.size ws v × Sought l.output l.table l.size l.slot ws v)
