-- `take_conj` lines the goals up in cells: the invariant is that the row of those left completes the row of all.
use mathlib.Core.List.{List}
use Prim.Native.Nat.{ℕ, ◌+◌, ◌-◌}
use Rattle.rules.specs.Syntax.{Goals, conj, Program}
use Rattle.semantics.specs.Path.{Path, ChoicePoint}
use Rattle.engine.specs.Take.{Taking}
use Rattle.engine.proofs.ConjLaws.{Lining}
use Rattle.engine.proofs.search.goal.take_conj.Given as goal

abbrev pub invariant-loop-filled : goal.invariant-loop-filled
invariant-loop-filled l = (P : Program) (p : Path) (cs : List ChoicePoint) (base : ℕ) (gs : Goals) → Taking P l.program l.initial.scratch l.st l.conjunction p cs (base, conj gs)
    → Lining l.program l.initial.scratch l.scratch l.st.goals l.st.head (l.conjunction + 1) l.end base gs l.goal l.filled

abbrev pub decreases-loop-filled : goal.decreases-loop-filled
decreases-loop-filled l = 1024 - l.filled
