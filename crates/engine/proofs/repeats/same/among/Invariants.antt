-- `among` goes from header to header: of the answers that are left the same is to be told.
use Prim.Native.Nat.{ℕ, ◌-◌}
use mathlib.Core.List.{List}
use Rattle.semantics.specs.Answer.{any_same}
use Rattle.engine.specs.Lines.{Whole, Stretch, Rows}
use Rattle.engine.proofs.RowLaws.{Row}
use Rattle.engine.proofs.repeats.same.among.Given as goal

abbrev pub invariant-loop-place : goal.invariant-loop-place
invariant-loop-place l = (ws : List (List ℕ)) (v : List ℕ) → Rows l.words 0 l.used ws → Stretch l.words l.used l.next v → Whole v → Row l.words l.place l.used v (any_same v ws)

abbrev pub decreases-loop-place : goal.decreases-loop-place
decreases-loop-place l = l.used - l.place
