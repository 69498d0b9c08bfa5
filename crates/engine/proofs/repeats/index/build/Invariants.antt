-- `build`: the answers before `place` are indexed.
use Prim.Native.Nat.{ℕ, ◌-◌}
use mathlib.Core.List.{List}
use Rattle.engine.specs.Lines.{Rows}
use Rattle.engine.proofs.BuildLaws.{Building}
use Rattle.engine.proofs.repeats.index.build.Given as goal

abbrev pub invariant-loop-place : goal.invariant-loop-place
invariant-loop-place l = (ws : List (List ℕ)) → Rows l.initial.output 0 l.used ws → Building l.initial.output l.output l.place l.used l.table l.size ws

abbrev pub decreases-loop-place : goal.decreases-loop-place
decreases-loop-place l = l.used - l.place
