-- `undo` takes bindings back one by one: the invariant is that the trail's new part is shorter and all else as it was.
use mathlib.Core.List.{List}
use Prim.Native.Nat.{ℕ}
use Rattle.semantics.specs.Substitution.{Substitution}
use Rattle.engine.specs.Trail.{Trailed}
use Rattle.engine.proofs.TrailLaws.{Undoing}
use Rattle.engine.proofs.terms.trail.undo.Given as goal

abbrev pub invariant-loop-top : goal.invariant-loop-top
invariant-loop-top l = (ws : List ℕ) (new bs : Substitution) → Trailed ws l.initial.scratch new bs l.mark l.trail → Undoing ws l.initial.scratch l.scratch bs l.mark l.top
