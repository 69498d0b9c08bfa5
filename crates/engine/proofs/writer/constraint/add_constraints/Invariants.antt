-- `add_constraints` goes over the constraints kept, as the definition does.
use Prim.Native.Nat.{ℕ}
use mathlib.Core.List.{List}
use Rattle.rules.specs.Syntax.{Constraint}
use Rattle.semantics.specs.Substitution.{Substitution}
use Rattle.semantics.specs.Invariant.{Sound}
use Rattle.engine.specs.Review.{ConstraintsHeld}
use Rattle.engine.specs.Lines.{Writing}
use Rattle.engine.proofs.ConstraintLaws.{Adding}
use Rattle.engine.proofs.writer.constraint.add_constraints.Given as goal

abbrev pub invariant-loop-i : goal.invariant-loop-i
invariant-loop-i l = (g : Writing l.initial.scratch l.initial.output l.first l.end l.at) (bs : Substitution) (cs : List Constraint) (made : ℕ) → ConstraintsHeld l.program l.initial.scratch bs cs l.trail l.kept → Sound bs cs made
    → Adding l.program l.initial.scratch g bs cs l.trail l.kept l.steps l.scratch l.output l.place l.left l.i
