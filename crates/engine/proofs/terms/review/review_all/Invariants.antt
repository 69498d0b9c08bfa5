-- `review_all` goes over the constraints kept, as the definition does.
use mathlib.Core.List.{List}
use Rattle.rules.specs.Syntax.{Constraint}
use Rattle.semantics.specs.Substitution.{Substitution}
use Rattle.engine.specs.Review.{ConstraintsHeld}
use Rattle.engine.proofs.ReviewSteps.{Reviewing}
use Rattle.engine.proofs.terms.review.review_all.Given as goal

abbrev pub invariant-loop-i : goal.invariant-loop-i
invariant-loop-i l = (bs : Substitution) (cs : List Constraint) → ConstraintsHeld l.program l.initial.scratch bs cs l.trail l.kept → Reviewing l.program l.initial.scratch bs cs l.trail l.kept l.steps l.scratch l.i l.left
