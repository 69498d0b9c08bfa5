-- `clashes` goes over the constraints kept, as the definition does.
use mathlib.Core.Path.{◌≡◌}
use mathlib.Core.List.{List}
use Rattle.word.specs.Kind.{kind_number}
use Rattle.rules.specs.Syntax.{Sort, Constraint}
use Rattle.semantics.specs.Substitution.{Substitution}
use Rattle.engine.specs.Review.{other_kind, ConstraintsHeld}
use Rattle.engine.proofs.ReviewSteps.{Clashing}
use Rattle.engine.proofs.terms.review.clashes.Given as goal

abbrev pub invariant-loop-i : goal.invariant-loop-i
invariant-loop-i l = (bs : Substitution) (cs : List Constraint) (k : Sort) → ConstraintsHeld l.program l.scratch bs cs l.trail l.kept → kind_number l.kind ≡ other_kind k → Clashing l.program l.scratch bs cs k l.variable l.kept l.i
