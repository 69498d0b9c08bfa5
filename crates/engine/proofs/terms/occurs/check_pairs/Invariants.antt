-- `check_pairs` goes along the term as far as that needs no marks, and from there with them.
use mathlib.Core.Bool.{false}
use Rattle.rules.specs.Syntax.{Term}
use Rattle.semantics.specs.Substitution.{Substitution}
use Rattle.engine.specs.Entering.{unmarked_checks}
use Rattle.engine.specs.Walk.{Follows}
use Rattle.engine.proofs.SizeLaws.{followed_size}
use Rattle.engine.proofs.TraverseSteps.{Scanning}
use Rattle.engine.proofs.terms.occurs.check_pairs.Given as goal

abbrev pub invariant-loop-left : goal.invariant-loop-left
invariant-loop-left l = (bs : Substitution) (u : Term) → Follows l.program l.scratch bs l.term u → Scanning (unmarked_checks l.sought bs) l.program l.scratch (record { bound = false }) tt 0 l.steps u l.at l.left

abbrev pub decreases-loop-left : goal.decreases-loop-left
decreases-loop-left l = followed_size l.program l.scratch l.at
