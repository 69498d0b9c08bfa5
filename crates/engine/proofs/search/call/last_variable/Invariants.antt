-- `last_variable` goes on while a variable is bound to a variable: the invariant is that what is left leads to the same one.
use mathlib.Core.Path.{◌≡◌}
use Rattle.rules.specs.Syntax.{Term}
use Rattle.semantics.specs.Substitution.{Substitution, argument}
use Rattle.engine.specs.Walk.{Follows}
use Rattle.engine.proofs.WalkLaws.{hops}
use Rattle.engine.proofs.search.call.last_variable.Given as goal

abbrev pub invariant-loop-part : goal.invariant-loop-part
invariant-loop-part l = (bs : Substitution) (t : Term) → Follows l.program l.scratch bs l.term t → (u : Term) × Follows l.program l.scratch bs l.at u × (argument bs u ≡ argument bs t)

abbrev pub decreases-loop-part : goal.decreases-loop-part
decreases-loop-part l = hops 2048 l.program l.scratch l.at
