-- `look_parameters` takes the steps of all query terms.
use Rattle.semantics.specs.Substitution.{Substitution}
use Rattle.engine.specs.Walk.{Binds}
use Rattle.engine.proofs.QueryLaws.{LookingFrom}
use Rattle.engine.proofs.writer.query.look_parameters.Given as goal

abbrev pub invariant-loop-x : goal.invariant-loop-x
invariant-loop-x l = (bs : Substitution) → Binds l.program l.scratch bs → LookingFrom bs l.count l.steps l.x l.left
