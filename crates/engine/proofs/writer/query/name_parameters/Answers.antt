-- `name_parameters` names the variables of all query terms.
use Rattle.engine.proofs.QueryLaws.{naming_all_next}
use Rattle.engine.proofs.writer.query.name_parameters.Goals as goal

pub loop-x-preserved : goal.loop-x-preserved
loop-x-preserved c = λ bs b n. let g = c.loop-x.invariant bs b n in naming_all_next g c.loop-x-test.true (c.name_parameter-top.ensures bs g.names g.binds g.named.given)
