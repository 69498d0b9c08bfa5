-- `fill_relations` goes from relation to relation: those before the place are in the table.
use Rattle.engine.proofs.TableLaws.{fill_step, fill_end}
use Rattle.engine.proofs.search.table.fill_relations.Goals as goal

pub loop-at-preserved : goal.loop-at-preserved
loop-at-preserved c = λ P h few. (fill_step _ _ _ P _ _ _ _ _ (c.loop-at.invariant P h few) c.loop-at-test.true c.part_at.ensures).0

pub returns : goal.returns
returns c = (λ P h few. fill_end _ _ _ P _ _ (c.loop-at.invariant P h few) c.loop-at-test.false, (c.loop-at.invariant c.requires.0 c.requires.1 c.requires.2).low)
