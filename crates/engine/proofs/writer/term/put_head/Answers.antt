use Rattle.engine.proofs.TermLaws.{head_put}
use Rattle.engine.proofs.writer.term.put_head.Goals as goal

pub returns : goal.returns
returns c = rw c.then_some.ensures (head_put _ _ c.requires.1.short c.put_word.ensures c.of_kind.ensures)
