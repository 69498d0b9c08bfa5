-- `end_answer` puts the answer's own word in front.
use Rattle.engine.proofs.AnswerLaws.{ended_written}
use Rattle.engine.proofs.writer.answer.end_answer.Goals as goal

pub returns : goal.returns
returns c = λ o v h. ended_written _ _ _ _ _ _ h c.if-end-at.false (c.put_head.ensures o _ v (h c.if-end-at.false))
