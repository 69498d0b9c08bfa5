-- `begin_answer` puts the query terms, if they fit.
use Rattle.engine.proofs.AnswerLaws.{begin_put}
use Rattle.engine.proofs.writer.answer.begin_answer.Goals as goal

pub returns : goal.returns
returns c = rw c.unwrap_or.ensures (λ bs names q. begin_put (c.put_parameters.ensures bs names q))
