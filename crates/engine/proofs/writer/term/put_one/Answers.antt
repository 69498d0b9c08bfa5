use Rattle.engine.proofs.TermLaws.{one_full, last_put}
use Rattle.engine.proofs.writer.term.put_one.Goals as goal

pub returns-then-end-at : goal.returns-then-end-at
returns-then-end-at c = λ l. one_full c.if-end-at.true

pub returns : goal.returns
returns c = rw c.then_some.ensures (λ l. last_put _ c.put_word.ensures c.if-end-at.false)
