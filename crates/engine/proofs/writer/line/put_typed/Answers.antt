use Rattle.engine.proofs.TermLaws.{puts_behind, laid_of}
use Rattle.engine.proofs.LineLaws.{typed_missed, typed_put}
use Rattle.engine.proofs.writer.line.put_typed.Goals as goal

pub returns-in_err-next : goal.returns-in_err-next
returns-in_err-next c = rw c.from_residual.ensures (λ names g. typed_missed _ names _ c.of_kind.ensures (c.put_one.ensures g.from) c.in_err-next.was)

pub returns : goal.returns
returns c = λ names g. let p = c.put_one.ensures g.from in let e = c.in_ok-next.was in typed_put _ names _ c.of_kind.ensures p e (c.put_variable.ensures names (puts_behind g (laid_of p e) g.known))
