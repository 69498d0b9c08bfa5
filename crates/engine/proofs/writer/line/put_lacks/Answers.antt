use Rattle.engine.proofs.TermLaws.{puts_behind, laid_of}
use Rattle.engine.proofs.LineLaws.{lacks_missed, lacks_no_tag, lacks_put}
use Rattle.engine.proofs.writer.line.put_lacks.Goals as goal

pub returns-in_err-second : goal.returns-in_err-second
returns-in_err-second c = rw c.from_residual.ensures (λ names g. lacks_missed _ names _ c.of_kind.ensures (c.put_one.ensures g.from) c.in_err-second.was)

pub returns-in_err-third : goal.returns-in_err-third
returns-in_err-third c = rw c.from_residual-in_err-third.ensures (λ names g.
    let p = c.put_one.ensures g.from in let e = c.in_ok-second.was in lacks_no_tag _ names _ c.of_kind.ensures p e (c.put_one-2.ensures (laid_of p e).fits) c.in_err-third.was)

pub returns : goal.returns
returns c = λ names g. let p = c.put_one.ensures g.from in let e = c.in_ok-second.was in let d = laid_of p e in let u = c.put_one-2.ensures d.fits in let f = c.in_ok-third.was in
    lacks_put _ names _ c.of_kind.ensures p e u f (c.put_variable.ensures names (puts_behind (puts_behind g d g.known) (laid_of u f) g.known))
