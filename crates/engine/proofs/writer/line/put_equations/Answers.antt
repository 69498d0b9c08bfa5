use native.Mathlib.Omega.{arith}
use Rattle.engine.proofs.TermLaws.{puts_behind}
use Rattle.engine.proofs.LineLaws.{going_start, going_next, going_end, next_missed, next_put}
use Rattle.engine.proofs.writer.line.put_equations.Goals as goal

pub loop-i-init : goal.loop-i-init
loop-i-init c = λ cs names h q. going_start _ cs h q

pub put_equation-requires : goal.put_equation-requires
put_equation-requires c =
    let q = c.requires in let g = going_next (c.loop-i.invariant q.0 q.1 q.2 q.3) c.loop-i-test.true in (omega (arith, c.loop-i-test.true, q.2.few), (g.one, q.1, g.here, puts_behind q.3 g.laid g.known))

pub returns-in_err-at : goal.returns-in_err-at
returns-in_err-at c = rw c.from_residual.ensures (λ cs names h q.
    let g = going_next (c.loop-i.invariant cs names h q) c.loop-i-test.true in next_missed g (c.put_equation.ensures g.one names g.here (puts_behind q g.laid g.known)) c.in_err-at.was)

pub loop-i-preserved : goal.loop-i-preserved
loop-i-preserved c = λ cs names h q. let g = going_next (c.loop-i.invariant cs names h q) c.loop-i-test.true in next_put g (c.put_equation.ensures g.one names g.here (puts_behind q g.laid g.known)) c.in_ok-at.was

pub returns : goal.returns
returns c = λ cs names h q. going_end (c.loop-i.invariant cs names h q) c.loop-i-test.false
