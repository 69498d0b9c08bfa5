use Rattle.engine.proofs.TermLaws.{laid_of}
use Rattle.engine.proofs.LineLaws.{equation_full, equation_variable, right_puts, equation_no_variable, equation_no_right, equation_inner, equation_put}
use Rattle.engine.proofs.writer.line.put_equation.Goals as goal

pub returns-then-end-start : goal.returns-then-end-start
returns-then-end-start c = λ b names h g. equation_full names b c.if-end-start.true

pub returns-in_err-middle : goal.returns-in_err-middle
returns-in_err-middle c = rw c.from_residual.ensures (λ b names h g.
    equation_no_variable names b (equation_variable h c.equation_variable-x.ensures g c.if-end-start.false c.put_variable.ensures) c.in_err-middle.was)

pub returns-in_err-next : goal.returns-in_err-next
returns-in_err-next c = rw c.from_residual-in_err-next.ensures (λ b names h g.
    let v = equation_variable h c.equation_variable-x.ensures g c.if-end-start.false c.put_variable.ensures in let e = c.in_ok-middle.was in
    equation_no_right names b v e (c.put_term.ensures b.1 names h.right (right_puts b g (laid_of v e))) c.in_err-next.was)

pub returns : goal.returns
returns c = λ b names h g. let v = equation_variable h c.equation_variable-x.ensures g c.if-end-start.false c.put_variable.ensures in let e = c.in_ok-middle.was in
    equation_put names b (c.put_head.ensures _ _ _ (equation_inner names b _ v e (c.put_term.ensures b.1 names h.right (right_puts b g (laid_of v e))) c.in_ok-next.was))
