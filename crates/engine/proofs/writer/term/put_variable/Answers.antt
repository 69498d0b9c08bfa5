use native.Mathlib.Omega.{arith}
use Rattle.engine.proofs.TermLaws.{variable_number, variable_put}
use Rattle.engine.proofs.writer.term.put_variable.Goals as goal

pub overflow_sub-number : goal.overflow_sub-number
overflow_sub-number c = let p = c.requires in omega (arith, variable_number p.0 p.1.1.given.named p.1.1.known)

pub returns : goal.returns
returns c = λ names g. variable_put c.requires.0 g.given.named g.known c.of_kind.ensures (c.put_one.ensures g.from)
