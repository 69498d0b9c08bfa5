-- `put_parameter` puts a query term.
use Rattle.engine.proofs.WriterLaws.{parameter_puts, parameter_put, parameter_resolves}
use Rattle.engine.proofs.writer.query.put_parameter.Goals as goal

pub put_variable-requires : goal.put_variable-requires
put_variable-requires c = let q = c.requires in (q.0, (q.1.1, parameter_puts _ q.1.2 q.0 c.if-entry-eq0.true q.1.3))

pub returns-then-entry-eq0 : goal.returns-then-entry-eq0
returns-then-entry-eq0 c = λ bs names b g. let low = c.requires.0 in parameter_put _ b low names c.if-entry-eq0.true (c.put_variable.ensures names (parameter_puts _ b low c.if-entry-eq0.true g))

pub put_term-requires : goal.put_term-requires
put_term-requires c = let q = c.requires in (_, q.1.1, parameter_resolves _ q.1.2 q.0 c.if-entry-eq0.false, q.1.3)

pub returns : goal.returns
returns c = λ bs names b g. c.put_term.ensures _ names (parameter_resolves _ b c.requires.0 c.if-entry-eq0.false) g
