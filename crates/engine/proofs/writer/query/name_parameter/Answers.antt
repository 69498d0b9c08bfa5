-- `name_parameter` names the variables of a query term.
use Rattle.engine.proofs.WriterLaws.{parameter_named, parameter_resolves}
use Rattle.engine.proofs.writer.query.name_parameter.Goals as goal

pub returns-then-entry-eq0 : goal.returns-then-entry-eq0
returns-then-entry-eq0 c = λ bs names b n. parameter_named _ b c.requires.0 names c.if-entry-eq0.true (c.name_variable.ensures names n)

pub name_term-requires : goal.name_term-requires
name_term-requires c = let q = c.requires.1 in (_, q.1, parameter_resolves _ q.2 c.requires.0 c.if-entry-eq0.false, q.3)

pub returns : goal.returns
returns c = λ bs names b n. c.name_term.ensures _ names (parameter_resolves _ b c.requires.0 c.if-entry-eq0.false) n
