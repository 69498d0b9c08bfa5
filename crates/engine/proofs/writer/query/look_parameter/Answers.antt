-- `look_parameter` takes the steps of a query term.
use Rattle.engine.proofs.WriterLaws.{parameter_follows, parameter_looked, parameter_no_steps, parameter_step}
use Rattle.engine.proofs.writer.query.look_parameter.Goals as goal

pub look_through-requires : goal.look_through-requires
look_through-requires c = let q = c.requires.1 in (q.0, _, parameter_follows _ q.1 c.requires.0 c.if-entry-ne0.true)

pub returns-then-entry-ne0 : goal.returns-then-entry-ne0
returns-then-entry-ne0 c = λ bs b. parameter_looked _ b c.requires.0 _ _ c.if-entry-ne0.true (c.look_through.ensures bs _ (parameter_follows _ b c.requires.0 c.if-entry-ne0.true))

pub returns-then-steps-eq0 : goal.returns-then-steps-eq0
returns-then-steps-eq0 c = λ bs b. parameter_no_steps _ b c.requires.0 _ c.if-steps-eq0.true

pub returns : goal.returns
returns c = λ bs b. parameter_step _ b c.requires.0 _ c.if-entry-ne0.false c.if-steps-eq0.false
