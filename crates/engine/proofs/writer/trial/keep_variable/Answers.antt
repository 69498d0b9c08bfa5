use Rattle.engine.proofs.TrialLaws.{half_even, half_odd}
use Rattle.engine.proofs.writer.trial.keep_variable.Goals as goal

pub returns-then-i-eq0 : goal.returns-then-i-eq0
returns-then-i-eq0 c = half_even c.requires.0 c.requires.1 c.requires.2 c.if-i-eq0.true

pub returns : goal.returns
returns c = half_odd c.requires.0 c.requires.1 c.requires.2 c.if-i-eq0.false
