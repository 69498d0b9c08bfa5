use Rattle.engine.proofs.LineLaws.{half_low, half_high}
use Rattle.engine.proofs.writer.line.equation_variable.Goals as goal

pub returns-then-i-eq0 : goal.returns-then-i-eq0
returns-then-i-eq0 c = half_low _ _ c.if-i-eq0.true

pub returns : goal.returns
returns c = half_high _ _ c.if-i-eq0.false
