-- `read_body` reads a goal that fills its part, as `read_body` says.
use mathlib.Core.Path.{refl}
use Rattle.rules.proofs.Readers.{passed_on, body_told}
use Rattle.rules.proofs.reading.read_body.Goals as goal

pub returns-in_err-read_goal : goal.returns-in_err-read_goal
returns-in_err-read_goal c = rw (passed_on _ _ c.from_residual.ensures.1) (body_told _ _ _ _ _ _ c.in_err-read_goal.ensures refl)

pub returns : goal.returns
returns c = body_told _ _ _ _ _ _ c.in_ok-read_goal.ensures c.fill.ensures
