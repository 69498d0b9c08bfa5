-- `read_one` reads one term that fills its part, as `read_one` says.
use mathlib.Core.Path.{refl}
use Rattle.rules.proofs.Readers.{passed_on, one_told}
use Rattle.rules.proofs.reading.read_one.Goals as goal

pub returns-in_err-read_term : goal.returns-in_err-read_term
returns-in_err-read_term c = rw (passed_on _ _ c.from_residual.ensures.1) (one_told _ _ _ _ _ _ c.in_err-read_term.ensures refl)

pub returns : goal.returns
returns c = one_told _ _ _ _ _ _ c.in_ok-read_term.ensures c.fill.ensures
