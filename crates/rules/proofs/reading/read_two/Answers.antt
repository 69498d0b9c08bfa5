-- `read_two` reads two terms that fill their part, as `read_two` says.
use Rattle.rules.proofs.Readers.{passed_on, two_stops, two_rest}
use Rattle.rules.proofs.reading.read_two.Goals as goal

pub returns-in_err-next : goal.returns-in_err-next
returns-in_err-next c = rw (passed_on _ _ c.from_residual.ensures.1) (two_stops _ _ _ _ _ _ c.in_err-next.ensures)

pub returns : goal.returns
returns c = two_rest _ _ _ _ _ _ c.in_ok-next.ensures c.read_one.ensures
