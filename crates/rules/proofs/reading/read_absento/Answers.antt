-- `read_absento` reads a tag and a term that fill their part, as `read_absento` says.
use Rattle.rules.proofs.Readers.{passed_on, absento_stops, absento_rest}
use Rattle.rules.proofs.reading.read_absento.Goals as goal

pub returns-in_err-next : goal.returns-in_err-next
returns-in_err-next c = rw (passed_on _ _ c.from_residual.ensures.1) (absento_stops _ _ _ _ _ _ c.in_err-next.ensures)

pub returns : goal.returns
returns c = absento_rest _ _ _ _ _ _ c.in_ok-next.ensures c.read_one.ensures
