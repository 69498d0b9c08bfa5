-- `read_call` reads a relation's number and the arguments of a call, as `read_call` says.
use Rattle.rules.proofs.Readers.{passed_on, call_stops, call_rest}
use Rattle.rules.proofs.reading.read_call.Goals as goal

pub returns-in_err-next : goal.returns-in_err-next
returns-in_err-next c = rw (passed_on _ _ c.from_residual.ensures.1) (call_stops _ _ _ _ _ _ c.in_err-next.ensures)

pub returns : goal.returns
returns c = call_rest _ _ _ _ _ _ c.in_ok-next.ensures c.read_terms.ensures
