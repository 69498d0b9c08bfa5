-- `look_parameters` takes the steps of all query terms.
use Rattle.std.proofs.lemmas.Result.{err_from_is_err_and}
use Rattle.engine.proofs.QueryLaws.{from_next, from_stops, from_end}
use Rattle.engine.proofs.writer.query.look_parameters.Goals as goal

pub loop-x-preserved : goal.loop-x-preserved
loop-x-preserved c = λ bs b. from_next (c.loop-x.invariant bs b) c.loop-x-test.true _ (c.in_ok-left.ensures bs b)

pub returns-in_err-left : goal.returns-in_err-left
returns-in_err-left c =
    let p = err_from_is_err_and c.from_residual.result c.from_residual.ensures.1 in
    rw (p.1, p.2) (λ bs b. from_stops (c.loop-x.invariant bs b) c.loop-x-test.true _ (c.in_err-left.ensures bs b))

pub returns : goal.returns
returns c = λ bs b. from_end (c.loop-x.invariant bs b) c.loop-x-test.false
