-- `look_through` is a scan that finds nothing.
use Rattle.std.proofs.lemmas.Result.{err_from_is_err_and}
use Rattle.engine.proofs.LookLaws.{look_done, look_stops}
use Rattle.engine.proofs.writer.look.look_through.Goals as goal

pub returns-in_err-left : goal.returns-in_err-left
returns-in_err-left c =
    let p = err_from_is_err_and c.from_residual.result c.from_residual.ensures.1 in
    rw (p.1, p.2) (λ bs t f. look_stops bs t _ _ (c.in_err-left.ensures bs t f))

pub returns : goal.returns
returns c = λ bs t f. look_done bs t _ _ _ (c.in_ok-left.ensures bs t f)
