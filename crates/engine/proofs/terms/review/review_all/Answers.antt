-- `review_all` goes over the constraints kept, as the definition does.
use Rattle.std.proofs.lemmas.Result.{err_from_is_err_and}
use Rattle.engine.proofs.ReviewSteps.{reviews_next, reviews_end, review_breaks, review_stops, review_again}
use Rattle.engine.proofs.terms.review.review_all.Goals as goal

pub review-requires : goal.review-requires
review-requires c = let p = c.requires in let g = c.loop-i.invariant p.0 p.1 p.2 in let n = reviews_next g c.loop-i-test.true in (p.0, p.1, n.first, record { whole = g.whole; keeps = n.keeps })

pub returns-in_err-fails : goal.returns-in_err-fails
returns-in_err-fails c =
    let p = err_from_is_err_and c.from_residual.result c.from_residual.ensures.1 in
    rw (p.1, p.2) (λ bs cs h. review_stops (c.loop-i.invariant bs cs h) c.loop-i-test.true _ _ c.in_err-fails.ensures)

pub returns-then-fails : goal.returns-then-fails
returns-then-fails c = λ bs cs h. review_breaks (c.loop-i.invariant bs cs h) c.loop-i-test.true _ _ _ c.in_ok-fails.ensures c.if-fails.true

pub loop-i-preserved : goal.loop-i-preserved
loop-i-preserved c = λ bs cs h. review_again (c.loop-i.invariant bs cs h) c.loop-i-test.true _ _ _ c.in_ok-fails.ensures c.if-fails.false

pub returns : goal.returns
returns c = λ bs cs h. reviews_end (c.loop-i.invariant bs cs h) c.loop-i-test.false
