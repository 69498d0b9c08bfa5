-- `review_differ` unifies on trial, and undoes the trial's bindings whatever it came to.
use Rattle.std.proofs.lemmas.Result.{err_from_is_err_and}
use Rattle.engine.proofs.ReviewSteps.{trial, differ_stops, differ_joined, differ_failed}
use Rattle.engine.proofs.terms.review.review_differ.Goals as goal

pub undo-requires : goal.undo-requires
undo-requires c = let p = c.requires in let t = trial c.args.left p.3 _ _ (c.unify-trial.ensures p.0 p.1 p.2 p.3) in (c.args.program.now, t.new, p.0, t.trailed)

pub returns-in_err-joined : goal.returns-in_err-joined
returns-in_err-joined c =
    let p = err_from_is_err_and c.from_residual.result c.from_residual.ensures.1 in
    rw (p.1, p.2) (λ bs u v m. differ_stops c.args.left m _ _ (c.unify-trial.ensures bs u v m) _ c.undo.ensures _ c.in_err-joined.was)

pub returns-then-joined : goal.returns-then-joined
returns-then-joined c = λ bs u v m. differ_joined c.args.left m _ _ (c.unify-trial.ensures bs u v m) _ c.undo.ensures _ _ c.in_ok-joined.was c.if-joined.true

pub returns-else-joined : goal.returns-else-joined
returns-else-joined c = λ bs u v m. differ_failed c.args.left m _ _ (c.unify-trial.ensures bs u v m) _ c.undo.ensures _ _ c.in_ok-joined.was c.if-joined.false
