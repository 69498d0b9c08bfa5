-- `differ_lines` tries the two terms again. The trial is undone, or its equations are kept and listed.
use mathlib.Core.List.{reverse}
use Rattle.std.proofs.lemmas.Result.{err_from_is_err_and}
use Rattle.engine.proofs.ConstraintLaws.{writing_apart, trial_grown, trial_trailed, differ_failed, differ_stopped, tried, tried_line_is, tried_line, tried_stops, tried_done}
use Rattle.engine.proofs.writer.constraint.differ_lines.Goals as goal

pub undo-requires : goal.undo-requires
undo-requires c = let p = c.requires.1 in trial_trailed c.args.steps p.3 _ _ (c.unify-trial.ensures p.0 p.1 p.2 p.3.meets)

pub returns-in-Err : goal.returns-in-Err
returns-in-Err c = λ g bs u v d. differ_stopped c.args.steps d _ _ (c.unify-trial.ensures bs u v d.meets) g _ c.undo.ensures _ c.in-Err.is

pub undo-requires-then-not-joined : goal.undo-requires-then-not-joined
undo-requires-then-not-joined c = let p = c.requires.1 in trial_trailed c.args.steps p.3 _ _ (c.unify-trial.ensures p.0 p.1 p.2 p.3.meets)

pub returns-then-not-joined : goal.returns-then-not-joined
returns-then-not-joined c = λ g bs u v d. differ_failed c.args.steps d _ _ (c.unify-trial.ensures bs u v d.meets) g _ c.undo-then-not-joined.ensures c.in-Ok.is c.if-not-joined.true

pub keep_equations-requires : goal.keep_equations-requires
keep_equations-requires c = let p = c.requires.1 in trial_trailed c.args.steps p.3 _ _ (c.unify-trial.ensures p.0 p.1 p.2 p.3.meets)

pub overflow_sub-count : goal.overflow_sub-count
overflow_sub-count c = let p = c.requires.1 in trial_grown c.args.steps p.3 _ _ (c.unify-trial.ensures p.0 p.1 p.2 p.3.meets)

pub look_equations-requires : goal.look_equations-requires
look_equations-requires c = let p = c.requires.1 in let t = tried c.args.steps p.3 _ _ (c.unify-trial.ensures p.0 p.1 p.2 p.3.meets) c.in-Ok.is c.if-not-joined.false _ c.keep_equations.ensures in (p.0, reverse t.new, t.looks)

pub returns-in_err-after-in-Ok : goal.returns-in_err-after-in-Ok
returns-in_err-after-in-Ok c =
    let p = err_from_is_err_and c.from_residual.result c.from_residual.ensures.1 in
    rw (p.1, p.2) (λ g bs u v d. let t = tried c.args.steps d _ _ (c.unify-trial.ensures bs u v d.meets) c.in-Ok.is c.if-not-joined.false _ c.keep_equations.ensures in tried_stops t g _ (c.in_err-after-in-Ok.ensures bs (reverse t.new) t.looks))

pub add_line-next-requires : goal.add_line-next-requires
add_line-next-requires c = let p = c.requires.1 in let t = tried c.args.steps p.3 _ _ (c.unify-trial.ensures p.0 p.1 p.2 p.3.meets) c.in-Ok.is c.if-not-joined.false _ c.keep_equations.ensures in
    (writing_apart t.apart c.requires.0, (tried_line_is t, tried_line t))

pub returns-in_ok-after-in-Ok : goal.returns-in_ok-after-in-Ok
returns-in_ok-after-in-Ok c = λ g bs u v d. let t = tried c.args.steps d _ _ (c.unify-trial.ensures bs u v d.meets) c.in-Ok.is c.if-not-joined.false _ c.keep_equations.ensures in
    tried_done t g _ (c.in_ok-after-in-Ok.ensures bs (reverse t.new) t.looks) (c.add_line-next.ensures (writing_apart t.apart g) (tried_line_is t) (tried_line t))
