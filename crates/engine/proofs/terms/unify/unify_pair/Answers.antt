-- `unify_pair` looks at one pair as one step of the definition's `unify` does.
use Rattle.std.proofs.lemmas.Result.{err_from_is_err_and}
use Rattle.semantics.specs.Substitution.{walk}
use Rattle.engine.proofs.UnifySteps.{look_ready, pair_fails, pair_agrees, pair_parts, bound_room, bound_follows, pair_occurs, pair_binds, pair_stops}
use Rattle.engine.proofs.terms.unify.unify_pair.Goals as goal

pub look-requires : goal.look-requires
look-requires c =
    let p = c.requires in let r = look_ready p.0 p.1.3 c.walk-a.ensures c.walk-b.ensures in
    (c.args.program.now, walk p.1.0 p.1.1, walk p.1.0 p.1.2, r.node_left, r.node_right, r.stands_left, r.stands_right)

pub occurs-requires : goal.occurs-requires
occurs-requires c =
    let p = c.requires in ((bound_room p.0 p.1.3 c.walk-a.ensures c.walk-b.ensures _ _ c.in-Binds.ensures).1, (p.1.0, _, bound_follows p.0 p.1.3 c.walk-a.ensures c.walk-b.ensures _ _ c.in-Binds.ensures))

pub bind-grown-requires : goal.bind-grown-requires
bind-grown-requires c = let p = c.requires in bound_room p.0 p.1.3 c.walk-a.ensures c.walk-b.ensures _ _ c.in-Binds.ensures

pub returns-in-Fails : goal.returns-in-Fails
returns-in-Fails c = λ bs u v m. pair_fails c.requires.0 m c.walk-a.ensures c.walk-b.ensures c.in-Fails.ensures

pub returns-in-Agrees : goal.returns-in-Agrees
returns-in-Agrees c = λ bs u v m. pair_agrees c.requires.0 m c.walk-a.ensures c.walk-b.ensures c.in-Agrees.ensures

pub returns-in-Parts : goal.returns-in-Parts
returns-in-Parts c = λ bs u v m. pair_parts c.requires.0 m c.walk-a.ensures c.walk-b.ensures _ _ _ _ c.in-Parts.ensures

pub returns-in_err-found-in-Binds : goal.returns-in_err-found-in-Binds
returns-in_err-found-in-Binds c = let p = err_from_is_err_and c.from_residual.result c.from_residual.ensures.1 in
    rw (p.1, p.2) (λ bs u v m. pair_stops c.requires.0 m c.walk-a.ensures c.walk-b.ensures _ _ c.in-Binds.ensures _ c.in_err-found-in-Binds.ensures)

pub returns-then-found : goal.returns-then-found
returns-then-found c = λ bs u v m. pair_occurs c.requires.0 m c.walk-a.ensures c.walk-b.ensures _ _ c.in-Binds.ensures _ _ c.in_ok-found-in-Binds.ensures c.if-found.true

pub returns-else-found : goal.returns-else-found
returns-else-found c = λ bs u v m. pair_binds c.requires.0 m c.walk-a.ensures c.walk-b.ensures _ _ c.in-Binds.ensures _ _ c.in_ok-found-in-Binds.ensures c.if-found.false c.bind-grown.ensures.0 c.bind-grown.ensures.1
