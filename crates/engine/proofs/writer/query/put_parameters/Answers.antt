-- `put_parameters` puts all query terms.
use native.Mathlib.Omega.{arith}
use Rattle.engine.proofs.QueryLaws.{query_puts, putting_all_start, putting_all_next, putting_all_missed, putting_all_end}
use Rattle.engine.proofs.writer.query.put_parameters.Goals as goal

pub loop-x-init : goal.loop-x-init
loop-x-init c = λ bs names q. putting_all_start _ bs names _ _ _ c.requires.0

pub put_parameter-requires : goal.put_parameter-requires
put_parameter-requires c =
    let p = c.requires in let q = p.3 in let l = c.loop-x-test.true in (omega arith, (q.0, q.1, q.2.binds, query_puts p.1 q.2 (c.loop-x.invariant q.0 q.1 q.2).laid l))

pub loop-x-preserved : goal.loop-x-preserved
loop-x-preserved c = λ bs names q. let l = c.loop-x-test.true in let g = c.loop-x.invariant bs names q in putting_all_next g l (c.in_ok-at.ensures bs names q.binds (query_puts c.requires.1 q g.laid l))

pub returns-in_err-at : goal.returns-in_err-at
returns-in_err-at c =
    rw c.from_residual.ensures (λ bs names q. let l = c.loop-x-test.true in let g = c.loop-x.invariant bs names q in putting_all_missed g l (c.in_err-at.ensures bs names q.binds (query_puts c.requires.1 q g.laid l)))

pub returns : goal.returns
returns c = λ bs names q. putting_all_end (c.loop-x.invariant bs names q) c.loop-x-test.false
