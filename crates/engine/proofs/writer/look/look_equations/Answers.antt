-- `look_equations` looks at the right sides in order, as the definition does.
use Rattle.std.proofs.lemmas.Result.{err_from_is_err_and}
use Rattle.engine.proofs.LookLaws.{rights_end, rights_next, rights_stop, rights_on}
use Rattle.engine.proofs.writer.look.look_equations.Goals as goal

pub look_through-requires : goal.look_through-requires
look_through-requires c = let p = c.requires in let n = rights_next (c.loop-i.invariant p.0 p.1 p.2) c.loop-i-test.true in (p.0, n.one.1, n.here)

pub loop-i-preserved : goal.loop-i-preserved
loop-i-preserved c = λ bs cs h. let g = c.loop-i.invariant bs cs h in let n = rights_next g c.loop-i-test.true in rights_on g n _ (c.in_ok-left.ensures bs n.one.1 n.here)

pub returns-in_err-left : goal.returns-in_err-left
returns-in_err-left c =
    let p = err_from_is_err_and c.from_residual.result c.from_residual.ensures.1 in
    rw (p.1, p.2) (λ bs cs h. let g = c.loop-i.invariant bs cs h in let n = rights_next g c.loop-i-test.true in rights_stop g n _ (c.in_err-left.ensures bs n.one.1 n.here))

pub returns : goal.returns
returns c = λ bs cs h. rights_end (c.loop-i.invariant bs cs h) c.loop-i-test.false
