-- `add_constraints` goes over the constraints kept, as the definition does.
use Rattle.std.proofs.lemmas.Result.{err_from_is_err_and}
use Rattle.engine.proofs.ConstraintLaws.{adding_start, adding_writing, adding_next, adding_end, adding_stops, adding_on}
use Rattle.engine.proofs.writer.constraint.add_constraints.Goals as goal

pub loop-i-init : goal.loop-i-init
loop-i-init c = λ g bs cs made k d. adding_start g _ k d

pub add_constraint-requires : goal.add_constraint-requires
add_constraint-requires c = let p = c.requires.1 in let h = c.loop-i.invariant c.requires.0 p.0 p.1 p.2 p.3 p.4 in let n = adding_next h c.loop-i-test.true in (adding_writing h, (p.0, p.1, n.one, n.lists))

pub loop-i-preserved : goal.loop-i-preserved
loop-i-preserved c = λ g bs cs made k d. let h = c.loop-i.invariant g bs cs made k d in let n = adding_next h c.loop-i-test.true in adding_on h n _ _ (c.in_ok-place.ensures (adding_writing h) bs cs n.one n.lists)

pub returns-in_err-place : goal.returns-in_err-place
returns-in_err-place c =
    let p = err_from_is_err_and c.from_residual.result c.from_residual.ensures.1 in
    rw (p.1, p.2) (λ g bs cs made k d. let h = c.loop-i.invariant g bs cs made k d in let n = adding_next h c.loop-i-test.true in adding_stops h n _ (c.in_err-place.ensures (adding_writing h) bs cs n.one n.lists))

pub returns : goal.returns
returns c = λ g bs cs made k d. adding_end (c.loop-i.invariant g bs cs made k d) c.loop-i-test.false
