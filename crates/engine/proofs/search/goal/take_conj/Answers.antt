-- `take_conj` lines the goals up in cells: the invariant is that the row of those left completes the row of all.
use native.Mathlib.Omega.{arith}
use Rattle.engine.proofs.ConjLaws.{Next, lining_next}
use Rattle.engine.proofs.ConjTaken.{conj_starts, conj_stops, conj_goes, conj_on}
use Rattle.engine.proofs.search.goal.take_conj.Goals as goal
use Rattle.engine.proofs.search.goal.take_conj.Goals.{At-loop-filled}

-- the next goal of the row, as the caller has it
next : (c : At-loop-filled) → Next c.args.program.now c.loop-filled.goal c.part_end-end.result
next c = let q = c.requires in lining_next _ _ _ _ _ _ _ _ _ _ _ (c.loop-filled.invariant q.0 q.1 q.2 q.3 q.4 q.5)

pub loop-filled-init : goal.loop-filled-init
loop-filled-init c = λ P p cs base gs t. conj_starts t c.part_at.ensures c.part_end-end.ensures

pub returns-then-filled-ge-MOST_GOALS : goal.returns-then-filled-ge-MOST_GOALS
returns-then-filled-ge-MOST_GOALS c = λ P p cs base gs t. conj_stops t _ (c.loop-filled.invariant P p cs base gs t) c.if-filled-ge-MOST_GOALS.true c.stopped_at.ensures

pub part_at-size-requires : goal.part_at-size-requires
part_at-size-requires c = (next (goal.at.part_at-size-requires c).At-loop-filled).inside

pub returns-then-part_end-end : goal.returns-then-part_end-end
returns-then-part_end-end c = λ P p cs base gs t. conj_goes t c.part_at.ensures c.part_end-end.ensures (c.loop-filled.invariant P p cs base gs t) c.if-filled-ge-MOST_GOALS.false c.part_at-size.ensures c.part_end.ensures c.if-part_end-end.true

pub overflow_add-goal-in-loop-filled : goal.overflow_add-goal-in-loop-filled
overflow_add-goal-in-loop-filled c = omega (arith, (next (goal.at.overflow_add-goal-in-loop-filled c).At-loop-filled).below)

pub overflow_add-goal-in-loop-filled-2 : goal.overflow_add-goal-in-loop-filled-2
overflow_add-goal-in-loop-filled-2 c = let x = next (goal.at.overflow_add-goal-in-loop-filled-2 c).At-loop-filled in omega (arith, x.below, x.within, x.small, c.part_at-size.ensures.is_payload)

pub loop-filled-preserved : goal.loop-filled-preserved
loop-filled-preserved c = λ P p cs base gs t. conj_on t (c.loop-filled.invariant P p cs base gs t) c.if-filled-ge-MOST_GOALS.false c.part_at-size.ensures c.part_end.ensures c.if-part_end-end.false
