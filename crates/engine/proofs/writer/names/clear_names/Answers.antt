use native.Mathlib.Omega.{arith}
use Rattle.engine.proofs.NameLaws.{named_trans}
use Rattle.engine.proofs.NamingLaws.{Popped, pop, all_taken}
use Rattle.engine.proofs.writer.names.clear_names.Goals as goal
use Rattle.engine.proofs.writer.names.clear_names.Goals.{In-loop-last}

-- the name given last
popped_at : (c : In-loop-last) → Popped c.loop-last.scratch c.loop-last.last
popped_at c = let i = c.loop-last.invariant in pop i.0 (omega (arith, i.1.long, c.requires.0)) i.1.given c.loop-last-test.true

pub overflow_sub-at : goal.overflow_sub-at
overflow_sub-at c =
    omega (arith, (popped_at (goal.at.overflow_sub-at c).In-loop-last).some)

pub bounds-scratch-at : goal.bounds-scratch-at
bounds-scratch-at c =
    let p = popped_at (goal.at.bounds-scratch-at c).In-loop-last in omega (arith, p.low, p.some, c.loop-last.invariant.1.long, c.requires.0)

pub overflow_sub-last : goal.overflow_sub-last
overflow_sub-last c =
    (popped_at (goal.at.overflow_sub-last c).In-loop-last).word

pub bounds-scratch-at-in-loop-last : goal.bounds-scratch-at-in-loop-last
bounds-scratch-at-in-loop-last c =
    let p = popped_at (goal.at.bounds-scratch-at-in-loop-last c).In-loop-last in omega (arith, p.low, p.some, c.loop-last.invariant.1.long, c.requires.0)

pub loop-last-smaller : goal.loop-last-smaller
loop-last-smaller c =
    (popped_at (goal.at.loop-last-smaller c).In-loop-last).falls

pub loop-last-preserved : goal.loop-last-preserved
loop-last-preserved c =
    let p = popped_at (goal.at.loop-last-preserved c).In-loop-last in (p.names, named_trans c.loop-last.invariant.1 p.named)

pub returns : goal.returns
returns c = λ names h. all_taken c.loop-last.invariant.0 c.loop-last.invariant.1 c.loop-last-test.false
