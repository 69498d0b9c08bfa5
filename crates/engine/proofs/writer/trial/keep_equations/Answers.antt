use native.Mathlib.Omega.{arith}
use lib.ListN.{length-set}
use Rattle.engine.proofs.TrialLaws.{keeping_start, keeping_end, Newest, newest, newest_low, newest_some, newest_taken}
use Rattle.engine.proofs.writer.trial.keep_equations.Goals as goal
use Rattle.engine.proofs.writer.trial.keep_equations.Goals.{In-loop-top}

-- the newest binding that is left, for the bindings that the caller knows of
now_at : (c : In-loop-top) → (let q = c.requires in Newest q.0 c.args.scratch.now c.loop-top.scratch q.1 q.2 c.args.mark c.loop-top.top)
now_at c = let q = c.requires in newest (c.loop-top.invariant q.0 q.1 q.2 q.3) c.loop-top-test.true

pub loop-top-init : goal.loop-top-init
loop-top-init c = λ ws new bs h. keeping_start h

pub bounds-scratch-at : goal.bounds-scratch-at
bounds-scratch-at c =
    let g = now_at (goal.at.bounds-scratch-at c).In-loop-top in omega (arith, g.few, g.long, c.loop-top-test.true)

pub bounds-scratch-x : goal.bounds-scratch-x
bounds-scratch-x c =
    let g = now_at (goal.at.bounds-scratch-x c).In-loop-top in omega (arith, newest_low g, g.long)

pub overflow_sub-scratch : goal.overflow_sub-scratch
overflow_sub-scratch c =
    newest_some (now_at (goal.at.overflow_sub-scratch c).In-loop-top)

pub bounds-scratch-at-in-loop-top : goal.bounds-scratch-at-in-loop-top
bounds-scratch-at-in-loop-top c =
    let g = now_at (goal.at.bounds-scratch-at-in-loop-top c).In-loop-top in omega (arith, g.few, g.long, c.loop-top-test.true)

pub bounds-scratch-x-in-loop-top : goal.bounds-scratch-x-in-loop-top
bounds-scratch-x-in-loop-top c =
    let g = now_at (goal.at.bounds-scratch-x-in-loop-top c).In-loop-top in simp length-set (omega (arith, newest_low g, g.long))

pub keep_variable-requires : goal.keep_variable-requires
keep_variable-requires c =
    let g = now_at (goal.at.keep_variable-requires c).In-loop-top in (simp length-set (omega (arith, g.long)), omega (arith, g.few, c.loop-top-test.true), newest_low g)

pub loop-top-preserved : goal.loop-top-preserved
loop-top-preserved c = λ ws new bs h. newest_taken (newest (c.loop-top.invariant ws new bs h) c.loop-top-test.true) c.loop-top-test.true c.keep_variable.ensures

pub returns : goal.returns
returns c = λ ws new bs h. keeping_end (c.loop-top.invariant ws new bs h) c.loop-top-test.false
