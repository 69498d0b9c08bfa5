-- `bind_parameters` binds the parameters one after the other: the invariant is that the arguments left lead to the same substitution.
use Prim.Native.Nat.{◌+◌, ◌-◌}
use native.Mathlib.Omega.{arith}
use Rattle.engine.specs.Call.{BindingParameters}
use Rattle.engine.proofs.ArgumentLaws.{First, pass_first, pass_step, pass_end}
use Rattle.engine.proofs.search.call.bind_parameters.Goals as goal
use Rattle.engine.proofs.search.call.bind_parameters.Goals.{In-loop-i}

-- the parameters that are left, as the caller has them
passing : (c : In-loop-i) → (let q = c.requires in BindingParameters c.args.program.now c.args.scratch.now c.loop-i.scratch q.0 q.1 q.2 (c.args.first + c.loop-i.i) c.loop-i.bound c.loop-i.at (c.args.count - c.loop-i.i))
passing c = let q = c.requires in c.loop-i.invariant q.0 q.1 q.2 q.3

first : (c : In-loop-i) → (let q = c.requires in First c.args.program.now c.loop-i.scratch q.0 q.1 (c.args.first + c.loop-i.i) c.loop-i.bound c.loop-i.at (passing c).args)
first c = pass_first (passing c) (omega (arith, c.loop-i-test.true))

pub last_variable-term-requires : goal.last_variable-term-requires
last_variable-term-requires c = let x = first (goal.at.last_variable-term-requires c).In-loop-i in (x.now_bound, _, x.follows)

pub bind-bound-requires : goal.bind-bound-requires
bind-bound-requires c =
    let l = (goal.at.bind-bound-requires c).In-loop-i in
    let x = first l in
    ((passing l).long, x.is_new, x.room, (c.last_variable-term.ensures _ _ x.follows).below)

pub skip-at-requires : goal.skip-at-requires
skip-at-requires c = let x = first (goal.at.skip-at-requires c).In-loop-i in (_, x.follows.stands)

pub loop-i-preserved : goal.loop-i-preserved
loop-i-preserved c =
    λ base to whole h. pass_step (c.loop-i.invariant base to whole h) (omega arith) (omega (arith, c.loop-i-test.true)) c.last_variable-term.ensures c.skip-at.ensures c.bind-bound.ensures.0 c.bind-bound.ensures.1

pub returns : goal.returns
returns c = λ base to whole h. pass_end (c.loop-i.invariant base to whole h) (omega (arith, c.loop-i-test.false))
