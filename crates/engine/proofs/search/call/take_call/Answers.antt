-- `take_call` cuts, stops at a bound, or passes the arguments and puts the body to wait.
use native.Mathlib.Omega.{arith}
use Rattle.engine.specs.Take.{RelationIs}
use Rattle.engine.proofs.CallTaken.{callee, callee_few, call_listed, call_found, call_cut, call_variables, call_goals, call_passes, call_body, call_goes}
use Rattle.engine.proofs.search.call.take_call.Goals as goal
use Rattle.engine.proofs.search.call.take_call.Goals.{After-relation-called}

-- the relation that is called, as the caller has it
found : (c : After-relation-called) → (let r = c.relation-called.result in RelationIs c.args.program.now r.params r.vars r.body (callee c.requires.6))
found c = call_found c.requires.6 c.part_at.ensures c.relation-called.ensures

pub returns-then-round-st : goal.returns-then-round-st
returns-then-round-st c = λ P p cs base n ts k. call_cut k c.if-round-st.true

pub relation-called-requires : goal.relation-called-requires
relation-called-requires c = call_listed c.requires.6 c.part_at.ensures

pub overflow_add-st : goal.overflow_add-st
overflow_add-st c = omega (arith, (found (goal.at.overflow_add-st c).After-relation-called).vars_is, (callee_few c.requires.6).0, c.requires.6.taking.stored.roomy.made)

pub returns-then-st-called-gt-MOST_VARIABLES : goal.returns-then-st-called-gt-MOST_VARIABLES
returns-then-st-called-gt-MOST_VARIABLES c = λ P p cs base n ts k. call_variables k (call_found k c.part_at.ensures c.relation-called.ensures) _ c.if-round-st.false c.if-st-called-gt-MOST_VARIABLES.true c.stopped_at.ensures

pub returns-then-st-ge-MOST_GOALS : goal.returns-then-st-ge-MOST_GOALS
returns-then-st-ge-MOST_GOALS c = λ P p cs base n ts k. call_goals k (call_found k c.part_at.ensures c.relation-called.ensures) _ c.if-round-st.false c.if-st-called-gt-MOST_VARIABLES.false c.if-st-ge-MOST_GOALS.true c.stopped_at-then-st-ge-MOST_GOALS.ensures

pub bind_parameters-trail-requires : goal.bind_parameters-trail-requires
bind_parameters-trail-requires c = (_, _, _, call_passes c.requires.6 (found (goal.at.bind_parameters-trail-requires c).After-relation-called) c.if-st-called-gt-MOST_VARIABLES.false)

pub overflow_add-called : goal.overflow_add-called
overflow_add-called c = let q = call_body c.requires.6 (found (goal.at.overflow_add-called c).After-relation-called) c.if-st-called-gt-MOST_VARIABLES.false in omega (arith, q.0, q.1)

pub returns : goal.returns
returns c = λ P p cs base n ts k. let f = call_found k c.part_at.ensures c.relation-called.ensures in call_goes k f c.if-round-st.false c.if-st-called-gt-MOST_VARIABLES.false c.if-st-ge-MOST_GOALS.false
    (c.bind_parameters-trail.ensures _ _ _ (call_passes k f c.if-st-called-gt-MOST_VARIABLES.false)) c.push_goal.ensures.0 c.push_goal.ensures.1
