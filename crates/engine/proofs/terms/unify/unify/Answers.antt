-- `unify` takes pair after pair, as the definition does, and falls by the steps left.
use native.Mathlib.Omega.{arith}
use Rattle.engine.proofs.UnifyLoop.{unifying_start, unifying_two, unify_out, unify_failed, unify_stops, unify_joined, unify_fewer, unify_pop, unify_full, unify_push}
use Rattle.engine.proofs.terms.unify.unify.Goals as goal

pub loop-rest-init : goal.loop-rest-init
loop-rest-init c = record { few = omega arith; goes_on = λ bs u v m. unifying_start m }

pub returns-then-rest-eq0 : goal.returns-then-rest-eq0
returns-then-rest-eq0 c = λ bs u v m. unify_out (c.loop-rest.invariant.goes_on bs u v m) c.if-rest-eq0.true

pub unify_pair-requires : goal.unify_pair-requires
unify_pair-requires c = let p = c.requires in let g = c.loop-rest.invariant.goes_on p.0 p.1 p.2 p.3 in (omega (arith, c.if-rest-eq0.false), (g.went.next, g.left, g.right, unifying_two g))

pub returns-in-Err : goal.returns-in-Err
returns-in-Err c = λ bs u v m. unify_stops (c.loop-rest.invariant.goes_on bs u v m) c.if-rest-eq0.false _ _ c.in-Err.ensures

pub returns-in-Ok-Fails : goal.returns-in-Ok-Fails
returns-in-Ok-Fails c = λ bs u v m. unify_failed (c.loop-rest.invariant.goes_on bs u v m) c.if-rest-eq0.false _ _ c.in-Ok-Fails.ensures c.in-Ok-Fails.field-0-is

pub returns-then-waiting-eq0 : goal.returns-then-waiting-eq0
returns-then-waiting-eq0 c = λ bs u v m. unify_joined (c.loop-rest.invariant.goes_on bs u v m) c.if-rest-eq0.false _ _ c.in-Ok-Goes.ensures c.in-Ok-Goes.field-0-is c.if-waiting-eq0.true

pub loop-rest-smaller-in-Ok-Goes : goal.loop-rest-smaller-in-Ok-Goes
loop-rest-smaller-in-Ok-Goes c = let p = c.requires in unify_fewer (c.loop-rest.invariant.goes_on p.0 p.1 p.2 p.3) c.if-rest-eq0.false _ _ c.in-Ok-Goes.ensures c.in-Ok-Goes.field-0-is

pub loop-rest-preserved-in-Ok-Goes : goal.loop-rest-preserved-in-Ok-Goes
loop-rest-preserved-in-Ok-Goes c = record {
  few = omega (arith, c.loop-rest.invariant.few);
  goes_on = λ bs u v m. unify_pop (c.loop-rest.invariant.goes_on bs u v m) c.if-rest-eq0.false _ _ c.in-Ok-Goes.ensures c.in-Ok-Goes.field-0-is c.if-waiting-eq0.false;
}

pub returns-then-waiting-ge-MOST_PAIRS : goal.returns-then-waiting-ge-MOST_PAIRS
returns-then-waiting-ge-MOST_PAIRS c = λ bs u v m. unify_full (c.loop-rest.invariant.goes_on bs u v m) c.if-rest-eq0.false _ _ c.in-Ok-Parts.ensures c.in-Ok-Parts.field-0-is c.if-waiting-ge-MOST_PAIRS.true c.at_bound.ensures

pub loop-rest-preserved : goal.loop-rest-preserved
loop-rest-preserved c = record {
  few = omega (arith, c.if-waiting-ge-MOST_PAIRS.false);
  goes_on = λ bs u v m. unify_push (c.loop-rest.invariant.goes_on bs u v m) c.if-rest-eq0.false _ _ c.in-Ok-Parts.ensures c.in-Ok-Parts.field-0-is c.if-waiting-ge-MOST_PAIRS.false;
}
