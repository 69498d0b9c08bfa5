-- `clashes` goes over the constraints kept, as the definition does.
use Rattle.engine.proofs.ReviewSteps.{clash_next, clash_found, clash_again, clash_none}
use Rattle.engine.proofs.terms.review.clashes.Goals as goal

pub reaches-requires : goal.reaches-requires
reaches-requires c = let p = c.requires in let n = clash_next (c.loop-i.invariant p.0 p.1 p.2 p.3 p.4) c.loop-i-test.true in (p.0, n.first, p.2, record { held = p.3.held; keeps = n.keeps }, p.4)

pub returns-then-reaches : goal.returns-then-reaches
returns-then-reaches c = λ bs cs k h e. let n = clash_next (c.loop-i.invariant bs cs k h e) c.loop-i-test.true in clash_found n (c.reaches.ensures bs n.first k (record { held = h.held; keeps = n.keeps }) e) c.if-reaches.true

pub loop-i-preserved : goal.loop-i-preserved
loop-i-preserved c = λ bs cs k h e. let n = clash_next (c.loop-i.invariant bs cs k h e) c.loop-i-test.true in clash_again n (c.reaches.ensures bs n.first k (record { held = h.held; keeps = n.keeps }) e) c.if-reaches.false

pub returns : goal.returns
returns c = λ bs cs k h e. clash_none (c.loop-i.invariant bs cs k h e) c.loop-i-test.false
