-- `undo` takes bindings back one by one: the invariant is that the trail's new part is shorter and all else as it was.
use native.Mathlib.Omega.{arith}
use Rattle.engine.proofs.TrailLaws.{undo_top, undo_again, undo_ends}
use Rattle.engine.proofs.terms.trail.undo.Goals as goal

pub bounds-scratch-top : goal.bounds-scratch-top
bounds-scratch-top c = let p = c.requires in let u = c.loop-top.invariant p.0 p.1 p.2 p.3 in omega (arith, (undo_top u c.loop-top-test.true).1, u.trailed.long)

pub bounds-scratch-variable : goal.bounds-scratch-variable
bounds-scratch-variable c = let p = c.requires in let u = c.loop-top.invariant p.0 p.1 p.2 p.3 in omega (arith, (undo_top u c.loop-top-test.true).0, u.trailed.long)

pub loop-top-preserved : goal.loop-top-preserved
loop-top-preserved c = λ ws new bs t. undo_again (c.loop-top.invariant ws new bs t) c.loop-top-test.true

pub returns : goal.returns
returns c = λ ws new bs t. undo_ends (c.loop-top.invariant ws new bs t) c.loop-top-test.false
