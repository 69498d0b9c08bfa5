-- `walk` follows a reference as the definition does: the invariant is that what is left to follow comes to the same term.
use native.Mathlib.Omega.{arith}
use Rattle.std.proofs.Common.{rules}
use Rattle.engine.proofs.WalkLoop.{walking_inside, walking_below, walking_variable, walking_node, walking_open, walking_on, walking_falls}
use Rattle.engine.proofs.terms.walk.walk.Goals as goal

pub part_at-part-requires : goal.part_at-part-requires
part_at-part-requires c = walking_inside c.loop-part.invariant c.requires

pub overflow_mul-here : goal.overflow_mul-here
overflow_mul-here c = omega (arith, walking_below c.loop-part.invariant c.requires)

pub overflow_add-here : goal.overflow_add-here
overflow_add-here c = omega (arith, walking_below c.loop-part.invariant c.requires)

pub returns-then-ne : goal.returns-then-ne
returns-then-ne c = walking_node c.loop-part.invariant _ c.part_at-part.ensures (search rules)

pub overflow_add-variable : goal.overflow_add-variable
overflow_add-variable c = omega (arith, walking_variable c.loop-part.invariant _ c.part_at-part.ensures c.requires (search rules))

pub bounds-scratch-variable : goal.bounds-scratch-variable
bounds-scratch-variable c = omega (arith, walking_variable c.loop-part.invariant _ c.part_at-part.ensures c.requires (search rules), c.requires.2.binds.long)

pub returns-then-entry-eq0 : goal.returns-then-entry-eq0
returns-then-entry-eq0 c = walking_open c.loop-part.invariant _ c.part_at-part.ensures (search rules) c.if-entry-eq0.true

pub overflow_sub-position : goal.overflow_sub-position
overflow_sub-position c = omega (arith, c.if-entry-eq0.false)

pub loop-part-smaller : goal.loop-part-smaller
loop-part-smaller c = walking_falls c.loop-part.invariant _ c.part_at-part.ensures (search rules) c.if-entry-eq0.false c.requires

pub loop-part-preserved : goal.loop-part-preserved
loop-part-preserved c = walking_on c.loop-part.invariant _ c.part_at-part.ensures (search rules) c.if-entry-eq0.false
