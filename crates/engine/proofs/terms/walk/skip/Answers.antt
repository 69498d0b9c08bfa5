-- `skip` goes from second part to second part: each ends where the whole does.
use native.Mathlib.Omega.{arith}
use Rattle.std.proofs.Common.{ap, rules}
use Rattle.word.specs.Kind.{kind_number}
use Rattle.word.specs.declared.kind.Kind.TheVariants.{Pair}
use Rattle.word.proofs.KindLaws.{kind_number_other}
use Rattle.engine.proofs.ReferenceLaws.{stands_inside, skip_start, skip_ends, skip_on, skip_falls}
use Rattle.engine.proofs.terms.walk.skip.Goals as goal

pub loop-part-init : goal.loop-part-init
loop-part-init c = λ t h. skip_start t h

pub part_at-part-requires : goal.part_at-part-requires
part_at-part-requires c = stands_inside (c.loop-part.invariant c.requires.0 c.requires.1).stands

pub overflow_add-result : goal.overflow_add-result
overflow_add-result c = omega (arith, (c.loop-part.invariant c.requires.0 c.requires.1).stands.below)

pub returns-then-ne : goal.returns-then-ne
returns-then-ne c = λ t h. skip_ends (c.loop-part.invariant t h) c.part_at-part.ensures (kind_number_other _ Pair (search rules))

pub overflow_add-at : goal.overflow_add-at
overflow_add-at c = omega (arith, (c.loop-part.invariant c.requires.0 c.requires.1).stands.below)

pub overflow_add-at-in-loop-part : goal.overflow_add-at-in-loop-part
overflow_add-at-in-loop-part c = omega (arith, (skip_on (c.loop-part.invariant c.requires.0 c.requires.1) c.part_at-part.ensures (ap kind_number {y = Pair} (search rules))).stands.below)

pub loop-part-smaller : goal.loop-part-smaller
loop-part-smaller c = skip_falls (c.loop-part.invariant c.requires.0 c.requires.1) c.part_at-part.ensures (ap kind_number {y = Pair} (search rules))

pub loop-part-preserved : goal.loop-part-preserved
loop-part-preserved c = λ t h. skip_on (c.loop-part.invariant t h) c.part_at-part.ensures (ap kind_number {y = Pair} (search rules))
