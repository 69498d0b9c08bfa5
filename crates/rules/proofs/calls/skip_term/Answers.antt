-- `skip_term` goes past the term at a place: from second part to second part, then past the last.
use mathlib.Core.Path.{◌∙◌}
use native.Mathlib.Omega.{arith}
use Rattle.std.proofs.Common.{ap, rules}
use Rattle.word.specs.Kind.{kind_number}
use Rattle.word.specs.declared.kind.Kind.TheVariants.{Pair}
use Rattle.word.proofs.KindLaws.{kind_number_other}
use Rattle.rules.proofs.Pass.{term_inside, skip_pair, skip_leaf}
use Rattle.rules.proofs.calls.skip_term.Goals as goal

pub part_at-part-requires : goal.part_at-part-requires
part_at-part-requires c = term_inside _ _ _ (c.loop-part.invariant c.requires.0 c.requires.1).1

pub overflow_add-result : goal.overflow_add-result
overflow_add-result c = omega (arith, term_inside _ _ _ (c.loop-part.invariant c.requires.0 c.requires.1).1)

pub returns-then-ne : goal.returns-then-ne
returns-then-ne c = λ t h.
    let q = c.loop-part.invariant t h in
    omega (arith, q.2, skip_leaf _ _ _ _ _ q.1 c.part_at-part.ensures (kind_number_other _ Pair (search rules)))

pub loop-part-preserved : goal.loop-part-preserved
loop-part-preserved c = λ t h.
    let q = c.loop-part.invariant t h in
    let o = skip_pair _ _ _ _ _ q.1 c.part_at-part.ensures (ap kind_number {y = Pair} (search rules)) in
    (o.rest, o.there, o.same ∙ q.2)
