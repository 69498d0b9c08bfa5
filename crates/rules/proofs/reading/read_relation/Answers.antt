-- `read_relation` reads a relation, as `read_relation` says.
use native.Mathlib.Omega.{arith}
use Rattle.std.proofs.Common.{ap, rules}
use Rattle.word.specs.Kind.{kind_number}
use Rattle.word.specs.declared.kind.Kind.TheVariants.{Relation}
use Rattle.word.proofs.KindLaws.{kind_number_other}
use Rattle.rules.proofs.Readers.{passed_on, word_read, relation_kind, relation_overrun, relation_many, relation_stops, relation_rest}
use Rattle.rules.proofs.reading.read_relation.Goals as goal

pub returns-then-ne : goal.returns-then-ne
returns-then-ne c = rw c.at.ensures (relation_kind _ _ _ _ _ c.part_at-part.ensures (kind_number_other _ Relation (search rules)))

pub returns-then-program-at : goal.returns-then-program-at
returns-then-program-at c = rw c.at-then-program-at.ensures
    (relation_overrun _ _ _ _ _ c.part_at-part.ensures (ap kind_number {y = Relation} (search rules)) c.if-program-at.true)

pub returns-then-before-ge256 : goal.returns-then-before-ge256
returns-then-before-ge256 c = rw c.at-then-before-ge256.ensures
    (relation_many _ _ _ _ _ c.part_at-part.ensures (ap kind_number {y = Relation} (search rules)) c.if-program-at.false c.requires c.if-before-ge256.true)

pub returns-in_err-next : goal.returns-in_err-next
returns-in_err-next c = rw (passed_on _ _ c.from_residual.ensures.1)
    (relation_stops _ _ _ _ _ c.part_at-part.ensures (ap kind_number {y = Relation} (search rules)) c.if-program-at.false c.requires c.if-before-ge256.false _ _ c.in_err-next.ensures)

pub part_at-params-requires : goal.part_at-params-requires
part_at-params-requires c = omega (arith, (word_read _ _ _ _ _ c.in_ok-next.ensures).before_end, c.if-program-at.false)

pub returns : goal.returns
returns c = relation_rest _ _ _ _ _ c.part_at-part.ensures (ap kind_number {y = Relation} (search rules)) c.if-program-at.false c.requires c.if-before-ge256.false _ _ _
    c.in_ok-next.ensures c.part_at-params.ensures _ c.read_variables.ensures
