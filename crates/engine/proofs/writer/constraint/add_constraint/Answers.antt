-- `add_constraint` goes by the kind of the constraint's word.
use Rattle.rules.specs.Syntax.{differ, typed}
use Rattle.engine.proofs.ReviewSteps.{differ_at, typed_at}
use Rattle.engine.proofs.ConstraintLaws.{lists_differ, added_one}
use Rattle.engine.proofs.writer.constraint.add_constraint.Goals as goal

pub skip-other-requires : goal.skip-other-requires
skip-other-requires c = let p = c.requires.1 in let q = differ_at c.part_at.ensures p.2 p.3.keeps c.in-Differ.is in (q.left, q.first)

pub differ_lines-requires : goal.differ_lines-requires
differ_lines-requires c = let p = c.requires.1 in let q = differ_at c.part_at.ensures p.2 p.3.keeps c.in-Differ.is in (c.requires.0, (p.0, q.left, q.right, lists_differ p.3 q (c.skip-other.ensures q.left q.first)))

pub type_lines-requires : goal.type_lines-requires
type_lines-requires c = let p = c.requires.1 in let q = typed_at c.part_at.ensures p.2 p.3.keeps c.in_default.not-Differ c.in_default.not-Absento in (c.requires.0, (p.0, q.sort, q.term, record { binds = p.3.held; stands = q.stands }, q.is_kind))

pub returns-in-Differ : goal.returns-in-Differ
returns-in-Differ c = λ g bs cs d h. let q = differ_at c.part_at.ensures d h.keeps c.in-Differ.is in added_one d (differ q.left q.right) c.args.steps q.is (c.differ_lines.ensures g bs q.left q.right (lists_differ h q (c.skip-other.ensures q.left q.first)))

pub returns-in_default : goal.returns-in_default
returns-in_default c = λ g bs cs d h. let q = typed_at c.part_at.ensures d h.keeps c.in_default.not-Differ c.in_default.not-Absento in added_one d (typed q.sort q.term) c.args.steps q.is (c.type_lines.ensures g bs q.sort q.term (record { binds = h.held; stands = q.stands }) q.is_kind)
