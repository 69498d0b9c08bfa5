-- `review` goes by the kind of the constraint's word.
use Rattle.engine.proofs.ReviewSteps.{differ_at, absento_at, typed_at, review_none, review_differ, review_absento, review_typed}
use Rattle.engine.proofs.terms.review.review.Goals as goal

pub returns-then-steps-eq0 : goal.returns-then-steps-eq0
returns-then-steps-eq0 c = λ bs cs d h. review_none h.whole d c.args.steps c.if-steps-eq0.true

pub skip-second-requires : goal.skip-second-requires
skip-second-requires c = let p = c.requires in let q = differ_at c.part_at-kind.ensures p.2 p.3.keeps c.in-Differ.is in (q.left, q.first)

pub review_differ-requires : goal.review_differ-requires
review_differ-requires c = let p = c.requires in let q = differ_at c.part_at-kind.ensures p.2 p.3.keeps c.in-Differ.is in
    (p.0, q.left, q.right, record { held = p.3.whole.held; first = q.first; second = q.second _ (c.skip-second.ensures q.left q.first); trail_is = p.3.whole.trail_is })

pub type_fails-fails-requires : goal.type_fails-fails-requires
type_fails-fails-requires c = let p = c.requires in let q = typed_at c.part_at-kind.ensures p.2 p.3.keeps c.in_default.not-Differ c.in_default.not-Absento in let z = c.kinds_of_type-atom.ensures q.sort q.is_kind in
    (p.0, p.1, q.sort, q.term, record { whole = p.3.whole; stands = q.stands; is_atom = z.0; is_other = z.1 })

pub returns-in-Differ : goal.returns-in-Differ
returns-in-Differ c = λ bs cs d h. let q = differ_at c.part_at-kind.ensures d h.keeps c.in-Differ.is in
    review_differ h.whole d c.args.steps c.if-steps-eq0.false q.left q.right q.is _ _ (c.review_differ.ensures bs q.left q.right (record { held = h.whole.held; first = q.first; second = q.second _ (c.skip-second.ensures q.left q.first); trail_is = h.whole.trail_is }))

pub returns-in-Absento : goal.returns-in-Absento
returns-in-Absento c = λ bs cs d h. let q = absento_at c.part_at-kind.ensures d h.keeps c.in-Absento.is in
    review_absento h.whole d c.args.steps c.if-steps-eq0.false q.tag q.term q.is _ (c.review_absento.ensures bs q.tag q.term (record { held = h.whole.held; keeps = q.keeps }))

pub returns-in_default : goal.returns-in_default
returns-in_default c = λ bs cs d h. let q = typed_at c.part_at-kind.ensures d h.keeps c.in_default.not-Differ c.in_default.not-Absento in let z = c.kinds_of_type-atom.ensures q.sort q.is_kind in
    review_typed h.whole d c.args.steps c.if-steps-eq0.false q.sort q.term q.is (c.type_fails-fails.ensures bs cs q.sort q.term (record { whole = h.whole; stands = q.stands; is_atom = z.0; is_other = z.1 }))
