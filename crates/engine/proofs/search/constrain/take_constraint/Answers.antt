-- `take_constraint` keeps the constraint and reviews it.
use Rattle.engine.proofs.ConstrainTaken.{constraint_full, constraint_reviews, constraint_took}
use Rattle.engine.proofs.search.constrain.take_constraint.Goals as goal

pub returns-then-st-ge-MOST_CONSTRAINTS : goal.returns-then-st-ge-MOST_CONSTRAINTS
returns-then-st-ge-MOST_CONSTRAINTS c = λ P p cs base d k. constraint_full k _ c.if-st-ge-MOST_CONSTRAINTS.true c.stopped_at.ensures

pub review-reviewed-requires : goal.review-reviewed-requires
review-reviewed-requires c = (_, _, _, constraint_reviews c.requires.5 c.if-st-ge-MOST_CONSTRAINTS.false)

pub returns : goal.returns
returns c = λ P p cs base d k. constraint_took k c.if-st-ge-MOST_CONSTRAINTS.false c.review-reviewed.ensures c.with_counts.ensures c.after_review.ensures
