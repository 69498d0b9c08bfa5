-- `take_equal` unifies, and reviews the constraints where something was bound.
use Rattle.engine.proofs.ConstrainTaken.{equal_first, equal_ready, equal_fails, equal_stops, equal_same, equal_kept, equal_reviewed}
use Rattle.engine.proofs.search.constrain.take_equal.Goals as goal

pub skip-second-requires : goal.skip-second-requires
skip-second-requires c = (_, equal_first c.requires.6)

pub unify-unified-requires : goal.unify-unified-requires
unify-unified-requires c = (_, _, _, equal_ready c.requires.6 c.skip-second.ensures)

pub returns-in-Err : goal.returns-in-Err
returns-in-Err c = λ P p cs base u v k. equal_stops k c.skip-second.ensures _ _ c.unify-unified.ensures c.in-Err.is

pub returns-then-not-joined : goal.returns-then-not-joined
returns-then-not-joined c = λ P p cs base u v k. equal_fails k c.skip-second.ensures _ _ c.unify-unified.ensures c.in-Ok.is c.if-not-joined.true c.with_counts-state.ensures

pub returns-then-unified-st : goal.returns-then-unified-st
returns-then-unified-st c = λ P p cs base u v k. equal_same k c.skip-second.ensures _ _ c.unify-unified.ensures c.in-Ok.is c.if-not-joined.false c.with_counts-state.ensures c.if-unified-st.true

pub review_all-reviewed-requires : goal.review_all-reviewed-requires
review_all-reviewed-requires c = (_, _, equal_kept c.requires.6 c.skip-second.ensures _ _ c.unify-unified.ensures)

pub returns : goal.returns
returns c = λ P p cs base u v k. equal_reviewed k c.skip-second.ensures _ _ c.unify-unified.ensures c.in-Ok.is c.if-not-joined.false c.with_counts-state.ensures c.if-unified-st.false c.review_all-reviewed.ensures c.after_review.ensures
