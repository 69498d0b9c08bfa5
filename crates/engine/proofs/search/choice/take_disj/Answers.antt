-- `take_disj` puts the first alternative to wait, after a choice point where there are more.
use Rattle.engine.proofs.DisjTaken.{disj_full, disj_inside, disj_last, disj_many, disj_goes}
use Rattle.engine.proofs.search.choice.take_disj.Goals as goal

pub returns-then-st-ge-MOST_GOALS : goal.returns-then-st-ge-MOST_GOALS
returns-then-st-ge-MOST_GOALS c = λ P p cs base gs t. disj_full t _ c.if-st-ge-MOST_GOALS.true c.stopped_at.ensures

pub part_at-size-requires : goal.part_at-size-requires
part_at-size-requires c = disj_inside c.requires.5 c.part_at.ensures

pub returns-then-part_end-end : goal.returns-then-part_end-end
returns-then-part_end-end c = λ P p cs base gs t. disj_last gs t c.part_at.ensures c.part_end-end.ensures c.if-st-ge-MOST_GOALS.false c.part_at-size.ensures c.part_end.ensures c.if-part_end-end.true c.push_goal.ensures.0 c.push_goal.ensures.1

pub returns-then-st-ge-MOST_DISJUNCTIONS : goal.returns-then-st-ge-MOST_DISJUNCTIONS
returns-then-st-ge-MOST_DISJUNCTIONS c = λ P p cs base gs t. disj_many gs _ t c.part_at.ensures c.part_end-end.ensures c.if-st-ge-MOST_GOALS.false c.part_at-size.ensures c.part_end.ensures c.if-part_end-end.false c.if-st-ge-MOST_DISJUNCTIONS.true c.stopped_at-then-st-ge-MOST_DISJUNCTIONS.ensures

pub returns : goal.returns
returns c = λ P p cs base gs t. disj_goes gs t c.part_at.ensures c.part_end-end.ensures c.if-st-ge-MOST_GOALS.false c.part_at-size.ensures c.part_end.ensures c.if-part_end-end.false c.if-st-ge-MOST_DISJUNCTIONS.false c.push_choice-pushed.ensures.0 c.push_choice-pushed.ensures.1 c.push_goal-2.ensures.0 c.push_goal-2.ensures.1
