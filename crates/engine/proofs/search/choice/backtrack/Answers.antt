-- `backtrack` undoes what was bound since the newest choice point, and takes its next alternative.
use native.Mathlib.Omega.{arith}
use Rattle.engine.proofs.BacktrackTaken.{Backtracking, back_none, back_undoes, back_came, back_next, back_room, moved_room, back_last, back_more}
use Rattle.engine.proofs.search.choice.backtrack.Goals as goal
use Rattle.engine.proofs.search.choice.backtrack.Goals.{After-undo}

-- back at the newest choice point, as the caller has it
came : (c : After-undo) → Backtracking c.requires.0 c.args.program.now c.args.scratch.now c.undo.new.scratch c.args.st c.requires.2
came c = back_came c.args.st c.requires.3 c.if-st-eq0.false c.undo.ensures

pub returns-then-st-eq0 : goal.returns-then-st-eq0
returns-then-st-eq0 c = λ P p cs t h. back_none _ t h c.if-st-eq0.true

pub undo-requires : goal.undo-requires
undo-requires c = back_undoes c.args.st c.requires.3 c.if-st-eq0.false

pub part_at-size-requires : goal.part_at-size-requires
part_at-size-requires c = (back_next (came (goal.at.part_at-size-requires c).After-undo)).inside

pub saved_state-requires : goal.saved_state-requires
saved_state-requires c = let x = back_room (came (goal.at.saved_state-requires c).After-undo) in (x.0, omega (arith, c.if-st-eq0.false), c.requires.3.roomy.choices, x.1)

pub returns-then-part_end-end : goal.returns-then-part_end-end
returns-then-part_end-end c = λ P p cs t h. back_last (back_came _ h c.if-st-eq0.false c.undo.ensures) t c.part_at-size.ensures c.part_end.ensures c.if-part_end-end.true c.saved_state.ensures

pub overflow_add-scratch : goal.overflow_add-scratch
overflow_add-scratch c = omega (arith, (back_next (came (goal.at.overflow_add-scratch c).After-undo)).below)

pub overflow_add-scratch-2 : goal.overflow_add-scratch-2
overflow_add-scratch-2 c = let x = back_next (came (goal.at.overflow_add-scratch-2 c).After-undo) in omega (arith, x.below, x.within, x.small, c.part_at-size.ensures.is_payload)

pub saved_state-requires-2 : goal.saved_state-requires-2
saved_state-requires-2 c = let x = moved_room (came (goal.at.saved_state-requires-2 c).After-undo) _ in (x.0, omega (arith, c.if-st-eq0.false), c.requires.3.roomy.choices, x.1)

pub returns : goal.returns
returns c = λ P p cs t h. back_more (back_came _ h c.if-st-eq0.false c.undo.ensures) t c.if-st-eq0.false c.part_at-size.ensures c.part_end.ensures c.if-part_end-end.false c.saved_state-2.ensures
