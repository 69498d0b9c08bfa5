-- `write_answer` writes the answer of a path, as the definition has it.
use native.Mathlib.Omega.{arith}
use Rattle.std.proofs.lemmas.Result.{err_from_is_err_and}
use Rattle.engine.proofs.AnswerLaws.{answer_low, answer_binds, answer_kept, unnamed, stops_now, named_now, query_now, writing_now, apart_now, touched_now, names_now, halted_now, ends_now, answered_now}
use Rattle.engine.specs.Term.{Room}
use Rattle.engine.proofs.TermLaws.{room_same}
use Rattle.engine.proofs.writer.answer.write_answer.Goals as goal
use Rattle.engine.proofs.writer.answer.write_answer.Goals.{After-name_parameters-top}

-- the output up to the page's end
room_at : (c : After-name_parameters-top) → Room c.args.output.now c.min-end.result
room_at c = record { inside = omega arith; short = omega arith }

pub returns-in_err-left : goal.returns-in_err-left
returns-in_err-left c =
    let p = err_from_is_err_and c.from_residual.result c.from_residual.ensures.1 in
    rw (p.1, p.2) (λ P p cs a. stops_now a _ c.in_err-left.ensures)

pub name_parameters-top-requires : goal.name_parameters-top-requires
name_parameters-top-requires c = let a = c.requires.3 in (answer_low a, (_, answer_binds a, unnamed a.stored.nameless))

pub begin_answer-first-requires : goal.begin_answer-first-requires
begin_answer-first-requires c =
    let a = c.requires.3 in (room_at (goal.at.begin_answer-first-requires c).After-name_parameters-top, answer_low a, (_, _, query_now a c.name_parameters-top.ensures))

pub add_constraints-added-requires : goal.add_constraints-added-requires
add_constraints-added-requires c =
    let a = c.requires.3 in (writing_now a c.name_parameters-top.ensures (room_at (goal.at.add_constraints-added-requires c).After-name_parameters-top) c.begin_answer-first.ensures, (_, _, _, answer_kept a (named_now a c.name_parameters-top.ensures), a.sound))

pub clear_names-requires : goal.clear_names-requires
clear_names-requires c =
    let a = c.requires.3 in let room = room_at (goal.at.clear_names-requires c).After-name_parameters-top in (
      omega (arith, a.stored.roomy.long, (named_now a c.name_parameters-top.ensures).long, (apart_now a c.name_parameters-top.ensures room c.begin_answer-first.ensures _ c.add_constraints-added.ensures).long),
      (_, names_now a c.name_parameters-top.ensures room c.begin_answer-first.ensures _ c.add_constraints-added.ensures),
    )

pub returns-in_err-at : goal.returns-in_err-at
returns-in_err-at c =
    let room = room_at (goal.at.returns-in_err-at c).After-name_parameters-top in
    let p = err_from_is_err_and c.from_residual-in_err-at.result c.from_residual-in_err-at.ensures.1 in
    rw (p.1, p.2) (λ P p cs a. halted_now a c.name_parameters-top.ensures room c.begin_answer-first.ensures _ c.add_constraints-added.ensures c.in_ok-left.ensures c.clear_names.ensures _ c.in_err-at.was)

pub end_answer-requires : goal.end_answer-requires
end_answer-requires c =
    let a = c.requires.3 in let room = room_at (goal.at.end_answer-requires c).After-name_parameters-top in (
      room_same (touched_now a c.name_parameters-top.ensures room c.begin_answer-first.ensures _ c.add_constraints-added.ensures).long room,
      (c.args.output.now, _, ends_now a c.name_parameters-top.ensures room c.begin_answer-first.ensures _ c.add_constraints-added.ensures c.in_ok-left.ensures c.clear_names.ensures c.in_ok-at.was),
    )

pub returns : goal.returns
returns c =
    let room = room_at (goal.at.returns c).After-name_parameters-top in
    λ P p cs a. answered_now a c.name_parameters-top.ensures room c.begin_answer-first.ensures _ c.add_constraints-added.ensures c.in_ok-left.ensures c.clear_names.ensures c.in_ok-at.was c.min-end.ensures c.end_answer.ensures
