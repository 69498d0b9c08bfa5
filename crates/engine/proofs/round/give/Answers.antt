-- `give` has the writer write a path's answer, lists it unless it is a repeat, and backtracks.
use Prim.Native.Nat.{ℕ}
use mathlib.Core.Path.{refl, ap}
use mathlib.Core.List.{List}
use Rattle.std.specs.Prelude.{Ok, Option}
use Rattle.rules.specs.Syntax.{Program}
use Rattle.semantics.specs.Path.{Path, ChoicePoint}
use Rattle.semantics.specs.Round.{Tally}
use Rattle.engine.specs.Rounds.{Giving}
use Rattle.engine.proofs.RoundLaws.{gives_full, gives_stop, wrote, AfterListing, after_listing, listed_held, gives_last, gives_next}
use Rattle.engine.proofs.round.give.Goals as goal
use Rattle.engine.proofs.round.give.Goals.{After-with_counts-after}

-- the answer is listed, or left out as a repeat
listed : (c : After-with_counts-after) {P : Program} (k : ℕ) {p : Path} {cs : List ChoicePoint} {a : Tally} (g : Giving P c.args.program.now c.args.scratch.now c.args.output.now c.args.st p cs c.args.params c.args.filled c.args.cuts a)
    → AfterListing g k c.write_answer.auto.output (c.in-Ok-Some-default.ensures P p cs g.answering) c.list_answer-listed.new.output c.list_answer-listed.result c.in-Ok-Some-default.left
listed c {P} k {p} {cs} {a} g =
    let same = c.write_answer.auto.output in
    let said = c.in-Ok-Some-default.ensures P p cs g.answering in
    let is = ap (λ (o : Option ℕ). Ok (o, c.in-Ok-Some-default.left)) c.in-Ok-Some-default.field-0-0-is in
    after_listing g k same said is (c.list_answer-listed.ensures _ k _ a said.words (wrote g k same said is))

pub list_answer-listed-requires : goal.list_answer-listed-requires
list_answer-listed-requires c =
    let q = c.requires in
    let said = c.in-Ok-Some-default.ensures q.0 q.1 q.2 q.4.answering in
    (_, q.3, said.words, wrote q.4 0 c.write_answer.auto.output said (ap (λ (o : Option ℕ). Ok (o, c.in-Ok-Some-default.left)) c.in-Ok-Some-default.field-0-0-is))

pub backtrack-requires : goal.backtrack-requires
backtrack-requires c =
    let q = c.requires in
    let said = c.in-Ok-Some-default.ensures q.0 q.1 q.2 q.4.answering in
    (q.0, q.1, q.2, listed_held q.4 0 c.write_answer.auto.output said (listed (goal.at.backtrack-requires c).After-with_counts-after 0 q.4) _ c.with_counts-after.ensures)

pub returns-in-Err : goal.returns-in-Err
returns-in-Err c = λ P k p cs a g. gives_stop g k c.write_answer.auto.output (c.in-Err.ensures P p cs g.answering) refl _ c.stop_round.ensures

pub returns-in-Ok-None-default : goal.returns-in-Ok-None-default
returns-in-Ok-None-default c = λ P k p cs a g.
    let none = c.in-Ok-None-default in
    gives_full g k c.write_answer.auto.output (none.ensures P p cs g.answering) (ap (λ (o : Option ℕ). Ok (o, none.left)) none.field-0-0-is) _ c.break_off.ensures

pub returns-in-None : goal.returns-in-None
returns-in-None c = λ P k p cs a g.
    let same = c.write_answer.auto.output in
    let said = c.in-Ok-Some-default.ensures P p cs g.answering in
    let y = listed (goal.at.returns-in-None c).After-with_counts-after k g in
    let is = c.with_counts-after.ensures in
    gives_last g k same said y _ is _ _ (c.in-None.ensures P p cs y.tally (listed_held g k same said y _ is)) refl

pub returns-in-Some : goal.returns-in-Some
returns-in-Some c = λ P k p cs a g.
    let same = c.write_answer.auto.output in
    let said = c.in-Ok-Some-default.ensures P p cs g.answering in
    let y = listed (goal.at.returns-in-Some c).After-with_counts-after k g in
    let is = c.with_counts-after.ensures in
    gives_next g k same said y _ is _ _ (c.in-Some.ensures P p cs y.tally (listed_held g k same said y _ is)) refl
