-- `round` goes from answer to answer: a search from the state reached ends as the round does.
use mathlib.Core.Path.{refl, ap, ◌∙◌}
use mathlib.Core.List.{[]}
use Rattle.std.specs.Prelude.{Ok}
use Rattle.std.proofs.lemmas.Result.{err_from_is_err_and}
use Rattle.rules.specs.Syntax.{Program, Relation}
use Rattle.semantics.specs.Round as definition
use Rattle.engine.specs.Search.{Answers}
use Rattle.engine.specs.Rounds.{Starting}
use Rattle.engine.proofs.RoundLaws.{round_starts, round_stops, over_held, round_over, round_answers, round_gives, round_lost, last_given, round_done, round_goes}
use Rattle.engine.proofs.round.round.Goals as goal
use Rattle.engine.proofs.round.round.Goals.{In-Answer}

-- a path that gives an answer
answers : (c : In-Answer) {P : Program} {R : Relation} {a : definition.Tally} (i : Starting c.args.program.now c.args.scratch.now c.args.output.now P c.args.query R c.args.number c.args.tally a)
    → (let h = c.loop-searched.invariant.2 P R a i in Answers P h.well_formed c.relation-asked.result.params c.args.number c.args.program.now c.search.new.scratch c.in-Answer.last c.in-Answer.cut h.state h.fuel)
answers c {P} {R} {a} i =
    let h = c.loop-searched.invariant.2 P R a i in
    round_answers h _ _ (c.search.ensures P h.well_formed _ h.state h.fuel h.under h.enough) (c.in-Ok.is ∙ ap Ok c.in-Answer.is)

pub loop-searched-init : goal.loop-searched-init
loop-searched-init c = (refl, refl, λ P R a h. round_starts h (c.relation-asked.ensures P R h.ready.clean.table h.ready.query_is))

pub search-requires : goal.search-requires
search-requires c =
    let q = c.requires in
    let h = c.loop-searched.invariant.2 q.0 q.1 q.2 q.3 in
    (q.0, h.well_formed, _, h.state, h.under)

pub returns-in-Err : goal.returns-in-Err
returns-in-Err c = λ P R a i.
    let h = c.loop-searched.invariant.2 P R a i in
    round_stops h _ _ (c.search.ensures P h.well_formed _ h.state h.fuel h.under h.enough) _ c.in-Err.is c.stop_round.ensures

pub complete-requires : goal.complete-requires
complete-requires c =
    let q = c.requires in
    let h = c.loop-searched.invariant.2 q.0 q.1 q.2 q.3 in
    let o = over_held h _ _ (c.search.ensures q.0 h.well_formed _ h.state h.fuel h.under h.enough) (c.in-Ok.is ∙ ap Ok c.in-Over.is) in
    (q.0, _, o.0, [], o.1)

pub returns-in-Over : goal.returns-in-Over
returns-in-Over c = λ P R a i.
    let h = c.loop-searched.invariant.2 P R a i in
    let told = c.search.ensures P h.well_formed _ h.state h.fuel h.under h.enough in
    let over = c.in-Ok.is ∙ ap Ok c.in-Over.is in
    let o = over_held h _ _ told over in
    rw c.complete.ensures.0 (round_over h _ _ told over (c.complete.ensures.1 P _ o.0 [] o.1))

pub give-requires : goal.give-requires
give-requires c =
    let q = c.requires in
    let h = c.loop-searched.invariant.2 q.0 q.1 q.2 q.3 in
    let x = answers (goal.at.give-requires c).In-Answer q.3 in
    (q.0, x.path, x.choices, _, round_gives h x)

pub returns-in_err-given-in-Answer : goal.returns-in_err-given-in-Answer
returns-in_err-given-in-Answer c = λ P R a i.
    let h = c.loop-searched.invariant.2 P R a i in
    let x = answers (goal.at.returns-in_err-given-in-Answer c).In-Answer i in
    let p = err_from_is_err_and c.from_residual.result c.from_residual.ensures.1 in
    rw (p.1, p.2) (round_lost h x _ _ _ (c.in_err-given-in-Answer.ensures P _ x.path x.choices _ (round_gives h x)))

pub complete-requires-in-None : goal.complete-requires-in-None
complete-requires-in-None c =
    let q = c.requires in
    let h = c.loop-searched.invariant.2 q.0 q.1 q.2 q.3 in
    let x = answers (goal.at.complete-requires-in-None c).In-Answer q.3 in
    let o = last_given h x _ _ _ (c.in_ok-given-in-Answer.ensures q.0 _ x.path x.choices _ (round_gives h x)) c.in-None.is in
    (q.0, _, o.path, [], o.held)

pub returns-in-None : goal.returns-in-None
returns-in-None c = λ P R a i.
    let h = c.loop-searched.invariant.2 P R a i in
    let x = answers (goal.at.returns-in-None c).In-Answer i in
    let given = c.in_ok-given-in-Answer.ensures P _ x.path x.choices _ (round_gives h x) in
    let o = last_given h x _ _ _ given c.in-None.is in
    rw c.complete-in-None.ensures.0 (round_done h x _ _ _ given c.in-None.is (c.complete-in-None.ensures.1 P _ o.path [] o.held))

pub loop-searched-smaller : goal.loop-searched-smaller
loop-searched-smaller c =
    let q = c.requires in
    let h = c.loop-searched.invariant.2 q.0 q.1 q.2 q.3 in
    let x = answers (goal.at.loop-searched-smaller c).In-Answer q.3 in
    (round_goes h x _ _ _ (c.in_ok-given-in-Answer.ensures q.0 _ x.path x.choices _ (round_gives h x)) c.in-Some.is).1

pub loop-searched-preserved : goal.loop-searched-preserved
loop-searched-preserved c = (
  c.give.auto.scratch ∙ c.search.auto.scratch ∙ c.loop-searched.invariant.0,
  c.give.auto.output ∙ c.loop-searched.invariant.1,
  λ P R a i.
      let h = c.loop-searched.invariant.2 P R a i in
      let x = answers (goal.at.loop-searched-preserved c).In-Answer i in
      (round_goes h x _ _ _ (c.in_ok-given-in-Answer.ensures P _ x.path x.choices _ (round_gives h x)) c.in-Some.is).0,
)
