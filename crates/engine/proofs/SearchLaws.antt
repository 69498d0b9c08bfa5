-- Turn after turn, as the code does it: the state under way leads to where the first one does.
use Rattle.std.specs.Prelude.{Ok, Err}
use Prim.Native.Nat.{ℕ, zero, suc, ◌+◌, ◌≤◌, ◌<◌}
use mathlib.Core.Path.{◌≡◌, refl, sym, ap, subst, ◌∙◌}
use mathlib.Core.Bool.{Bool, true, false}
use mathlib.Core.List.{List, []}
use native.Mathlib.Omega.{arith}
use lib.ListN.{length}
use Rattle.rules.specs.Syntax.{Goal, Program}
use Rattle.semantics.specs.Steps.{done}
use Rattle.semantics.specs.Path.{Path, ChoicePoint, Taken, goes, take_goal}
use Rattle.semantics.specs.Answer.{answer}
use Rattle.semantics.specs.Run.{page}
use Rattle.semantics.specs.Substitution.{argument}
use Rattle.semantics.specs.Round as round
use Rattle.semantics.specs.Round.{Next, Tally, after, broken, completed, end_of, give, going, once, onward, over, search, spend, turn}
use Rattle.semantics.specs.Invariant.{ProgramIn, Fine, StateFine}
use Rattle.semantics.proofs.Basics.{clash}
use Rattle.semantics.proofs.StepLaws.{Spent}
use Rattle.semantics.proofs.Counts.{taken_spent}
use Rattle.semantics.proofs.Fair.{NextFair, turn_fair}
use Rattle.semantics.proofs.Turn.{NextWell, TakenWell, GoesOn, open_of, goal_well, turn_keeps}
use Rattle.engine.specs.Reference.{TaskAt}
use Rattle.engine.specs.Steps.{stop_of}
use Rattle.engine.specs.Take.{PathHeld}
use Rattle.engine.specs.Turn.{Turning, took_goal, tallied, NextAs, TurnedAs}
use Rattle.engine.specs.Search.{count_cuts, Searching, counted_to, Answers, SearchedAs}
use Rattle.engine.specs.declared.search.state.State.{State}
use Rattle.engine.specs.declared.search.state.Turned.{Turned}
use Rattle.engine.specs.declared.steps.Stopped.{Stopped}
use Rattle.engine.specs.declared.search.state.Lead.TheVariants as lead
use Rattle.engine.specs.declared.search.state.Searched.TheVariants.{Answer, Over}

tallied_is : (t : Tally) (l : ℕ) (c : Bool) → tallied t l c ≡ counted_to t l (count_cuts t.cuts c)
tallied_is t l false = refl
tallied_is t l true = refl

count_few : (cuts : ℕ) (c : Bool) → count_cuts cuts c ≤ suc cuts
count_few cuts false = omega arith
count_few cuts true = omega arith

-- taking a goal costs a step at least
take_spent : (k : ℕ) (P : Program) (p : Path) (cs : List ChoicePoint) (base : ℕ) (x : Goal) (left : ℕ) (v : Taken) (m : ℕ) → take_goal k P p cs base x left ≡ done v m → m < left
take_spent k P p cs base x zero v m e = clash (cc)
take_spent k P p cs base x (suc l) v m e = let h : m ≤ l = subst (Spent l (suc l)) e (taken_spent argument k P p cs base x l) in omega arith

over_spent : (P : Program) (n k : ℕ) (state : round.State) (left : ℕ) (t : Tally) → after (once argument) n k state (took_goal k P state left) ≡ over (completed t) → 0 < left
over_spent P n k state zero t e = clash (cc)
over_spent P n k state (suc l) t e = omega arith

-- Under way from a first state: what is left to search leads to the same.
pub record Going (P : Program) (wf : ProgramIn P) (n k : ℕ) (ws s : List ℕ) (st : State) (w cuts : ℕ) (state₀ : round.State) (fuel₀ : ℕ) : Type 0 where
  pub state : round.State
  pub fuel : ℕ
  pub under : Searching P wf n k ws s st w cuts state
  pub enough : state.tally.left < fuel
  pub same : search P n k fuel₀ state₀ ≡ search P n k fuel state
  pub room : state.tally.room ≡ state₀.tally.room
  pub written : state.tally.written ≡ state₀.tally.written
  pub fewer : state.tally.left ≤ state₀.tally.left

module _ {P : Program} {wf : ProgramIn P} {n k : ℕ} {ws s : List ℕ} {st : State} {w cuts : ℕ} {state : round.State} (h : Searching P wf n k ws s st w cuts state) where
  pub search_due : Turning P ws s st w state
  search_due = record { due = record { stored = h.held; task_at = h.task_at; short = h.short; program_in = wf; sound = h.fine.fine.sound; task_in = h.fine.fine.tasks_in.0 }; left_is = h.left_is }

-- a turn of the search, with the fuel that is there
turn_of : (P : Program) (n k fuel : ℕ) (state : round.State) (x : Next) → state.tally.left < fuel → turn P n k state ≡ x → (f : ℕ) × (fuel ≡ suc f) × (search P n k fuel state ≡ onward x (λ next. search P n k f next))
turn_of P n k zero state x lt e = absurd (omega arith)
turn_of P n k (suc f) state x lt e = (f, refl, ap (λ y. onward y (λ next. search P n k f next)) e)

-- a turn has been taken
module _ {P : Program} {wf : ProgramIn P} {n k : ℕ} {ws s : List ℕ} {st : State} {w cuts : ℕ} {state₀ : round.State} {fuel₀ : ℕ} (g : Going P wf n k ws s st w cuts state₀ fuel₀)
    (s' : List ℕ) (r : Turned) (said : (Q : Program) (m : ℕ) (x : round.State) → Turning Q ws s st w x → TurnedAs Q m k ws s' x.tally (took_goal k Q x st.steps) (turn Q m k x) r) where
  told : NextAs P n k ws s' g.state.tally (took_goal k P g.state st.steps) (turn P n k g.state) r.lead r.state r.cut
  told = said P n g.state (search_due g.under)

  total : ℕ
  total = g.state.tally.room + length (page g.state.tally.written)

  fair : NextFair g.state.tally.left total (turn P n k g.state)
  unfolding total
  fair = turn_fair argument P n k g.state.tally.left total g.state refl refl

  -- the tally of the state under way, counted, is the first one's, counted
  tally_as : (l c : ℕ) → counted_to g.state.tally l c ≡ counted_to state₀.tally l c
  tally_as l c = rw (g.room, g.written) refl

  cuts_as : (l : ℕ) (c : Bool) → tallied g.state.tally l c ≡ counted_to state₀.tally l (count_cuts cuts c)
  cuts_as l c = tallied_is g.state.tally l c ∙ tally_as l (count_cuts g.state.tally.cuts c) ∙ ap (λ x. counted_to state₀.tally l (count_cuts x c)) g.under.cuts_are

  pub searched_stops : {e : Stopped} → r.lead ≡ lead.Stops e → SearchedAs P wf n k ws s' state₀ fuel₀ (Err e)
  unfolding NextAs SearchedAs
  searched_stops {e} is =
      let q : turn P n k g.state ≡ over (broken (end_of (stop_of e.why)) (spend g.state.tally e.left)) = rw is at told in
      let t = turn_of P n k g.fuel g.state _ g.enough q in
      (g.state.tally.cuts, g.same ∙ t.2 ∙ ap (broken (end_of (stop_of e.why))) (tally_as e.left g.state.tally.cuts))

  pub searched_over : {d : ℕ} → r.lead ≡ lead.Over → d ≡ count_cuts cuts r.cut → SearchedAs P wf n k ws s' state₀ fuel₀ (Ok (Over r.state d))
  unfolding NextAs SearchedAs
  searched_over {d} e f =
      let q : (turn P n k g.state ≡ over (completed (tallied g.state.tally r.state.steps r.cut))) × ((p : Path) × PathHeld P ws s' r.state p []) = rw e at told in
      let t = turn_of P n k g.fuel g.state _ g.enough q.0 in
      (g.same ∙ t.2 ∙ ap completed (cuts_as r.state.steps r.cut ∙ ap (counted_to state₀.tally r.state.steps) (sym f)), q.1)

  pub over_some : r.lead ≡ lead.Over → 0 < st.steps
  unfolding NextAs
  over_some e =
      let q : (turn P n k g.state ≡ over (completed (tallied g.state.tally r.state.steps r.cut))) × ((p : Path) × PathHeld P ws s' r.state p []) = rw e at told in
      omega (arith, g.under.left_is, over_spent P n k g.state g.state.tally.left _ q.0)

  keeps : {new : round.State} → turn P n k g.state ≡ going new → StateFine P wf n k new
  keeps e = (subst (NextWell P wf n k (open_of P wf n k g.state) g.state.tally.written g.state.tally.cuts) e (turn_keeps P wf n k g.state g.under.fine)).0

  -- the round goes on
  pub searched_goal : {d v : ℕ} → r.lead ≡ lead.Goal v → d ≡ count_cuts cuts r.cut → Going P wf n k ws s' r.state v d state₀ fuel₀ × (r.state.steps < st.steps)
  unfolding NextAs
  searched_goal {d} {v} e f =
      let q : (state : round.State) × (turn P n k g.state ≡ going state) × TaskAt ws v state.task × PathHeld P ws s' r.state state.path state.choices × (state.tally ≡ tallied g.state.tally r.state.steps r.cut) = rw e at told in
      go q.0 q.1 q.2 q.3 q.4
    where
      go : (new : round.State) → turn P n k g.state ≡ going new → TaskAt ws v new.task → PathHeld P ws s' r.state new.path new.choices → new.tally ≡ tallied g.state.tally r.state.steps r.cut
          → Going P wf n k ws s' r.state v d state₀ fuel₀ × (r.state.steps < st.steps)
      go new turned there held tally =
          let t = turn_of P n k g.fuel g.state (going new) g.enough turned in
          let falls : new.tally.left < g.state.tally.left = (subst (NextFair g.state.tally.left total) turned fair).0 in
          let is : new.tally ≡ counted_to state₀.tally r.state.steps (count_cuts cuts r.cut) = tally ∙ cuts_as r.state.steps r.cut in
          let left_is : new.tally.left ≡ r.state.steps = ap (λ x. x.left) is in (
            record {
              state = new;
              fuel = t.0;
              under = record { held = held; task_at = there; short = g.under.short; left_is = left_is; cuts_are = ap (λ x. x.cuts) is ∙ sym f; fits = omega (arith, f, count_few cuts r.cut, left_is, falls, g.under.left_is, g.under.fits); fine = keeps turned };
              enough = omega (arith, falls, t.1, g.enough);
              same = g.same ∙ t.2;
              room = ap (λ x. x.room) is;
              written = ap (λ x. x.written) is;
              fewer = omega (arith, falls, g.fewer);
            },
            omega (arith, left_is, falls, g.under.left_is),
          )

  -- a path gives an answer
  pub searched_answer : r.lead ≡ lead.Answer → SearchedAs P wf n k ws s' state₀ fuel₀ (Ok (Answer r.state cuts))
  unfolding NextAs SearchedAs
  searched_answer e =
      let q : (p : Path) × (cs : List ChoicePoint) × (turn P n k g.state ≡ give (once argument) n k cs (spend g.state.tally r.state.steps) (answer p n r.state.steps)) × PathHeld P ws s' r.state p cs × (p.stack ≡ []) × (p.calls ≡ k) × (took_goal k P g.state st.steps ≡ done (goes p cs) r.state.steps) = rw e at told in
      go q.0 q.1 q.2 q.3 q.4 q.6
    where
      go : (p : Path) (cs : List ChoicePoint) → turn P n k g.state ≡ give (once argument) n k cs (spend g.state.tally r.state.steps) (answer p n r.state.steps) → PathHeld P ws s' r.state p cs → p.stack ≡ []
          → took_goal k P g.state st.steps ≡ done (goes p cs) r.state.steps → Answers P wf n k ws s' r.state cuts state₀ fuel₀
      go p cs gives held none_waits took =
          let well : GoesOn P wf n k g.state.path g.state.task g.state.choices p cs
          = subst (TakenWell P wf n k g.state.path g.state.task g.state.choices) took (goal_well P wf n k g.state.path g.state.task.0 g.state.choices g.under.fine.fine_choices g.state.task.1 st.steps g.under.fine.fine) in
          let spent : r.state.steps < st.steps = take_spent k P g.state.path g.state.choices g.state.task.0 g.state.task.1 st.steps (goes p cs) r.state.steps took in
          let counted : spend g.state.tally r.state.steps ≡ counted_to state₀.tally r.state.steps cuts = tally_as r.state.steps g.state.tally.cuts ∙ ap (counted_to state₀.tally r.state.steps) g.under.cuts_are in
          let given : turn P n k g.state ≡ give (once argument) n k cs (counted_to state₀.tally r.state.steps cuts) (answer p n r.state.steps) = gives ∙ ap (λ x. give (once argument) n k cs x (answer p n r.state.steps)) counted in
          let t = turn_of P n k g.fuel g.state _ g.enough given in
          record {
            path = p;
            choices = cs;
            rest = t.0;
            same = g.same ∙ t.2;
            enough = omega (arith, spent, t.1, g.enough, g.under.left_is);
            fewer = omega (arith, spent, g.fewer, g.under.left_is);
            held = held;
            fine = subst (Fine P wf n k p) none_waits well.fine;
            next_fine = λ new e. keeps (given ∙ e);
            fits = omega (arith, spent, g.under.fits);
          }
