-- One round, from answer to answer: what the loop of `round` keeps, and one law for each way in which it returns or goes on.
use Prim.Native.Nat.{ℕ, suc, ◌+◌, ◌≤◌, ◌<◌}
use mathlib.Core.Path.{◌≡◌, refl, sym, ap, subst, ◌∙◌}
use mathlib.Core.List.{List, [], ◌∷◌}
use native.Mathlib.Omega.{arith}
use lib.ListN.{length, take, length-append}
use borrow.Author.Tests.{le-leb, lt-leb}
use Rattle.rules.specs.Syntax.{Program, Relation}
use Rattle.rules.proofs.Accepted.{read_is_written}
use Rattle.semantics.specs.Steps as steps
use Rattle.semantics.specs.Steps.{Outcome, stop}
use Rattle.semantics.specs.Path.{Path, ChoicePoint}
use Rattle.semantics.specs.Answer.{answer}
use Rattle.semantics.specs.Run.{usable, page}
use Rattle.semantics.specs.Substitution.{argument}
use Rattle.semantics.specs.Round as round
use Rattle.semantics.specs.Round.{Next, Rounded, Tally, backtrack, broken, completed, end_of, give, list_answer, once, one_round, onward, output_full, over, repeats, search, spend, start}
use Rattle.semantics.specs.Invariant.{ProgramIn, StateFine}
use Rattle.semantics.proofs.Basics.{by_choose, clash}
use Rattle.semantics.proofs.StepLaws.{Spent}
use Rattle.semantics.proofs.Counts.{answer_spent}
use Rattle.semantics.proofs.Programs.{program_in}
use Rattle.semantics.proofs.Fair.{RoundedFair, search_fair}
use Rattle.semantics.proofs.Whole.{start_fine}
use Rattle.engine.specs.Layout.{positions}
use Rattle.engine.specs.Reference.{pos_of}
use Rattle.engine.specs.Memory.{Registers, Stored}
use Rattle.engine.specs.Trail.{Undone}
use Rattle.std.specs.Prelude.{Result, Ok, Err, Option, Some, None}
use Rattle.engine.specs.Report.{end_says}
use Rattle.engine.specs.Steps.{stop_of}
use Rattle.engine.specs.Take.{PathHeld, RelationIs, OverAs, ResumedAs, BacktrackAs, with_counts}
use Rattle.engine.specs.Search.{Searching, counted_to, Answers, SearchedAs}
use Rattle.engine.specs.Answer.{answer_says, AnswerStands, AnsweredAs}
use Rattle.engine.specs.Rounds.{Clean, FilledAs, IndexAs, TallyAs, Starting, BrokenAs, RoundedAs, Listing, Giving, GoesAs, LastAs, AnswerGivenAs}
use Rattle.engine.specs.declared.report.End.TheVariants as ends
use Rattle.engine.specs.declared.steps.Stopped.{Stopped}
use Rattle.engine.specs.declared.search.state.State.{State}
use Rattle.engine.specs.declared.search.state.Searched.{Searched}
use Rattle.engine.specs.declared.search.state.Searched.TheVariants.{Answer, Over}
use Rattle.engine.specs.declared.round.Filled.{Filled}
use Rattle.engine.specs.declared.round.Given.{Given}
use Rattle.engine.specs.declared.round.Tally as code
use Rattle.engine.specs.declared.round.Completed.{Completed}
use Rattle.engine.specs.declared.round.Broken.{Broken}
use Rattle.engine.proofs.FrameLaws.{table_same, names_same}
use Rattle.engine.proofs.StartLaws.{first_registers, start_stored}

-- all that is bound is undone
pub undone_clean : {P : Program} {ws s s' : List ℕ} {r : Registers} {n : ℕ} {p : Path} {cs : List ChoicePoint} → Stored P ws s r n p cs → Undone ws s s' [] → Clean ws s' P
undone_clean {P} {ws} {s} {s'} h u = record {
  long = omega (arith, h.roomy.long, u.long);
  table = table_same P ws s s' (λ i lo hi. u.above i (omega arith)) h.table;
  open_all = u.bindings_in.words;
  nameless = names_same s s' (λ i lo hi. u.above i (omega arith)) h.nameless;
}

-- the output is filled with the answers, whatever else the tally has
same_filled : {output : List ℕ} {f : Filled} {t : Tally} {left cuts : ℕ} → FilledAs output f t → FilledAs output f (record { left = left; room = t.room; cuts = cuts; written = t.written })
same_filled h = record { used = h.used; room = h.room; answers = h.answers; page_is = h.page_is }

-- and so is its index
same_index : {output : List ℕ} {f : Filled} {t : Tally} {left room cuts : ℕ} → IndexAs output f t → IndexAs output f (record { left = left; room = room; cuts = cuts; written = t.written })
same_index h = record { whole = h.whole; fits = h.fits; indexed = h.indexed }

-- Under way: a search from the state reached ends as the round does.
pub record Rounding (ws : List ℕ) (P : Program) (R : Relation) (k n : ℕ) (a : Tally) (s output : List ℕ) (st : State) (goal : ℕ) (f : Filled) (cuts : ℕ) : Type 0 where
  pub well_formed : ProgramIn P
  pub state : round.State
  pub fuel : ℕ
  pub under : Searching P well_formed n k ws s st goal cuts state
  pub enough : state.tally.left < fuel
  pub same : one_round P R k a.room a.left a.written ≡ search P n k fuel state
  pub tally : TallyAs output (record { left = st.steps; filled = f }) state.tally
  pub index : IndexAs output f state.tally

-- The start.

pub round_starts : {ws s output : List ℕ} {P : Program} {query : ℕ} {R : Relation} {k : ℕ} {t : code.Tally} {a : Tally} {n vars body : ℕ} → Starting ws s output P query R k t a → RelationIs ws n vars body R
    → Rounding ws P R k n a s output (record { head = 0; trail = 0; variables = vars; goals = 1; constraints = 0; calls = 0; choices = 0; steps = t.left }) body t.filled 0
round_starts {ws} {s} {output} {P} {query} {R} {k} {t} {a} {n} {vars} {body} h r =
    let w = read_is_written ws P h.ready.is_read in
    let wf : ProgramIn P = program_in P w.well_formed in
    let first : Tally = record { left = a.left; room = a.room; cuts = 0; written = a.written } in
    let small : a.room < 268435456 = omega (arith, h.tally.filled.room) in
    let few : R.vars ≤ 2048 = omega (arith, (wf query R h.ready.query_is).few_vars) in
    let below : body < positions = omega (arith, r.small) in
    let e : pos_of body ≡ body = omega (arith, below) in
    record {
      well_formed = wf;
      state = start R first;
      fuel = suc a.left;
      under = record {
        held = subst (λ v. Stored P ws s (first_registers v) 0 (start R first).path []) (sym r.vars_is) (start_stored P ws s R first h.ready.clean.long h.ready.clean.table h.ready.clean.open_all h.ready.clean.nameless few);
        task_at = record { base = omega (arith, below); goal = rw e r.body_at; inside = rw e r.inside; small = rw e r.small; below = omega (arith, below) };
        short = w.few_words;
        left_is = sym h.tally.left;
        cuts_are = refl;
        fits = omega (arith, h.tally.counted);
        fine = subst (λ m. StateFine P wf m k (start R first)) (sym r.params_is) (start_fine wf (wf query R h.ready.query_is) k first small);
      };
      enough = omega arith;
      same = ap (λ m. search P m k (suc a.left) (start R first)) (sym r.params_is);
      tally = record { left = h.tally.left; filled = same_filled h.tally.filled; counted = h.tally.counted };
      index = same_index h.index;
    }

-- a search leaves no more steps than it was given
fair_left : (m total : ℕ) (x : Rounded) (t : Tally) → RoundedFair m total x → ((x ≡ completed t) → t.left ≤ m) × ((e : round.End) → x ≡ broken e t → t.left ≤ m)
fair_left m total (completed u) t f = (λ e. let q : u ≡ t = cc in omega (arith, f.0, ap (λ v. v.left) q), λ d e. clash (cc))
fair_left m total (broken d u) t f = (λ e. clash (cc), λ c e. let q : u ≡ t = cc in omega (arith, f.0, ap (λ v. v.left) q))

-- the tally with fewer steps left, and another count of cuts
fewer_left : {output output' : List ℕ} {l m : ℕ} {f : Filled} {t : Tally} (c : ℕ) → TallyAs output (record { left = l; filled = f }) t → m ≤ l → length output' ≡ length output → take f.used output' ≡ take f.used output
    → TallyAs output' (record { left = m; filled = f }) (counted_to t m c)
fewer_left c h le e same = record {
  left = refl;
  filled = record { used = h.filled.used; room = h.filled.room ∙ ap usable (sym e); answers = h.filled.answers; page_is = same ∙ h.filled.page_is };
  counted = omega (arith, h.counted);
}

-- a round of relation R, with this tally at its start
abbrev pub RoundAs : List ℕ → Program → Relation → ℕ → Tally → List ℕ → List ℕ → Result Completed Broken → Type 0
RoundAs ws P R k a s output r = RoundedAs ws s output P (one_round P R k a.room a.left a.written) r

-- The search has stopped, in s'.
module _ {ws : List ℕ} {P : Program} {R : Relation} {k n : ℕ} {a : Tally} {s output : List ℕ} {st : State} {goal : ℕ} {f : Filled} {cuts : ℕ} (h : Rounding ws P R k n a s output st goal f cuts)
    (s' : List ℕ) (r : Result Searched Stopped) (told : SearchedAs P h.well_formed n k ws s' h.state h.fuel r) where
  fair : RoundedFair h.state.tally.left (h.state.tally.room + length (page h.state.tally.written)) (search P n k h.fuel h.state)
  fair = search_fair argument P n k _ h.fuel h.state h.enough refl

  pub round_stops : {e : Stopped} (b : Broken) → r ≡ Err e → (end_says b.end ≡ end_of (stop_of e.why)) × (b.tally ≡ record { left = e.left; filled = f }) → RoundAs ws P R k a s' output (Err b)
  unfolding SearchedAs RoundedAs
  round_stops {e} b is (is_end, is_tally) =
      let (c, q) : (c : ℕ) × (search P n k h.fuel h.state ≡ broken (end_of (stop_of e.why)) (counted_to h.state.tally e.left c)) = rw is at told in
      let few : e.left ≤ h.state.tally.left = (fair_left _ _ _ _ fair).1 _ q in
      let last : Tally = counted_to h.state.tally e.left c in
      record { end = end_of (stop_of e.why); last = last; is_round = h.same ∙ q; tally = subst (λ (t : code.Tally). TallyAs output t last) (sym is_tally) (fewer_left c h.tally (omega (arith, few, h.tally.left)) refl refl); is_end = is_end }

  pub over_held : {last : State} {c : ℕ} → r ≡ Ok (Over last c) → (p : Path) × PathHeld P ws s' last p []
  unfolding SearchedAs
  over_held {last} {c} e = let q : (search P n k h.fuel h.state ≡ completed (counted_to h.state.tally last.steps c)) × ((p : Path) × PathHeld P ws s' last p []) = rw e at told in q.1

  pub round_over : {last : State} {c : ℕ} {s'' : List ℕ} → r ≡ Ok (Over last c) → Clean ws s'' P → RoundAs ws P R k a s'' output (Ok (record { tally = record { left = last.steps; filled = f }; cuts = c }))
  unfolding SearchedAs RoundedAs
  round_over {last} {c} {s''} e clean =
      let q : (search P n k h.fuel h.state ≡ completed (counted_to h.state.tally last.steps c)) × ((p : Path) × PathHeld P ws s' last p []) = rw e at told in
      let few : last.steps ≤ h.state.tally.left = (fair_left _ _ _ _ fair).0 q.0 in
      record { last = counted_to h.state.tally last.steps c; is_round = h.same ∙ q.0; clean = clean; tally = fewer_left c h.tally (omega (arith, few, h.tally.left)) refl refl; index = same_index h.index; cuts_are = refl }

  pub round_answers : {last : State} {c : ℕ} → r ≡ Ok (Answer last c) → Answers P h.well_formed n k ws s' last c h.state h.fuel
  unfolding SearchedAs
  round_answers e = rw e at told

-- A path gives an answer, and the round goes on with what comes of it.
module _ {ws : List ℕ} {P : Program} {R : Relation} {k n : ℕ} {a : Tally} {s output : List ℕ} {st : State} {goal : ℕ} {f : Filled} {cuts : ℕ} (h : Rounding ws P R k n a s output st goal f cuts)
    {s' : List ℕ} {last : State} {c : ℕ} (x : Answers P h.well_formed n k ws s' last c h.state h.fuel) where
  abbrev pub tally_then : Tally
  tally_then = counted_to h.state.tally last.steps c

  abbrev pub given_then : Next
  given_then = give (once argument) n k x.choices tally_then (answer x.path n last.steps)

  pub round_gives : Giving P ws s' output last x.path x.choices n f c tally_then
  round_gives = record {
    answering = record { stored = x.held; short = h.under.short; sound = x.fine.sound; few_params = x.fine.query_made; used_fits = omega (arith, h.tally.filled.room) };
    tally = fewer_left c h.tally (omega (arith, x.fewer, h.tally.left)) refl refl;
    index = same_index h.index;
    cuts_are = refl;
    fits = omega (arith, x.fewer, h.tally.left, h.tally.counted);
  }

  goes_on : {y : Next} → given_then ≡ y → one_round P R k a.room a.left a.written ≡ onward y (λ next. search P n k x.rest next)
  goes_on e = h.same ∙ x.same ∙ ap (λ y. onward y (λ next. search P n k x.rest next)) e

  module _ (s'' output' : List ℕ) where
    pub round_lost : (b : Broken) → AnswerGivenAs P ws s'' output' last c given_then (Err b) → RoundAs ws P R k a s'' output' (Err b)
    unfolding AnswerGivenAs RoundedAs
    round_lost b told = subst (λ y. BrokenAs output' y b.end b.tally) (sym (goes_on told.is_next)) told.broken

    module _ (g : Given) (told : AnswerGivenAs P ws s'' output' last c given_then (Ok g)) where
      pub last_given : g.goal ≡ None → LastAs P ws s'' output' c given_then g.state g.filled
      unfolding AnswerGivenAs
      last_given e = rw e at told

      pub round_done : {s''' : List ℕ} → g.goal ≡ None → Clean ws s''' P → RoundAs ws P R k a s''' output' (Ok (record { tally = record { left = g.state.steps; filled = g.filled }; cuts = c }))
      unfolding RoundedAs
      round_done e clean = let q = last_given e in record { last = q.last; is_round = goes_on q.is_next; clean = clean; tally = q.tally; index = q.index; cuts_are = sym q.cuts_are }

      pub round_goes : {v : ℕ} → g.goal ≡ Some v → Rounding ws P R k n a s'' output' g.state v g.filled c × (g.state.steps < st.steps)
      unfolding AnswerGivenAs
      round_goes {v} e =
          let q : GoesAs P ws s'' output' last c given_then g.state v g.filled = rw e at told in
          let left_is : q.state.tally.left ≡ g.state.steps = sym q.tally.left in (
            record {
              well_formed = h.well_formed;
              state = q.state;
              fuel = x.rest;
              under = record {
                held = q.held;
                task_at = q.task_at;
                short = h.under.short;
                left_is = left_is;
                cuts_are = q.cuts_are;
                fits = omega (arith, q.fewer, x.fits);
                fine = x.next_fine q.state q.is_next;
              };
              enough = omega (arith, left_is, q.fewer, x.enough);
              same = goes_on q.is_next;
              tally = q.tally;
              index = q.index;
            },
            omega (arith, q.fewer, x.fewer, h.tally.left),
          )

-- What comes of an answer: the writer has written it, or not.

-- a stop leaves no more steps than there were
stop_left : (m : ℕ) (why : steps.Stop) (l : ℕ) → Spent {A = List ℕ} m m (stop why l) → l ≤ m
stop_left m steps.no_steps l h = omega arith
stop_left m (steps.at_bound b) l h = h.1

module _ {P : Program} {ws s output : List ℕ} {st : State} {p : Path} {cs : List ChoicePoint} {n : ℕ} {f : Filled} {cuts : ℕ} {a : Tally} (g : Giving P ws s output st p cs n f cuts a) (k : ℕ)
    {s' output' : List ℕ} {w : Result (Option ℕ × ℕ) Stopped} (same : length output' ≡ length output) (said : AnsweredAs P ws s output s' output' st p cs f.used (answer p n st.steps) w) where
  -- what the definition says of the answer, by the writer's case
  answered : {x : Result (Option ℕ × ℕ) Stopped} → w ≡ x → answer p n st.steps ≡ answer_says said.words x
  answered e = said.says ∙ ap (answer_says said.words) e

  abbrev given : Next
  given = give (once argument) n k cs a (answer p n st.steps)

  abbrev pub Gave : List ℕ → List ℕ → Result Given Broken → Type 0
  Gave s'' out x = AnswerGivenAs P ws s'' out st cuts given x

  spent : {o : Outcome (List ℕ)} → answer p n st.steps ≡ o → Spent st.steps st.steps o
  spent e = subst (Spent st.steps st.steps) e (answer_spent p n st.steps)

  given_as : {o : Outcome (List ℕ)} → answer p n st.steps ≡ o → given ≡ give (once argument) n k cs a o
  given_as e = ap (give (once argument) n k cs a) e

  -- the round is broken off
  breaks : (e : round.End) (l : ℕ) → l ≤ st.steps → given ≡ over (broken e (spend a l)) → (b : Broken) → end_says b.end ≡ e → b.tally ≡ record { left = l; filled = f } → Gave s' output' (Err b)
  unfolding AnswerGivenAs
  breaks e l few q b is_end is_tally = record {
    round = broken e (spend a l);
    is_next = q;
    broken = record {
      end = e;
      last = spend a l;
      is_round = refl;
      tally = subst (λ (t : code.Tally). TallyAs output' t (spend a l)) (sym is_tally) (fewer_left a.cuts g.tally few same said.leaves_lent.before);
      is_end = is_end;
    };
  }

  pub gives_full : {l : ℕ} → w ≡ Ok (None, l) → (b : Broken) → b ≡ record { end = ends.Output; tally = record { left = l; filled = f } } → Gave s' output' (Err b)
  gives_full {l} e b is =
      let long : a.room < length said.words = omega (arith, said.full l e, g.tally.filled.room) in
      breaks output_full l (spent (answered e)) (given_as (answered e) ∙ rw (lt-leb (length said.words) a.room long) refl) b (ap (λ (b : Broken). end_says b.end) is) (ap (λ (b : Broken). b.tally) is)

  pub gives_stop : {e : Stopped} → w ≡ Err e → (b : Broken) → (end_says b.end ≡ end_of (stop_of e.why)) × (b.tally ≡ record { left = e.left; filled = f }) → Gave s' output' (Err b)
  gives_stop {e} q b (is_end, is_tally) = breaks (end_of (stop_of e.why)) e.left (stop_left st.steps (stop_of e.why) e.left (spent (answered q))) (given_as (answered q)) b is_end is_tally

  -- It is written up to `next`, to be listed.
  pub wrote : {next l : ℕ} → w ≡ Ok (Some next, l) → Listing output output' f next a said.words
  wrote {next} {l} e = record { before = g.tally.filled; index = g.index; same_length = same; kept = said.leaves_lent.before; stands = said.written next l e; few = omega (arith, g.fits) }

  -- It is listed or left out: the path is left with the tally that follows.
  pub record AfterListing (output'' : List ℕ) (listed : Filled) (l : ℕ) : Type 0 where
    pub tally : Tally
    pub is_back : given ≡ backtrack cs tally
    pub tally_as : TallyAs output'' (record { left = l; filled = listed }) tally
    pub index : IndexAs output'' listed tally
    pub fewer : l ≤ st.steps
    pub cuts_are : tally.cuts ≡ cuts

  pub after_listing : {next l : ℕ} {output'' : List ℕ} {listed : Filled} → w ≡ Ok (Some next, l) → FilledAs output'' listed (list_answer (once argument) a k l said.words) × IndexAs output'' listed (list_answer (once argument) a k l said.words) → AfterListing output'' listed l
  after_listing {next} {l} {output''} {listed} e (filled, index) =
      let q : AnswerStands output output' f.used said.words next = said.written next l e in
      let fits : length said.words ≤ a.room = omega (arith, q.used_now, q.fits, g.tally.filled.room) in
      let few : l ≤ st.steps = spent (answered e) in
      let t = tallied in
      record {
        tally = list_answer (once argument) a k l said.words;
        is_back = given_as (answered e) ∙ rw (le-leb (length said.words) a.room fits) refl;
        tally_as = record { left = sym t.0; filled = filled; counted = omega (arith, few, g.fits, g.tally.filled.answers, filled.answers, t.2) };
        index = index;
        fewer = few;
        cuts_are = t.1 ∙ g.cuts_are;
      }
    where
      tallied : ((list_answer (once argument) a k l said.words).left ≡ l) × ((list_answer (once argument) a k l said.words).cuts ≡ a.cuts) × (length (list_answer (once argument) a k l said.words).written ≤ length a.written + 1)
      tallied = by_choose (λ (u : Tally). (u.left ≡ l) × (u.cuts ≡ a.cuts) × (length u.written ≤ length a.written + 1)) (repeats said.words a.written) _ _
          (λ r. (refl, refl, omega arith)) (λ r. (refl, refl, omega (arith, length-append a.written ((k, said.words) ∷ []))))

  -- Back from there; `after` is the state with the steps that the writer left.
  module _ {output'' : List ℕ} {listed : Filled} {l : ℕ} (y : AfterListing output'' listed l) (after : State) (is : after ≡ with_counts st st.trail st.constraints l) where
    pub listed_held : PathHeld P ws s' after p cs
    listed_held = subst (λ z. PathHeld P ws s' z p cs) (sym is) said.leaves_lent.stored

    left_is : after.steps ≡ l
    left_is = ap (λ z. z.steps) is

    -- the tally, with the steps left as the code has them
    tally_of : {m : ℕ} → m ≡ l → TallyAs output'' (record { left = m; filled = listed }) y.tally
    tally_of e = subst (λ z. TallyAs output'' (record { left = z; filled = listed }) y.tally) (sym e) y.tally_as

    module _ (s'' : List ℕ) (r : Option (State × ℕ)) (told : BacktrackAs P ws s'' after y.tally (backtrack cs y.tally) r) where
      -- no choice point is left ..
      pub gives_last : r ≡ None → Gave s'' output'' (Ok (record { filled = listed; state = after; goal = None }))
      unfolding BacktrackAs AnswerGivenAs
      gives_last e =
          let o : OverAs P ws s'' after y.tally (backtrack cs y.tally) = rw e at told in
          record { last = y.tally; is_next = y.is_back ∙ o.says; path = o.path; held = o.held; tally = tally_of left_is; index = y.index; cuts_are = y.cuts_are }

      -- .. or the round goes on from the newest
      pub gives_next : {next : State} {v : ℕ} → r ≡ Some (next, v) → Gave s'' output'' (Ok (record { filled = listed; state = next; goal = Some v }))
      unfolding BacktrackAs AnswerGivenAs
      gives_next {next} {v} e =
          let b : ResumedAs P ws s'' after y.tally (backtrack cs y.tally) next v = rw e at told in
          let same_left : next.steps ≡ l = b.left_is ∙ left_is in
          record {
            state = record { task = b.task; path = b.path; choices = b.choices; tally = y.tally };
            is_next = y.is_back ∙ b.says;
            held = b.held;
            task_at = b.task_at;
            tally = tally_of same_left;
            index = y.index;
            cuts_are = y.cuts_are;
            fewer = omega (arith, same_left, y.fewer);
          }
