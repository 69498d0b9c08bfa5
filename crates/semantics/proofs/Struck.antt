-- A run beside the old run with endless output: turn for turn the same, but that later repeats are struck out, until the output is full. Document 02, Note 2.
use Prim.Native.Nat.{◌<◌, ◌≤◌, suc, zero, ℕ}
use mathlib.Core.Bool.{Bool, false, true}
use mathlib.Core.List.{List, [], ◌++◌, ◌∷◌}
use mathlib.Core.Logic.{◌⊎◌, inl, inr, ⊎_elim}
use mathlib.Core.Path.{◌∙◌, ◌≡◌, ap, refl, subst, sym}
use lib.Dec.{eqb, leb}
use lib.ListN.{length}
use Rattle.rules.specs.Reading.{choose}
use Rattle.rules.specs.Syntax.{Goals, Program, Relation, more, one}
use Rattle.semantics.specs.Answer.{answer}
use Rattle.semantics.specs.Demand.{Begins, Completed, strike, strike_by}
use Rattle.semantics.specs.Earlier.{endless_before_2, run_before_2}
use Rattle.semantics.specs.Path.{ChoicePoint, Passing, Path, Taken, Task, cut, goes, leaves, take_goal_by}
use Rattle.semantics.specs.Promise.{ListedOnce, struck}
use Rattle.semantics.specs.Published.{answers_before, round_answers, round_cuts}
use Rattle.semantics.specs.Round.{Answer, End, Next, Result, Rounded, State, Tally, after, after_cuts, after_round, backtrack, broken, completed, count_cut, finished, give, go_on, going, once, one_round_by, onward, output_full, over, path_limit, repeats, result, resume, rounds_by, rounds_used, search_by, spend, start, steps_used, turn_by, write}
use Rattle.semantics.specs.Situation.{RoundCut}
use Rattle.semantics.specs.Steps.{Outcome, done, stop}
use Rattle.semantics.proofs.Basics.{by_choose, clash}
use Rattle.semantics.proofs.InRound.{round_completes}
use Rattle.semantics.proofs.Longer.{Adds, after_round_adds, begins_refl, begins_trans, rounds_adds, rounds_before, search_adds, turn_adds, written_of}
use Rattle.semantics.proofs.Preorder.{RoundedAs, came_left, came_written, cuts_published, demand2, round_as}
use Rattle.semantics.proofs.Repeats.{append_cancel, begins_different, different_places, strike_begins, strike_none, strike_one, struck_different}

-- the old run's tally and state beside those of a run: these answers, and some number for the room
abbrev old_tally : Tally → ℕ → List Answer → Tally
old_tally t room written = record { left = t.left; room = room; cuts = t.cuts; written = written }

abbrev old_state : State → ℕ → List Answer → State
old_state s room written = record { task = s.task; path = s.path; choices = s.choices; tally = old_tally s.tally room written }

-- beside a tally: struck out, the old run's answers are its own
record Beside (t : Tally) : Type 0 where
  room : ℕ
  written : List Answer
  is_struck : t.written ≡ strike [] written

abbrev beside : {t : Tally} → Beside t → Tally
beside {t} b = old_tally t b.room b.written

-- What a round comes to on both sides: the same, or the output was full and the old run went on.
abbrev RoundedBeside : Rounded → Rounded → Type 0
RoundedBeside (completed t) y = (b : Beside t) × (y ≡ completed (beside b))
RoundedBeside (broken e t) y = Begins t.written (strike [] (written_of y)) × (¬ (e ≡ output_full) → (b : Beside t) × (y ≡ broken e (beside b)))

-- and a turn; where the output is full nothing is said of the old one
abbrev NextBeside : Next → Next → Type 0
NextBeside (going s) y = (b : Beside s.tally) × (y ≡ going (old_state s b.room b.written))
NextBeside (over (completed t)) y = (b : Beside t) × (y ≡ over (completed (beside b)))
NextBeside (over (broken e t)) y = ¬ (e ≡ output_full) → (b : Beside t) × (y ≡ over (broken e (beside b)))

-- a tally with the same answers
abbrev same_answers : {t : Tally} (u : Tally) → u.written ≡ t.written → Beside t → Beside u
same_answers u e b = record { room = b.room; written = b.written; is_struck = e ∙ b.is_struck }

back_beside : (cs : List ChoicePoint) (t : Tally) (b : Beside t) → NextBeside (backtrack cs t) (backtrack cs (beside b))
back_beside [] t b = (b, refl)
back_beside (c ∷ cs) t b = go c.rest
  where
    go : (gs : Goals) → NextBeside (resume c.path c.base gs cs t) (resume c.path c.base gs cs (beside b))
    go (one g) = (b, refl)
    go (more g gs) = (b, refl)

module _ (pass : Passing) (P : Program) (n k : ℕ) where
  give_beside : (cs : List ChoicePoint) (t : Tally) (b : Beside t) (o : Outcome (List ℕ)) → NextBeside (give (once pass) n k cs t o) (give (endless_before_2 pass) n k cs (beside b) o)
  give_beside cs t b (stop why l) = λ f. (same_answers (spend t l) refl b, refl)
  give_beside cs t b (done ws l) = by_choose (λ (x : Next). NextBeside x (backtrack cs (write (beside b) k l ws))) (leb (length ws) t.room) _ _
      (λ q. by_choose (λ (u : Tally). NextBeside (backtrack cs u) (backtrack cs (write (beside b) k l ws))) (repeats ws t.written) _ _
      (λ r. back_beside cs (spend t l) (next (spend t l) (ap listed r)))
      (λ r. back_beside cs (write t k l ws) (next (write t k l ws) (ap listed r))))
      (λ q f. absurd (f refl))
    where
      -- what is written then, if it is a repeat and if not
      listed : Bool → List Answer
      listed c = choose c (λ _. t.written) (λ _. t.written ++ ((k, ws) ∷ []))

      added : strike [] (b.written ++ ((k, ws) ∷ [])) ≡ listed (repeats ws t.written)
      added = strike_one b.written (k, ws) ∙ ap (λ (xs : List Answer). choose (repeats ws xs) (λ _. xs) (λ _. xs ++ ((k, ws) ∷ []))) (sym b.is_struck)

      next : (u : Tally) → listed (repeats ws t.written) ≡ u.written → Beside u
      next u e = record { room = (write (beside b) k l ws).room; written = b.written ++ ((k, ws) ∷ []); is_struck = sym (added ∙ e) }

  go_on_beside : (p : Path) (tasks : List Task) (cs : List ChoicePoint) (t : Tally) (b : Beside t) → NextBeside (go_on (once pass) n k p tasks cs t) (go_on (endless_before_2 pass) n k p tasks cs (beside b))
  go_on_beside p [] cs t b = go (eqb p.calls k)
    where
      go : (c : Bool) → NextBeside (choose c (λ _. give (once pass) n k cs t (answer p n t.left)) (λ _. backtrack cs t)) (choose c (λ _. give (endless_before_2 pass) n k cs (beside b) (answer p n t.left)) (λ _. backtrack cs (beside b)))
      go true = give_beside cs t b (answer p n t.left)
      go false = back_beside cs t b
  go_on_beside p (task ∷ tasks) cs t b = (b, refl)

  after_beside : (s : State) (b : Beside s.tally) (o : Outcome Taken) → NextBeside (after (once pass) n k s o) (after (endless_before_2 pass) n k (old_state s b.room b.written) o)
  after_beside s b (stop why l) = λ f. (same_answers (spend s.tally l) refl b, refl)
  after_beside s b (done leaves l) = back_beside s.choices (spend s.tally l) (same_answers (spend s.tally l) refl b)
  after_beside s b (done cut l) = back_beside s.choices (count_cut s.tally l) (same_answers (count_cut s.tally l) refl b)
  after_beside s b (done (goes p cs) l) = go_on_beside p p.stack cs (spend s.tally l) (same_answers (spend s.tally l) refl b)

  turn_beside : (s : State) (b : Beside s.tally) → NextBeside (turn_by (once pass) P n k s) (turn_by (endless_before_2 pass) P n k (old_state s b.room b.written))
  turn_beside s b = after_beside s b (take_goal_by pass k P s.path s.choices s.task.0 s.task.1 s.tally.left)

  search_beside : (fuel : ℕ) (s : State) (b : Beside s.tally) → RoundedBeside (search_by (once pass) P n k fuel s) (search_by (endless_before_2 pass) P n k fuel (old_state s b.room b.written))
  search_beside zero s b = (subst (Begins s.tally.written) b.is_struck (begins_refl s.tally.written), λ f. (b, refl))
  search_beside (suc fuel) s b =
      go (turn_by (once pass) P n k s) (turn_by (endless_before_2 pass) P n k (old_state s b.room b.written)) (turn_beside s b) (turn_adds (once pass) P n k s)
      (search_adds (endless_before_2 pass) P n k (suc fuel) (old_state s b.room b.written)) (search_beside fuel)
    where
      go : (x y : Next) → NextBeside x y → Adds s.tally.written x → Begins b.written (written_of (onward y (λ s'. search_by (endless_before_2 pass) P n k fuel s'))) →
          ((s : State) (b : Beside s.tally) → RoundedBeside (search_by (once pass) P n k fuel s) (search_by (endless_before_2 pass) P n k fuel (old_state s b.room b.written))) →
          RoundedBeside (onward x (λ s'. search_by (once pass) P n k fuel s')) (onward y (λ s'. search_by (endless_before_2 pass) P n k fuel s'))
      go (going s') y (c, e) a g ih = rw e (ih s' c)
      go (over (completed t)) y (c, e) a g ih = (c, rw e refl)
      go (over (broken e t)) y f a g ih = (
        subst (λ (ws : List Answer). Begins ws (strike [] (written_of (onward y (λ s'. search_by (endless_before_2 pass) P n k fuel s'))))) (sym b.is_struck ∙ a) (strike_begins g),
        λ h. let (c, q) = f h in (c, rw q refl),
      )

round_beside : (pass : Passing) (P : Program) (R : Relation) (k room left old_room : ℕ) (before old : List Answer) → before ≡ strike [] old →
    RoundedBeside (one_round_by (once pass) P R k room left before) (one_round_by (endless_before_2 pass) P R k old_room left old)
round_beside pass P R k room left old_room before old e = search_beside pass P R.params k (suc left) (start R (record { left = left; room = room; cuts = 0; written = before })) (record { room = old_room; written = old; is_struck = e })

-- Results

record ResultBeside (r old : Result) : Type 0 where
  as_far : Begins r.answers (strike [] old.answers)
  all_the_way : ¬ (r.end ≡ output_full) → r ≡ struck old
  no_further : (j : ℕ) → Completed r.end r.round j → Completed old.end old.round j

full_or_not : (e : End) → (e ≡ output_full) ⊎ ¬ (e ≡ output_full)
full_or_not finished = inr (λ q. clash (cc))
full_or_not rounds_used = inr (λ q. clash (cc))
full_or_not steps_used = inr (λ q. clash (cc))
full_or_not output_full = inl refl
full_or_not (path_limit b) = inr (λ q. clash (cc))

module _ (limit k : ℕ) where
  -- the same end of the run on both sides
  same_end : (e : End) (last_cut : ℕ) (t : Tally) (b : Beside t) → ResultBeside (result limit e k last_cut t) (result limit e k last_cut (beside b))
  same_end e last_cut t b = record {
    as_far = subst (Begins t.written) b.is_struck (begins_refl t.written);
    all_the_way = λ f. ap (λ (xs : List Answer). record { end = e; round = k; steps = (result limit e k last_cut t).steps; answers = xs; cut = last_cut }) b.is_struck;
    no_further = λ j c. c;
  }

  after_beside_round : (last_cut : ℕ) (r y : Rounded) (go go' : Tally → Result) → RoundedBeside r y → ((j : ℕ) → j < k → Completed (after_round limit k last_cut y go').end (after_round limit k last_cut y go').round j) → ((t : Tally) → Begins t.written (go' t).answers) →
      ((t : Tally) (b : Beside t) → ResultBeside (go t) (go' (beside b))) → ResultBeside (after_round limit k last_cut r go) (after_round limit k last_cut y go')
  after_beside_round last_cut (completed t) y go go' (b, q) earlier adds next = rw q (cuts t.cuts)
    where
      cuts : (c : ℕ) → ResultBeside (after_cuts limit c k t go) (after_cuts limit c k (beside b) go')
      cuts zero = same_end finished t.cuts t b
      cuts (suc c) = next t b
  after_beside_round last_cut (broken e t) y go go' (far, same) earlier adds next = ⊎_elim
      (λ q. record {
        as_far = begins_trans far (strike_begins (after_round_adds limit k last_cut (written_of y) y go' (begins_refl (written_of y)) adds));
        all_the_way = λ f. absurd (f q);
        no_further = λ j c. earlier j (subst (λ (x : End). Completed x k j) q c);
      })
      (λ f. let (b, q) = same f in subst (λ (z : Rounded). ResultBeside (result limit e k last_cut t) (after_round limit k last_cut z go')) (sym q) (same_end e last_cut t b))
      (full_or_not e)

module _ (limit : ℕ) (pass : Passing) (P : Program) (R : Relation) where
  rounds_beside : (later k room left last_cut old_room : ℕ) (before old : List Answer) → before ≡ strike [] old →
      ResultBeside (rounds_by limit (once pass) P R later k room left last_cut before) (rounds_by limit (endless_before_2 pass) P R later k old_room left last_cut old)
  rounds_beside zero k room left last_cut old_room before old e =
      after_beside_round limit k last_cut (one_round_by (once pass) P R k room left before) (one_round_by (endless_before_2 pass) P R k old_room left old) _ _ (round_beside pass P R k room left old_room before old e)
      (rounds_before limit (endless_before_2 pass) P R zero k old_room left last_cut old) (λ t. begins_refl t.written) (λ t b. same_end limit k rounds_used t.cuts t b)
  rounds_beside (suc later) k room left last_cut old_room before old e =
      after_beside_round limit k last_cut (one_round_by (once pass) P R k room left before) (one_round_by (endless_before_2 pass) P R k old_room left old) _ _ (round_beside pass P R k room left old_room before old e)
      (rounds_before limit (endless_before_2 pass) P R (suc later) k old_room left last_cut old) (λ t. rounds_adds limit (endless_before_2 pass) P R later (suc k) t.room t.left t.cuts t.written)
      (λ t b. rounds_beside later (suc k) t.room t.left t.cuts b.room t.written b.written b.is_struck)

  -- Note 2, of every program and relation, with any limits and output
  pub listed_once : (round_limit total : ℕ) → ListedOnce pass P R limit round_limit (rounds_by limit (once pass) P R round_limit 0 total limit 0 [])
  listed_once round_limit total =
      let r = rounds_beside round_limit 0 total limit 0 0 [] [] refl in
      record { no_repeats = different_places _ (begins_different r.as_far (struck_different [] (run_before_2 pass P R limit round_limit).answers)); as_far = r.as_far; all_the_way = r.all_the_way; no_further = r.no_further }

-- neither the answers nor the cuts of a completed round depend on what bounds the recursion into terms, if that is at least the step limit
pub same_plenty : (pass : Passing) (plenty plenty' : ℕ) (P : Program) (R : Relation) (limit round_limit room : ℕ) → limit ≤ plenty → limit ≤ plenty' →
    (k : ℕ) → Completed (rounds_by limit (once pass) P R round_limit 0 room limit 0 []).end (rounds_by limit (once pass) P R round_limit 0 room limit 0 []).round k →
    (round_answers pass plenty P R k ≡ round_answers pass plenty' P R k) × (round_cuts pass plenty P R k ≡ round_cuts pass plenty' P R k)
same_plenty pass plenty plenty' P R limit round_limit room i j k c =
    let x = (demand2 pass plenty P R limit round_limit room i).cuts_counted k c in
    (old_round x (came_left pass plenty P R limit round_limit room i x.came) (came_left pass plenty' P R limit round_limit room j x.came), cuts_published pass plenty' P R limit round_limit room j k (round_cuts pass plenty P R k) x)
  where
    -- the old run completes the round too, with all of its answers
    old_round : (x : RoundCut pass P R limit round_limit room k (round_cuts pass plenty P R k)) → x.left ≤ plenty → x.left ≤ plenty' → round_answers pass plenty P R k ≡ round_answers pass plenty' P R k
    old_round x h h' =
        let before = answers_before pass plenty P R k in
        let (b, q) = subst (λ (r : Rounded). RoundedBeside r (one_round_by (endless_before_2 pass) P R k 0 x.left before)) ((round_completes pass P R k x.room x.left x.before x.tally).1 x.completes)
        (round_beside pass P R k x.room x.left 0 x.before before (came_written pass plenty P R limit round_limit room i x.came)) in
        append_cancel before (all plenty h b q ∙ sym (all plenty' h' b q))
      where
        all : (many : ℕ) → x.left ≤ many → (b : Beside x.tally) → one_round_by (endless_before_2 pass) P R k 0 x.left (answers_before pass plenty P R k) ≡ completed (beside b) →
            answers_before pass plenty P R k ++ round_answers pass many P R k ≡ b.written
        all many l b q =
            let (w, d, m) = subst (RoundedAs many before (before ++ strike_by (λ ws earlier. false) before (round_answers pass many P R k)) (round_cuts pass many P R k)) q (round_as pass (λ words room. true) (λ ws earlier. false) many P R k 0 x.left before l) in
            sym (w ∙ ap (λ (xs : List Answer). before ++ xs) (strike_none before (round_answers pass many P R k)))
          where
            before : List Answer
            before = answers_before pass plenty P R k
