-- Whole rounds and whole runs: demand 3.
use Prim.Native.Nat.{◌<◌, ◌≤◌, suc, zero, ℕ}
use mathlib.Core.List.{List, [], ◌++◌, ◌∷◌, append-nil}
use mathlib.Core.Logic.{inl, ⊎_elim}
use mathlib.Core.Option.{some-injective}
use mathlib.Core.Path.{◌≡◌, ap, fun_ext, refl, subst, sym}
use native.Mathlib.Decide.{dec_le, dec_lt}
use native.Mathlib.Omega.{arith}
use Rattle.rules.specs.Lists.{Each, Some}
use Rattle.rules.specs.Syntax.{Program, Relation}
use Rattle.semantics.specs.Demand.{AnswerRight, Completed, Demand3, ShowsIn, ShowsIt, ShowsUpTo}
use Rattle.semantics.specs.Invariant.{ProgramIn, RelationIn, StateFine}
use Rattle.semantics.specs.Logic.{Assignment, Gives, Holds, Tree}
use Rattle.semantics.specs.Round.{Answer, End, Result, Rounded, Tally, after_cuts, after_round, broken, completed, finished, one_round, result, rounds, rounds_used, start}
use Rattle.semantics.proofs.Basics.{clash, each_append, each_map, some_both, some_each, some_left, some_map}
use Rattle.semantics.proofs.Cover.{Covers, ◌⇔◌}
use Rattle.semantics.proofs.Sound.{sound_start}
use Rattle.semantics.proofs.TermLaws.{from}
use Rattle.semantics.proofs.Turn.{Breaks, Right, RoundedWell, Written, completed_before, open_of, search_well}

-- Round k, after the answers `before`. Whether it is completed or broken off, each answer that it writes is right.
pub record RoundWrote (P : Program) (k : ℕ) (before written : List Answer) : Type 0 where
  pub new : List Answer
  pub is_new : written ≡ before ++ new
  pub each_new : Each (λ (a : Answer). (a.0 ≡ k) × AnswerRight P a) new

-- If it is completed, some answer by then shows each tuple that the relations give with k calls; if it counted no cut, there is no tuple with more.
pub record RoundDone (P : Program) (k : ℕ) (before : List Answer) (t : Tally) : Type 0 where
  pub wrote : RoundWrote P k before t.written
  pub shown : (tuple : List Tree) → Gives P tuple k → Some (ShowsIt P tuple) t.written
  pub no_cut : t.cuts ≡ 0 → (tuple : List Tree) (m : ℕ) → Gives P tuple m → m ≤ k

abbrev pub RoundClaim : Program → ℕ → List Answer → Rounded → Type 0
RoundClaim P k before (completed t) = (t.room < 268435456) × RoundDone P k before t
RoundClaim P k before (broken e t) = Breaks e × RoundWrote P k before t.written

-- a round of a relation of the program sets out well
pub start_fine : {P : Program} (wf : ProgramIn P) {R : Relation} → RelationIn P R → (k : ℕ) (t : Tally) → t.room < 268435456 → StateFine P wf R.params k (start R t)
start_fine wf {R} r k t small = record {
  fine = record { sound = sound_start R.vars (omega (arith, r.few_vars)); query_made = r.params_vars; few_calls = omega arith; tasks_in = ((R.vars, omega arith, r.body_in), tt) };
  fine_choices = tt;
  small_room = small;
}

module _ (R : Relation) (Rs : Program) (wf : ProgramIn (R ∷ Rs)) where
  abbrev P : Program
  P = R ∷ Rs

  -- what a round sets out with is what the relations give
  start_means : (k : ℕ) (t : Tally) → open_of P wf R.params k (start R t) ⇔ Gives P
  start_means k t tuple m = (
    ⊎_elim
        (λ c. let (a, b, h, hs, q) = c.hold in record {
          query = R;
          is_query = refl;
          assignment = c.assignment;
          proper = c.solves.proper;
          is_tuple = c.is_tuple;
          holds = subst (Holds P c.assignment R.body) (omega (arith, hs, q, c.total)) (subst (λ (ρ : Assignment). Holds P ρ R.body a) (from_zero c.assignment) h);
        })
        (λ x. absurd x),
    λ g. inl (subst (λ (Q : Relation). Covers P Q.params [] [] 0 ((0, Q.body) ∷ []) tuple m) (some-injective g.query R (sym g.is_query)) (record {
      assignment = g.assignment;
      solves = record { proper = g.proper; sat = tt; meets = tt };
      is_tuple = g.is_tuple;
      inner = m;
      hold = (m, 0, subst (λ (ρ : Assignment). Holds P ρ g.query.body m) (sym (from_zero g.assignment)) g.holds, refl, omega arith);
      total = omega arith;
    })),
  )
    where
      from_zero : (α : Assignment) → from 0 α ≡ α
      from_zero α = fun_ext (λ i. ap α (omega arith))

  -- A round by itself
  module _ (k : ℕ) (before : List Answer) where
    right : (a : Answer) → Right P wf R.params k (Gives P) a → (a.0 ≡ k) × AnswerRight P a
    right a r = (r.tagged, record { shows_one = r.shows_one; only = λ tuple h. subst (Gives P tuple) (sym r.tagged) (r.only tuple h) })

    wrote : {written : List Answer} → Written P wf R.params k (Gives P) before written → RoundWrote P k before written
    wrote w = record { new = w.new; is_new = w.is_new; each_new = each_map right w.new w.each_right }

    claim : (r : Rounded) → RoundedWell P wf R.params k (Gives P) before 0 r → RoundClaim P k before r
    unfolding wrote
    claim (broken e t) (b, w) = (b, wrote w)
    claim (completed t) (small, keeps) = (
      small,
      record {
        wrote = wrote keeps.so_far;
        shown = λ tuple g. ⊎_elim (λ x. absurd x) (⊎_elim (λ x. x.1) (λ x. absurd (omega arith))) (keeps.complete tuple k (omega arith) g);
        no_cut = λ e tuple m g. elim (dec_le m k) [ yes h ↦ h | no f ↦ ⊎_elim (λ x. absurd x) (⊎_elim (λ x. omega arith) (λ x. absurd (omega arith))) (keeps.complete tuple m (omega arith) g) ];
      },
    )

    pub round_claim : (room left : ℕ) → room < 268435456 → RoundClaim P k before (one_round P R k room left before)
    round_claim room left small = claim (one_round P R k room left before) (search_well P wf R.params k (Gives P) before 0 (suc left) (start R t)
        (start_fine wf (wf 0 R refl) k t small)
        (record {
          so_far = record { new = []; is_new = sym (append-nil before); each_right = tt };
          cuts_grow = omega arith;
          sound = λ tuple m. (start_means k t tuple m).0;
          complete = λ tuple m h x. inl ((start_means k t tuple m).1 x);
        }))
      where
        t : Tally
        t = record { left = left; room = room; cuts = 0; written = before }

-- Rounds one after the other, of a run with this step limit
module _ (limit : ℕ) (P : Program) where
  -- the answers before round k, or while it lasts
  record History (k : ℕ) (written : List Answer) : Type 0 where
    each : Each (AnswerRight P) written
    early : Each (λ (a : Answer). a.0 ≤ k) written
    reached : (tuple : List Tree) (j : ℕ) → j < k → Gives P tuple j → Some (ShowsUpTo P j tuple) written

  history_grows : {k : ℕ} {before written : List Answer} → History k before → RoundWrote P k before written → History k written
  history_grows {k} {before} h w = subst (History k) (sym w.is_new) (record {
    each = (each_append (AnswerRight P) before w.new).1 (h.each, each_map (λ a r. r.1) w.new w.each_new);
    early = (each_append (λ (a : Answer). a.0 ≤ k) before w.new).1 (h.early, each_map (λ a r. omega (arith, r.0)) w.new w.each_new);
    reached = λ tuple j i g. some_left _ before w.new (h.reached tuple j i g);
  })

  history_suc : {k : ℕ} {before : List Answer} {t : Tally} → History k before → RoundDone P k before t → History (suc k) t.written
  history_suc {k} {before} {t} h d = record {
    each = grown.each;
    early = each_map (λ a r. omega arith) t.written grown.early;
    reached = λ tuple j i g. elim (dec_lt j k) [ yes l ↦ grown.reached tuple j l g | no f ↦ subst (λ (j : ℕ). Some (ShowsUpTo P j tuple) t.written) (omega arith) (here tuple (subst (Gives P tuple) (omega arith) g)) ];
  }
    where
      grown : History k t.written
      grown = history_grows h d.wrote

      here : (tuple : List Tree) → Gives P tuple k → Some (ShowsUpTo P k tuple) t.written
      here tuple g = some_both (ShowsIt P tuple) _ (ShowsUpTo P k tuple) t.written (λ a r x. (r, x)) grown.early (d.shown tuple g)

  -- the completed rounds are those below l, up to which the history goes
  demand : (e : End) (k l last_cut : ℕ) (t : Tally) → ((j : ℕ) → Completed e k j → j < l) → (e ≡ finished → (tuple : List Tree) (m : ℕ) → Gives P tuple m → m < l) → History l t.written → Demand3 P (result limit e k last_cut t)
  demand e k l last_cut t below fin h = record {
    each_answer = h.each;
    round_exact = λ j c tuple. (right_in j tuple, h.reached tuple j (below j c));
    up_to_round = λ j c tuple. (some_each (ShowsUpTo P j tuple) _ t.written (λ a r x. (a.0, x.0, r.only tuple x.1)) h.each, λ (i, i-j, g). some_map (ShowsUpTo P i tuple) (ShowsUpTo P j tuple) t.written (λ a x. (omega (arith, x.0), x.1)) (h.reached tuple i (omega (arith, below j c)) g));
    first_shown = λ j c tuple f. (some_both (ShowsUpTo P j tuple) _ (ShowsIn P j tuple) t.written (λ a r x. (elim (dec_lt a.0 j) [ yes less ↦ absurd (f.none_fewer a.0 less (r.only tuple x.1)) | no more ↦ omega (arith, x.0) ], x.1)) h.each (h.reached tuple j (below j c) f.gives), λ i less x. f.none_fewer i less (right_in i tuple x));
    when_finished = λ q tuple. (some_each (ShowsIt P tuple) _ t.written (λ a r x. (a.0, r.only tuple x)) h.each, λ (i, g). some_map (ShowsUpTo P i tuple) (ShowsIt P tuple) t.written (λ a x. x.1) (h.reached tuple i (fin q tuple i g) g));
  }
    where
      right_in : (j : ℕ) (tuple : List Tree) → Some (ShowsIn P j tuple) t.written → Gives P tuple j
      right_in j tuple = some_each (ShowsIn P j tuple) _ t.written (λ a r x. subst (Gives P tuple) x.0 (r.only tuple x.1)) h.each

  broken_demand : (e : End) (k last_cut : ℕ) (t : Tally) → Breaks e → History k t.written → Demand3 P (result limit e k last_cut t)
  broken_demand e k last_cut t b = demand e k k last_cut t (completed_before e b k) (λ q. absurd (subst Breaks q b))

  after_demand : (k last_cut : ℕ) (before : List Answer) (then_on : Tally → Result) → History k before → ((t : Tally) → t.room < 268435456 → History (suc k) t.written → Demand3 P (then_on t)) → (r : Rounded) → RoundClaim P k before r → Demand3 P (after_round limit k last_cut r then_on)
  after_demand k last_cut before then_on h f (broken e t) (b, w) = broken_demand e k last_cut t b (history_grows h w)
  after_demand k last_cut before then_on h f (completed t) (small, d) = go t.cuts refl
    where
      go : (c : ℕ) → t.cuts ≡ c → Demand3 P (after_cuts limit c k t then_on)
      go zero z = demand finished k (suc k) t.cuts t (λ j c. omega arith) (λ q tuple m g. omega (arith, d.no_cut z tuple m g)) (history_suc h d)
      go (suc c) z = f t small (history_suc h d)

module _ (R : Relation) (Rs : Program) (wf : ProgramIn (R ∷ Rs)) where
  rounds_demand : (limit later k room left last_cut : ℕ) (before : List Answer) → room < 268435456 → History limit (R ∷ Rs) k before → Demand3 (R ∷ Rs) (rounds limit (R ∷ Rs) R later k room left last_cut before)
  rounds_demand limit zero k room left last_cut before small h =
      after_demand limit (R ∷ Rs) k last_cut before _ h (λ t small h. demand limit (R ∷ Rs) rounds_used k (suc k) t.cuts t (λ j c. omega arith) (λ q. clash (cc)) h) (one_round (R ∷ Rs) R k room left before) (round_claim R Rs wf k before room left small)
  rounds_demand limit (suc later) k room left last_cut before small h =
      after_demand limit (R ∷ Rs) k last_cut before _ h (λ t small h. rounds_demand limit later (suc k) t.room t.left t.cuts t.written small h) (one_round (R ∷ Rs) R k room left before) (round_claim R Rs wf k before room left small)

  -- Demand 3 of a program that is well formed and has a query
  pub demand3 : (limit rounds_limit room : ℕ) → room < 268435456 → Demand3 (R ∷ Rs) (rounds limit (R ∷ Rs) R rounds_limit 0 room limit 0 [])
  demand3 limit rounds_limit room small = rounds_demand limit rounds_limit 0 room limit 0 [] small (record { each = tt; early = tt; reached = λ tuple j l g. absurd (omega arith) })
