-- Taking equalities and constraints, as the code does it: one law for each way in which `take_equal` and `take_constraint` return, and what they need on the way.
use Prim.Native.Nat.{ℕ, suc, ◌+◌, ◌≤◌, ◌<◌}
use mathlib.Core.Path.{◌≡◌, refl, sym, ap, subst, ◌∙◌}
use mathlib.Core.Bool.{Bool, true, false}
use mathlib.Core.Option.{some}
use mathlib.Core.List.{List, [], ◌∷◌, ◌++◌}
use native.Mathlib.Omega.{arith}
use lib.Dec.{eqb, leb}
use lib.ListN.{length, set, length-append}
use borrow.Author.Tests.{eq-eqb, ne_eqb, le-leb, lt-leb}
use Rattle.std.specs.Prelude.{Result, Ok, Err}
use Rattle.rules.specs.Syntax.{Term, Constraint, differ, typed, absento, equal, constrain, Program}
use Rattle.rules.specs.Reading.{choose, after}
use Rattle.semantics.specs.Substitution.{shift, shift_constraint, Substitution}
use Rattle.semantics.specs.Steps.{Outcome, done, and_then}
use Rattle.semantics.specs.Unify.{unify_terms}
use Rattle.semantics.specs.Review.{review, review_all}
use Rattle.semantics.specs.Path.{Path, ChoicePoint, leaves, goes, bound_to, keeping, take_equal, take_constraint}
use Rattle.semantics.specs.Invariant.{TermIn, ConstraintIn}
use Rattle.semantics.proofs.TermLaws.{shift_in, shift_constraint_in}
use Rattle.engine.specs.Reference.{pos_of, Stands, TaskAt, VarsC, KeepsAt}
use Rattle.engine.specs.Memory.{kept_at, Stored}
use Rattle.engine.specs.Unify.{TwoTerms, Went, unified_says, UnifiedAs}
use Rattle.engine.specs.Review.{ConstraintsHeld, Reviews, ReviewedAs}
use Rattle.engine.specs.Steps.{outcome}
use Rattle.engine.specs.Take.{registers, PathHeld, GoalReady, TookAs, with_counts, took_stopped, review_took}
use Rattle.engine.specs.declared.search.state.State.{State}
use Rattle.engine.specs.declared.report.Bound.TheVariants.{Constraints}
use Rattle.engine.specs.declared.steps.Stopped.{Stopped}
use Rattle.engine.specs.declared.search.state.Way.{Way}
use Rattle.engine.specs.declared.search.state.Took.{Took}
use Rattle.engine.specs.declared.search.state.Way.TheVariants.{Leaves, Goes, Stops}
use Rattle.engine.specs.declared.terms.unify.Unified.{Unified}
use Rattle.engine.proofs.TookLaws.{took_goes, took_leaves, took_stops, took_at}
use Rattle.engine.proofs.ReferenceLaws.{TwoAt, two_terms}
use Rattle.engine.proofs.GoalLaws.{terms_shift, keeps_task}
use Rattle.engine.proofs.ArgumentLaws.{term_vars}
use Rattle.engine.proofs.StoredLaws.{trailed, stored_two, stored_kept, unified_stored, reviewed_stored}
use Rattle.engine.proofs.ClaimLaws.{constrained}
use Rattle.engine.proofs.ConjLaws.{keep}

-- a path after a review
reviewed_took : {P : Program} {ws s : List ℕ} {p : Path} {cs : List ChoicePoint} (st : State) (q : Result (Bool × ℕ) Stopped) (o : Outcome Bool) → PathHeld P ws s st p cs → o ≡ outcome q
    → TookAs P ws s cs (and_then o (λ broken l. choose broken (λ _. done leaves l) (λ _. done (goes p cs) l))) (review_took st q).way (review_took st q).state
reviewed_took st (Ok (true, l)) o h e = took_leaves h (rw e refl)
reviewed_took st (Ok (false, l)) o h e = took_goes h (rw e refl)
reviewed_took {p = p} st (Err stopped) o h e = took_stops p (rw e refl)

-- Equal.

module _ {P : Program} {ws s : List ℕ} {st : State} {w : ℕ} {p : Path} {cs : List ChoicePoint} {base : ℕ} {u v : Term} (k : GoalReady P ws s st w p cs (base, equal u v)) where
  stored : Stored P ws s (registers st) st.choices p cs
  stored = k.taking.stored

  in_range : TermIn p.made (shift base u) × TermIn p.made (shift base v)
  in_range = let t = k.task_in in (shift_in base t.0 p.made u t.1 t.2.0, shift_in base t.0 p.made v t.1 t.2.1)

  few_made : p.made ≤ 2048
  few_made = k.sound.few_made

  equal_terms : TwoAt ws w (shift base u) (shift base v)
  equal_terms =
      let t : TaskAt ws w (base, equal u v) = k.taking.task_at in
      two_terms base (after ws (pos_of w)) (shift base u) (shift base v) t.base (terms_shift ws base (pos_of w + 1) (after ws (pos_of w)) (u ∷ v ∷ []) t.goal.1) t.inside t.small t.below
      (term_vars p.made (shift base u) few_made in_range.0) (term_vars p.made (shift base v) few_made in_range.1)

  pub equal_first : Stands ws (w + 1) (shift base u)
  equal_first = equal_terms.first

  pub equal_ready : {q : ℕ} → ((t : Term) (h : Stands ws (w + 1) t) → q + pos_of (w + 1) ≡ w + 1 + h.to) → TwoTerms ws s p.bindings (w + 1) (shift base u) q (shift base v) st.trail
  equal_ready {q} skips = stored_two stored k.short k.sound.good equal_terms.first (equal_terms.second q (skips (shift base u) equal_terms.first))

  abbrev pub says : List ℕ → Way → State → Type 0
  says s'' way next = TookAs P ws s'' cs (take_equal p cs (shift base u) (shift base v) st.steps) way next

  -- what unifying its terms came to
  module _ {q : ℕ} (skips : (t : Term) (h : Stands ws (w + 1) t) → q + pos_of (w + 1) ≡ w + 1 + h.to) (s' : List ℕ) (r : Unified)
      (unifies : (bs : Substitution) (u v : Term) → TwoTerms ws s bs (w + 1) u q v st.trail → UnifiedAs ws s s' bs (unify_terms bs u v st.steps) r) where
    told : UnifiedAs ws s s' p.bindings (unify_terms p.bindings (shift base u) (shift base v) st.steps) r
    told = unifies p.bindings (shift base u) (shift base v) (equal_ready skips)

    pub went : Went ws s p.bindings s' r.trail
    went = told.0

    gives : {o : Result (Bool × ℕ) Stopped} → r.outcome ≡ o → unify_terms p.bindings (shift base u) (shift base v) st.steps ≡ unified_says went.next o
    unfolding went
    gives e = told.1 ∙ ap (unified_says told.0.next) e

    after_join : Stored P ws s' (trailed (registers st) r.trail) st.choices (bound_to p went.next) cs
    after_join = unified_stored stored went

    pub equal_kept : ConstraintsHeld ws s' went.next p.kept r.trail st.constraints
    equal_kept = stored_kept after_join k.short went.held.good

    pub equal_stops : {stopped : Stopped} → r.outcome ≡ Err stopped → says s' (Stops stopped) st
    equal_stops i = took_stops p (rw (gives i) refl)

    pub equal_fails : {o : Bool × ℕ} {st' : State} → r.outcome ≡ Ok o → o.0 ≡ false → st' ≡ with_counts st r.trail st.constraints o.1 → says s' Leaves st'
    equal_fails i e f = rw f (took_leaves after_join (rw (gives i, e) refl))

    module _ {o : Bool × ℕ} (i : r.outcome ≡ Ok o) (e : o.0 ≡ true) where
      joined : unify_terms p.bindings (shift base u) (shift base v) st.steps ≡ done (some went.next) o.1
      joined = gives i ∙ rw e

      -- nothing was bound
      pub equal_same : {st' : State} → st' ≡ with_counts st r.trail st.constraints o.1 → r.trail ≡ st.trail → says s' Goes st'
      equal_same {st'} f z =
          let many : length went.next ≡ length p.bindings = sym went.trail_is ∙ z ∙ stored.path_in.trail in
          let y : eqb (length went.next) (length p.bindings) ≡ true = eq-eqb (length went.next) (length p.bindings) many in
          let same : went.next ≡ p.bindings = none_new went.new went.grows many in
          let h : Stored P ws s' (trailed (registers st) r.trail) st.choices p cs = subst (λ bs. Stored P ws s' (trailed (registers st) r.trail) st.choices (bound_to p bs) cs) same after_join in
          rw f (took_goes h (rw (joined, y) refl))
        where
          none_new : {bs : Substitution} (new : Substitution) → bs ≡ new ++ p.bindings → length bs ≡ length p.bindings → bs ≡ p.bindings
          none_new [] e q = e
          none_new (b ∷ new) e q = absurd (let z = length-append (b ∷ new) p.bindings in omega (arith, ap length e))

      -- and where something was
      pub equal_reviewed : {joint : State} {q : Result (Bool × ℕ) Stopped} {took : Took} {s'' : List ℕ} → joint ≡ with_counts st r.trail st.constraints o.1 → ¬ (r.trail ≡ st.trail)
          → ((bs : Substitution) (ds : List Constraint) → ConstraintsHeld ws s' bs ds r.trail st.constraints → ReviewedAs ws s' s'' bs (review_all bs ds ds o.1) q) → took ≡ review_took joint q → says s'' took.way took.state
      equal_reviewed {joint} {q} {took} {s''} f z reviews t =
          let v' = reviews went.next p.kept equal_kept in
          let y : eqb (length went.next) (length p.bindings) ≡ false = ne_eqb (length went.next) (length p.bindings) (λ e. z (went.trail_is ∙ e ∙ sym stored.path_in.trail)) in
          rw (joined, y, t, f) (reviewed_took (with_counts st r.trail st.constraints o.1) q (review_all went.next p.kept p.kept o.1) (reviewed_stored after_join v') v'.says)

-- A constraint.

constraint_vars : (m : ℕ) (c : Constraint) → m ≤ 2048 → ConstraintIn m c → VarsC (λ x. x < 2048) c
constraint_vars m (differ s t) le h = (term_vars m s le h.0, term_vars m t le h.1)
constraint_vars m (typed k t) le h = term_vars m t le h
constraint_vars m (absento a t) le h = term_vars m t le h.1

module _ {P : Program} {ws s : List ℕ} {st : State} {w : ℕ} {p : Path} {cs : List ChoicePoint} {base : ℕ} {c : Constraint} (k : GoalReady P ws s st w p cs (base, constrain c)) where
  held : Stored P ws s (registers st) st.choices p cs
  held = k.taking.stored

  pub constraint_full : {took : Took} (s' : List ℕ) → 512 ≤ st.constraints → took ≡ took_stopped Constraints st → TookAs P ws s' cs (take_constraint p cs (shift_constraint base c) st.steps) took.way took.state
  constraint_full s' full q =
      let f : leb (suc (length p.kept)) 512 ≡ false = lt-leb (suc (length p.kept)) 512 (omega (arith, held.path_in.kept)) in
      took_at p q (rw f refl)

  constraint_keeps : KeepsAt ws w (shift_constraint base c)
  constraint_keeps =
      let t = k.task_in in
      keeps_task ws w base c k.taking.task_at (constraint_vars p.made (shift_constraint base c) k.sound.few_made (shift_constraint_in base t.0 p.made c t.1 t.2))

  module _ (fits : st.constraints < 512) where
    now_kept : Stored P ws (set s (kept_at st.constraints) w) (constrained (registers st)) st.choices (keeping p (shift_constraint base c)) cs
    now_kept = keep (shift_constraint base c) w fits constraint_keeps held

    pub constraint_reviews : Reviews ws (set s (kept_at st.constraints) w) p.bindings (p.kept ++ (shift_constraint base c ∷ [])) st.trail (st.constraints + 1) w (shift_constraint base c)
    constraint_reviews = record { whole = stored_kept now_kept k.short k.sound.good; keeps = constraint_keeps }

    pub constraint_took : {q : Result (Bool × ℕ) Stopped} {joint : State} {took : Took} {s'' : List ℕ}
        → ((bs : Substitution) (ds : List Constraint) (d : Constraint) → Reviews ws (set s (kept_at st.constraints) w) bs ds st.trail (st.constraints + 1) w d
        → ReviewedAs ws (set s (kept_at st.constraints) w) s'' bs (review bs ds d st.steps) q)
        → joint ≡ with_counts st st.trail (st.constraints + 1) st.steps → took ≡ review_took joint q → TookAs P ws s'' cs (take_constraint p cs (shift_constraint base c) st.steps) took.way took.state
    constraint_took {q} {joint} {took} {s''} reviews f t =
        let v' = reviews p.bindings (p.kept ++ (shift_constraint base c ∷ [])) (shift_constraint base c) constraint_reviews in
        let y : leb (suc (length p.kept)) 512 ≡ true = le-leb (suc (length p.kept)) 512 (omega (arith, held.path_in.kept)) in
        rw (y, t, f) (reviewed_took (with_counts st st.trail (st.constraints + 1) st.steps) q (review p.bindings (p.kept ++ (shift_constraint base c ∷ [])) (shift_constraint base c) st.steps) (reviewed_stored now_kept v') v'.says)
