-- Reviews, in the shape of the code's tests.
use Prim.Native.Nat.{ℕ, suc, ◌+◌, ◌-◌, ◌≤◌, ◌<◌}
use mathlib.Core.Path.{◌≡◌, refl, sym, ap, subst, ◌∙◌}
use mathlib.Core.Bool.{Bool, true, false, ◌||◌}
use mathlib.Core.List.{List, [], ◌∷◌}
use native.Mathlib.Omega.{arith}
use lib.Dec.{eqb}
use lib.ListN.{length}
use Rattle.std.specs.Prelude.{Result, Ok, Err}
use Rattle.std.proofs.lemmas.Bool.Decides.{nat_tests}
use Rattle.word.specs.Kind.{kind_number}
use Rattle.word.specs.declared.kind.Kind.{Kind}
use Rattle.word.specs.declared.kind.Kind.TheVariants.{Variable, Differ, Symbolo, Absento}
use Rattle.word.proofs.KindLaws.{kind_number_other}
use Rattle.rules.specs.Reading.{choose, after}
use Rattle.rules.specs.Written.{sort_kind}
use Rattle.rules.specs.Syntax.{Atom, Term, var, atom, pair, Sort, symbols, numbers, Constraint, differ, typed, absento}
use Rattle.semantics.specs.Substitution.{Substitution, walk}
use Rattle.semantics.specs.Steps.{Outcome, done, and_then}
use Rattle.semantics.specs.Unify.{scan, is_var, is_atom, unify_terms}
use Rattle.semantics.specs.Review.{other_sort, reaches, clashes, sort_fails, trial_fails, reviewed, review, review_all}
use Rattle.engine.specs.Reference.{at, AtomIs, pos_of, base_of, Stands, KeepsAt}
use Rattle.engine.specs.Memory.{BindingsIn, KeptIn}
use Rattle.engine.specs.Walk.{PartRead, Binds, Follows, WalkedTo}
use Rattle.engine.specs.Trail.{Trailed, Undone, Apart}
use Rattle.engine.specs.Scan.{ScanAs}
use Rattle.engine.specs.Unify.{TwoTerms, UnifiedAs}
use Rattle.engine.specs.Review.{atom_kind, other_kind, ConstraintsHeld, Constrains, Reviews, ReviewedAs}
use Rattle.engine.specs.Steps.{stops, no_steps, outcome}
use Rattle.engine.specs.declared.steps.Stopped.{Stopped}
use Rattle.engine.specs.declared.terms.unify.Unified.{Unified}
use Rattle.engine.specs.declared.terms.walk.Walked.{Walked}
use Rattle.engine.proofs.ReferenceLaws.{sort_low, term_longer, stands_at, two_terms}
use Rattle.engine.proofs.ScanSteps.{open_at, atom_sought}
use Rattle.engine.proofs.FrameLaws.{kept_same}
use Rattle.engine.proofs.TrailLaws.{apart_same, apart_trans, undone_apart}

-- A constraint by its reference

pub typed_term : (ws : List ℕ) (w : ℕ) (k : Sort) (t : Term) → KeepsAt ws w (typed k t) → Stands ws (w + 1) t
typed_term ws w k t h =
    let e : h.reads.1.0 ≡ after ws (pos_of w) = h.reads.1.2 in
    stands_at ws (base_of w) (pos_of w + 1) h.reads.1.0 (w + 1) t (omega arith) h.reads.1.1 (omega (arith, h.inside)) (omega (arith, h.small)) (omega (arith, h.below)) h.in_range

pub absento_term : (ws : List ℕ) (w : ℕ) (a : Atom) (t : Term) → KeepsAt ws w (absento a t) → Stands ws (w + 2) t
absento_term ws w a t h =
    let e : h.reads.2.0 ≡ after ws (pos_of w) = h.reads.2.2 in
    stands_at ws (base_of w) (pos_of w + 2) h.reads.2.0 (w + 2) t (omega arith) h.reads.2.1 (omega (arith, h.inside)) (omega (arith, h.small)) (omega (arith, h.below)) h.in_range

-- the tag is the word before it
pub absento_tag : (ws : List ℕ) (w : ℕ) (a : Atom) (t : Term) {bits k p : ℕ} → KeepsAt ws w (absento a t) → PartRead ws (w + 1) bits k p → AtomIs bits a
absento_tag ws w a t h node =
    let l : pos_of w + 2 + 0 < h.reads.2.0 = omega (arith, term_longer ws (base_of w) (pos_of w + 2) h.reads.2.0 t h.reads.2.1) in
    let is_pos : pos_of (w + 1) ≡ pos_of w + 1 = omega (arith, h.reads.2.2, h.small) in
    subst (λ z. AtomIs z a) (sym (node.is_bits ∙ ap (at ws) is_pos)) h.reads.1

-- the two terms of a differ: the second is past the first
pub record DifferAt (ws : List ℕ) (w : ℕ) (c : Constraint) : Type 0 where
  pub left : Term
  pub right : Term
  pub is : c ≡ differ left right
  pub first : Stands ws (w + 1) left
  pub second : (q : ℕ) → q + pos_of (w + 1) ≡ w + 1 + first.to → Stands ws q right

differ_terms : (ws : List ℕ) (w : ℕ) (u v : Term) → KeepsAt ws w (differ u v) → DifferAt ws w (differ u v)
differ_terms ws w u v h =
    let two = two_terms (base_of w) (after ws (pos_of w)) u v refl h.reads.1 h.inside h.small h.below h.in_range.0 h.in_range.1 in
    record { left = u; right = v; is = refl; first = two.first; second = two.second }

-- Which constraint it is, by the kind of its word

pub record TypedAt (ws : List ℕ) (w : ℕ) (c : Constraint) (kind : ℕ) : Type 0 where
  pub sort : Sort
  pub term : Term
  pub is : c ≡ typed sort term
  pub is_kind : kind ≡ sort_kind sort
  pub stands : Stands ws (w + 1) term

pub record AbsentoAt (ws : List ℕ) (w : ℕ) (c : Constraint) : Type 0 where
  pub tag : Atom
  pub term : Term
  pub is : c ≡ absento tag term
  pub keeps : KeepsAt ws w (absento tag term)

module _ {ws : List ℕ} {w bits p : ℕ} {kind : Kind} (node : PartRead ws w bits (kind_number kind) p) where
  pub differ_at : (c : Constraint) → KeepsAt ws w c → kind ≡ Differ → DifferAt ws w c
  differ_at (differ u v) h e = differ_terms ws w u v h
  differ_at (typed k t) h e = absurd (omega (arith, ap kind_number e, node.is_kind, h.reads.0, (sort_low k).0))
  differ_at (absento a t) h e = absurd (omega (arith, ap kind_number e, node.is_kind, h.reads.0))

  pub absento_at : (c : Constraint) → KeepsAt ws w c → kind ≡ Absento → AbsentoAt ws w c
  absento_at (differ u v) h e = absurd (omega (arith, ap kind_number e, node.is_kind, h.reads.0))
  absento_at (typed k t) h e = absurd (omega (arith, ap kind_number e, node.is_kind, h.reads.0, (sort_low k).1))
  absento_at (absento a t) h e = record { tag = a; term = t; is = refl; keeps = h }

  pub typed_at : (c : Constraint) → KeepsAt ws w c → ¬ (kind ≡ Differ) → ¬ (kind ≡ Absento) → TypedAt ws w c (kind_number kind)
  typed_at (differ u v) h n m = absurd (kind_number_other kind Differ n (node.is_kind ∙ h.reads.0))
  typed_at (typed k t) h n m = record { sort = k; term = t; is = refl; is_kind = node.is_kind ∙ h.reads.0; stands = typed_term ws w k t h }
  typed_at (absento a t) h n m = absurd (kind_number_other kind Absento m (node.is_kind ∙ h.reads.0))

-- what a type allows, by its kind
pub kinds_of_symbolo : {kind : Kind} → kind ≡ Symbolo → (k : Sort) → kind_number kind ≡ sort_kind k → (1 ≡ atom_kind k) × (8 ≡ other_kind k)
kinds_of_symbolo i symbols e = (refl, refl)
kinds_of_symbolo i numbers e = absurd (omega (arith, ap kind_number i))

pub kinds_of_numbero : {kind : Kind} → ¬ (kind ≡ Symbolo) → (k : Sort) → kind_number kind ≡ sort_kind k → (2 ≡ atom_kind k) × (7 ≡ other_kind k)
kinds_of_numbero {kind} n symbols e = absurd (kind_number_other kind Symbolo n e)
kinds_of_numbero n numbers e = (refl, refl)

-- The search for the other type

eqb_turned : (x y : ℕ) → eqb x y ≡ eqb y x
eqb_turned x y = grind (arith, nat_tests)

other_sort_kind : (k l : Sort) → sort_kind l ≡ other_kind k → other_sort k l ≡ true
other_sort_kind symbols symbols e = absurd (omega arith)
other_sort_kind symbols numbers e = refl
other_sort_kind numbers symbols e = refl
other_sort_kind numbers numbers e = absurd (omega arith)

other_low : (k : Sort) → (6 < other_kind k) × (other_kind k < 9)
other_low symbols = omega arith
other_low numbers = omega arith

module _ {ws : List ℕ} {w bits p : ℕ} {kind sought : Kind} (node : PartRead ws w bits (kind_number kind) p) (bs : Substitution) (c : Constraint) (k : Sort) (x : ℕ) (h : KeepsAt ws w c) (is_sought : kind_number sought ≡ other_kind k) (e : kind ≡ sought) where
  is_other : kind_number kind ≡ other_kind k
  is_other = ap kind_number e ∙ is_sought

  pub reached : TypedAt ws w c (kind_number kind)
  reached = typed_at node c h (λ z. omega (arith, ap kind_number z, is_other, (other_low k).0)) (λ z. omega (arith, ap kind_number z, is_other, (other_low k).1))

  -- its term, followed
  module _ {s : List ℕ} {v : Walked} (held : Binds ws s bs) (to : WalkedTo ws s (w + 1) v) where
    there : Stands ws v.at (walk bs reached.term)
    there = to.stands bs reached.term (record { binds = held; stands = reached.stands })

    reached_is : reaches bs k x c ≡ is_var x (walk bs reached.term)
    reached_is = ap (reaches bs k x) reached.is ∙ rw (other_sort_kind k reached.sort (sym reached.is_kind ∙ is_other)) refl

    pub reaches_no_variable : ¬ (v.kind ≡ Variable) → false ≡ reaches bs k x c
    reaches_no_variable n = sym (reached_is ∙ go (walk bs reached.term) there)
      where
        go : (t : Term) → Stands ws v.at t → is_var x t ≡ false
        go (var y) s = absurd (kind_number_other v.kind Variable n (to.node.is_kind ∙ s.reads.0))
        go (atom a) s = refl
        go (pair a b) s = refl

    pub reaches_open : {y : ℕ} → y ≡ base_of v.at + v.payload → v.kind ≡ Variable → eqb y x ≡ reaches bs k x c
    reaches_open {y} i z = let o = open_at to.node (walk bs reached.term) there (ap kind_number z) in sym (reached_is ∙ ap (is_var x) o.is ∙ ap (eqb x) (sym (i ∙ o.number_is)) ∙ eqb_turned x y)

-- the loop over the constraints kept
pub record Clashing (ws s : List ℕ) (bs : Substitution) (cs : List Constraint) (k : Sort) (x kept i : ℕ) : Type 0 where
  pub later : List Constraint
  pub kept_in : KeptIn ws s i later
  pub count : i + length later ≡ kept
  pub same : clashes bs k x cs ≡ clashes bs k x later

pub record ClashNext (ws s : List ℕ) (bs : Substitution) (cs : List Constraint) (k : Sort) (x kept i : ℕ) : Type 0 where
  pub first : Constraint
  pub later : List Constraint
  pub keeps : KeepsAt ws (at s (10240 + i)) first
  pub kept_in : KeptIn ws s (i + 1) later
  pub count : i + 1 + length later ≡ kept
  pub same : clashes bs k x cs ≡ (reaches bs k x first || clashes bs k x later)

pub clash_next : {ws s : List ℕ} {bs : Substitution} {cs : List Constraint} {k : Sort} {x kept i : ℕ} → Clashing ws s bs cs k x kept i → i < kept → ClashNext ws s bs cs k x kept i
clash_next {ws} {s} {bs} {cs} {k} {x} {kept} {i} g lt = go g.later g.kept_in g.count g.same
  where
    go : (later : List Constraint) → KeptIn ws s i later → i + length later ≡ kept → clashes bs k x cs ≡ clashes bs k x later → ClashNext ws s bs cs k x kept i
    go [] h n e = absurd (omega arith)
    go (c ∷ later) h n e = let z : suc i ≡ i + 1 = omega arith in record { first = c; later = later; keeps = h.0; kept_in = rw z at h.1; count = omega arith; same = e }

pub clash_found : {ws s : List ℕ} {bs : Substitution} {cs : List Constraint} {k : Sort} {x kept i : ℕ} (n : ClashNext ws s bs cs k x kept i) {r : Bool} → r ≡ reaches bs k x n.first → r ≡ true → true ≡ clashes bs k x cs
clash_found {bs = bs} {k = k} {x = x} n e t = sym (n.same ∙ ap (λ z. z || clashes bs k x n.later) (sym e ∙ t))

pub clash_again : {ws s : List ℕ} {bs : Substitution} {cs : List Constraint} {k : Sort} {x kept i : ℕ} (n : ClashNext ws s bs cs k x kept i) {r : Bool} → r ≡ reaches bs k x n.first → r ≡ false → Clashing ws s bs cs k x kept (i + 1)
clash_again {bs = bs} {k = k} {x = x} n e t = record { later = n.later; kept_in = n.kept_in; count = n.count; same = n.same ∙ ap (λ z. z || clashes bs k x n.later) (sym e ∙ t) }

pub clash_none : {ws s : List ℕ} {bs : Substitution} {cs : List Constraint} {k : Sort} {x kept i : ℕ} → Clashing ws s bs cs k x kept i → kept ≤ i → false ≡ clashes bs k x cs
clash_none {bs = bs} {cs = cs} {k = k} {x = x} {kept = kept} {i = i} g le = sym (g.same ∙ go g.later g.count)
  where
    go : (later : List Constraint) → i + length later ≡ kept → clashes bs k x later ≡ false
    go [] e = refl
    go (c ∷ later) e = absurd (omega arith)

-- An absento's review

pub absento_says : {ws s : List ℕ} {w bits kind p : ℕ} (left : ℕ) → PartRead ws (w + 1) bits kind p → (r : Result (Bool × ℕ) Stopped) → ((bs : Substitution) (t : Term) → Follows ws s bs (w + 2) t → ScanAs bits bs t left r)
    → (bs : Substitution) (a : Atom) (t : Term) → Constrains ws s bs w (absento a t) → scan (is_atom a) bs [] t left ≡ outcome r
absento_says {ws} {w = w} {bits} left node r told bs a t h = told bs t (record { binds = h.held; stands = absento_term ws w a t h.keeps }) (is_atom a) (atom_sought bits a (absento_tag ws w a t h.keeps node))

-- A differ's review: the trial is undone

-- the bindings of a trial, for undoing
pub record Trial (ws s₁ : List ℕ) (bs : Substitution) (trail n : ℕ) : Type 0 where
  pub new : Substitution
  pub trailed : Trailed ws s₁ new bs trail n

module _ {ws s : List ℕ} {bs : Substitution} {a : ℕ} {u : Term} {b : ℕ} {v : Term} {trail : ℕ} (left : ℕ) (m : TwoTerms ws s bs a u b v trail) (s₁ : List ℕ) (r : Unified) (told : UnifiedAs ws s s₁ bs (unify_terms bs u v left) r) where
  pub trial : Trial ws s₁ bs trail r.trail
  trial = let w = told.0 in record { new = w.new; trailed = record { long = w.held.long; bindings_in = subst (BindingsIn ws s₁) w.grows w.held.bindings_in; mark_is = m.trail_is; trail_is = w.trail_is ∙ ap length w.grows } }

  module _ (s₂ : List ℕ) (undone : (ws : List ℕ) (new bs : Substitution) → Trailed ws s₁ new bs trail r.trail → Undone ws s₁ s₂ bs) where
    taken_back : (o : Result (Bool × ℕ) Stopped) → and_then (unify_terms bs u v left) (λ p l. done (trial_fails bs p) l) ≡ outcome o → ReviewedAs ws s s₂ bs (and_then (unify_terms bs u v left) (λ p l. done (trial_fails bs p) l)) o
    taken_back o e = let b = undone ws trial.new bs trial.trailed in record { says = e; bindings_in = b.bindings_in; apart = apart_trans told.0.apart (undone_apart b) }

    pub differ_stops : (e : Stopped) → r.outcome ≡ Err e → ReviewedAs ws s s₂ bs (and_then (unify_terms bs u v left) (λ p l. done (trial_fails bs p) l)) (Err e)
    differ_stops e i = taken_back (Err e) (rw (told.1, i))

    module _ (joined : Bool) (rest : ℕ) (i : r.outcome ≡ Ok (joined, rest)) where
      pub differ_joined : joined ≡ true → ReviewedAs ws s s₂ bs (and_then (unify_terms bs u v left) (λ p l. done (trial_fails bs p) l)) (Ok (eqb r.trail trail, rest))
      differ_joined e = taken_back (Ok (eqb r.trail trail, rest)) (rw (told.1, i, e, told.0.trail_is, m.trail_is))

      pub differ_failed : joined ≡ false → ReviewedAs ws s s₂ bs (and_then (unify_terms bs u v left) (λ p l. done (trial_fails bs p) l)) (Ok (joined, rest))
      differ_failed e = taken_back (Ok (joined, rest)) (rw (told.1, i, e))

-- One review, whatever its kind

module _ {ws s : List ℕ} {bs : Substitution} {cs : List Constraint} {trail kept : ℕ} (h : ConstraintsHeld ws s bs cs trail kept) (c : Constraint) (steps : ℕ) where
  pub review_none : steps ≡ 0 → ReviewedAs ws s s bs (review bs cs c steps) (Err no_steps)
  review_none z = record { says = ap (review bs cs c) z; bindings_in = h.held.bindings_in; apart = apart_same s }

  review_step : ¬ (steps ≡ 0) → (d : Constraint) → c ≡ d → review bs cs c steps ≡ reviewed bs cs d (steps - 1)
  review_step n d e = let z : steps ≡ suc (steps - 1) = omega arith in ap (λ y. review bs cs y steps) e ∙ ap (review bs cs d) z

  pub review_differ : ¬ (steps ≡ 0) → (u v : Term) → c ≡ differ u v → (s' : List ℕ) (r : Result (Bool × ℕ) Stopped) → ReviewedAs ws s s' bs (and_then (unify_terms bs u v (steps - 1)) (λ p l. done (trial_fails bs p) l)) r → ReviewedAs ws s s' bs (review bs cs c steps) r
  review_differ n u v e s' r q = record { says = review_step n (differ u v) e ∙ q.says; bindings_in = q.bindings_in; apart = q.apart }

  pub review_absento : ¬ (steps ≡ 0) → (a : Atom) (t : Term) → c ≡ absento a t → (r : Result (Bool × ℕ) Stopped) → scan (is_atom a) bs [] t (steps - 1) ≡ outcome r → ReviewedAs ws s s bs (review bs cs c steps) r
  review_absento n a t e r q = record { says = review_step n (absento a t) e ∙ q; bindings_in = h.held.bindings_in; apart = apart_same s }

  pub review_typed : ¬ (steps ≡ 0) → (k : Sort) (t : Term) → c ≡ typed k t → {fails : Bool} → fails ≡ sort_fails bs cs k (walk bs t) → ReviewedAs ws s s bs (review bs cs c steps) (Ok (fails, steps - 1))
  review_typed n k t e q = record { says = review_step n (typed k t) e ∙ ap (λ (b : Bool). done b (steps - 1)) (sym q); bindings_in = h.held.bindings_in; apart = apart_same s }

-- All reviews

-- after what leaves constraints alone and gives the bindings back
pub kept_again : {ws s s' : List ℕ} {bs : Substitution} {cs : List Constraint} {trail kept : ℕ} → Apart s s' → BindingsIn ws s' bs → ConstraintsHeld ws s bs cs trail kept → ConstraintsHeld ws s' bs cs trail kept
kept_again {ws} {s} {s'} {bs} {cs} a b h = record {
  held = record { short = h.held.short; long = omega (arith, a.long, h.held.long); bindings_in = b; good = h.held.good };
  kept_in = kept_same ws s s' 0 cs (λ i lo hi. a.middle i (omega arith) (omega (arith, h.kept_is, h.few))) h.kept_in;
  kept_is = h.kept_is;
  few = h.few;
  trail_is = h.trail_is;
}

pub record Reviewing (ws s₀ : List ℕ) (bs : Substitution) (cs : List Constraint) (trail kept steps : ℕ) (s : List ℕ) (i left : ℕ) : Type 0 where
  pub whole : ConstraintsHeld ws s bs cs trail kept
  pub apart : Apart s₀ s
  pub later : List Constraint
  pub kept_in : KeptIn ws s i later
  pub count : i + length later ≡ kept
  pub same : review_all bs cs cs steps ≡ review_all bs cs later left

module _ {ws s₀ : List ℕ} {bs : Substitution} {cs : List Constraint} {trail kept steps : ℕ} {s : List ℕ} {i left : ℕ} (g : Reviewing ws s₀ bs cs trail kept steps s i left) where
  pub reviews_end : kept ≤ i → ReviewedAs ws s₀ s bs (review_all bs cs cs steps) (Ok (false, left))
  reviews_end le = record { says = g.same ∙ go g.later g.count; bindings_in = g.whole.held.bindings_in; apart = g.apart }
    where
      go : (later : List Constraint) → i + length later ≡ kept → review_all bs cs later left ≡ done false left
      go [] e = refl
      go (c ∷ later) e = absurd (omega arith)

  pub record Next : Type 0 where
    pub first : Constraint
    pub others : List Constraint
    pub is : g.later ≡ first ∷ others
    pub keeps : KeepsAt ws (at s (10240 + i)) first

  pub reviews_next : i < kept → Next
  reviews_next lt = go g.later refl g.kept_in g.count
    where
      go : (later : List Constraint) → g.later ≡ later → KeptIn ws s i later → i + length later ≡ kept → Next
      go [] e h n = absurd (omega arith)
      go (c ∷ later) e h n = record { first = c; others = later; is = e; keeps = h.0 }

  -- what the review of the next one came to
  module _ (lt : i < kept) (s' : List ℕ) where
    n : Next
    n = reviews_next lt

    abbrev pub Told : Result (Bool × ℕ) Stopped → Type 0
    Told r = (bs : Substitution) (cs : List Constraint) (c : Constraint) → Reviews ws s bs cs trail kept (at s (10240 + i)) c → ReviewedAs ws s s' bs (review bs cs c left) r

    said : (r : Result (Bool × ℕ) Stopped) → Told r → ReviewedAs ws s s' bs (review bs cs n.first left) r
    said r told = told bs cs n.first (record { whole = g.whole; keeps = n.keeps })

    then_is : (o : Outcome Bool) → review bs cs n.first left ≡ o → review_all bs cs cs steps ≡ and_then o (λ broken l. choose broken (λ _. done true l) (λ _. review_all bs cs n.others l))
    then_is o e = g.same ∙ ap (λ z. review_all bs cs z left) n.is ∙ ap (λ z. and_then z (λ broken l. choose broken (λ _. done true l) (λ _. review_all bs cs n.others l))) e

    pub review_stops : (stopped : Stopped) → Told (Err stopped) → ReviewedAs ws s₀ s' bs (review_all bs cs cs steps) (Err stopped)
    review_stops stopped told = let y = said (Err stopped) told in record { says = then_is (stops stopped) y.says; bindings_in = y.bindings_in; apart = apart_trans g.apart y.apart }

    module _ (fails : Bool) (rest : ℕ) (told : Told (Ok (fails, rest))) where
      now : ReviewedAs ws s s' bs (review bs cs n.first left) (Ok (fails, rest))
      now = said (Ok (fails, rest)) told

      says : (b : Bool) → fails ≡ b → review bs cs n.first left ≡ done b rest
      says b e = now.says ∙ ap (λ b. done b rest) e

      pub review_breaks : fails ≡ true → ReviewedAs ws s₀ s' bs (review_all bs cs cs steps) (Ok (true, rest))
      review_breaks e = record { says = then_is (done true rest) (says true e); bindings_in = now.bindings_in; apart = apart_trans g.apart now.apart }

      pub review_again : fails ≡ false → Reviewing ws s₀ bs cs trail kept steps s' (i + 1) rest
      review_again e =
          let l : length g.later ≡ suc (length n.others) = ap length n.is in
          let w : KeptIn ws s i (n.first ∷ n.others) = subst (KeptIn ws s i) n.is g.kept_in in
          let z : suc i ≡ i + 1 = omega arith in
          record {
            whole = kept_again now.apart now.bindings_in g.whole;
            apart = apart_trans g.apart now.apart;
            later = n.others;
            kept_in = kept_same ws s s' (i + 1) n.others (λ j lo hi. now.apart.middle j (omega arith) (omega (arith, g.count, g.whole.few))) (rw z at w.1);
            count = omega (arith, g.count);
            same = then_is (done false rest) (says false e);
          }
