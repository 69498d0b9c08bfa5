-- One node of a scan, in the shape of the code's tests.
use Prim.Native.Nat.{ℕ, suc, ◌+◌, ◌<◌}
use mathlib.Core.Path.{◌≡◌, refl, sym, ap, ◌∙◌}
use mathlib.Core.Bool.{Bool, true, false}
use mathlib.Core.Logic.{◌⊎◌, inl, inr}
use mathlib.Core.List.{List, [], ◌∷◌}
use native.Mathlib.Omega.{arith}
use lib.Dec.{eqb, ltb}
use lib.ListN.{length}
use borrow.Author.Tests.{eq-eqb, ne_eqb, eqb-true, eqb-false}
use Rattle.std.specs.Prelude.{Option, Result, Ok, Err}
use Rattle.rules.specs.Reading.{choose}
use Rattle.rules.specs.Syntax.{Atom, Term, var, atom, pair}
use Rattle.semantics.specs.Substitution.{Substitution, walk}
use Rattle.semantics.specs.Steps.{Outcome}
use Rattle.semantics.specs.Unify.{scan, is_var, is_atom}
use Rattle.semantics.proofs.SubstitutionLaws.{followed_follow}
use Rattle.semantics.proofs.ScanLaws.{Leaf}
use Rattle.engine.specs.Reference.{at, AtomIs, pos_of, base_of, Stands}
use Rattle.engine.specs.Walk.{PartRead}
use Rattle.engine.specs.Scan.{LeafWord, TestAs, scan_says, ScanAs}
use Rattle.engine.specs.Traverse.{Met, EnteredNow, SaysAs}
use Rattle.engine.specs.Entering.{scans}
use Rattle.engine.specs.Steps.{stops, at_bound, outcome}
use Rattle.engine.specs.declared.report.Bound.TheVariants.{Waiting}
use Rattle.engine.specs.declared.steps.Stopped.{Stopped}
use Rattle.engine.specs.declared.terms.scan.Every.{Every}
use Rattle.engine.proofs.ReferenceLaws.{atom_low, atom_test, parts}

-- what stands at a followed reference, by the kind of its word
module _ {ws : List ℕ} {w : ℕ} {bits k p : ℕ} (node : PartRead ws w bits k p) where
  pub record OpenAt (t : Term) : Type 0 where
    pub number : ℕ
    pub is : t ≡ var number
    pub number_is : base_of w + p ≡ number
    pub low : number < 2048

  pub record AtomAt (t : Term) : Type 0 where
    pub which : Atom
    pub is : t ≡ atom which
    pub word_is : AtomIs bits which

  pub record PairAt (t : Term) : Type 0 where
    pub left : Term
    pub right : Term
    pub is : t ≡ pair left right
    pub first : Stands ws (w + 1) left
    pub second : Stands ws (w + 1 + p) right

  pub open_at : (t : Term) → Stands ws w t → k ≡ 0 → OpenAt t
  open_at (var x) h e = record { number = x; is = refl; number_is = ap (λ y. base_of w + y) node.is_payload ∙ h.reads.1; low = h.in_range }
  open_at (atom a) h e = let l = atom_low (at ws (pos_of w)) a h.reads.0 in absurd (omega (arith, l.0, node.is_kind))
  open_at (pair a b) h e = absurd (omega (arith, h.reads.0, node.is_kind))

  pub atom_at : (t : Term) → Stands ws w t → ¬ (k ≡ 0) → ¬ (k ≡ 4) → AtomAt t
  atom_at (var x) h n m = absurd (n (node.is_kind ∙ h.reads.0))
  atom_at (atom a) h n m = record { which = a; is = refl; word_is = rw node.is_bits h.reads.0 }
  atom_at (pair a b) h n m = absurd (m (node.is_kind ∙ h.reads.0))

  pub pair_at : (t : Term) → Stands ws w t → k ≡ 4 → PairAt t
  pair_at (var x) h e = absurd (omega (arith, h.reads.0, node.is_kind))
  pair_at (atom a) h e = let l = atom_low (at ws (pos_of w)) a h.reads.0 in absurd (omega (arith, l.1, node.is_kind))
  pair_at (pair a b) h e = let q = parts ws w a b h in record { left = a; right = b; is = refl; first = q.first; second = rw node.is_payload q.second }

  -- a leaf, by its word
  pub record LeafAt (t : Term) (r : ℕ) : Type 0 where
    pub is : Leaf t
    pub tested : {sought : ℕ} {test : Term → Bool} → TestAs sought test → test t ≡ eqb r sought

  pub leaf_at : {r : ℕ} (t : Term) → Stands ws w t → ¬ (k ≡ 4) → LeafWord w bits k p r → LeafAt t r
  leaf_at (var x) h m l =
      let e : _ ≡ x = l.of_var (node.is_kind ∙ h.reads.0) ∙ ap (λ y. base_of w + y) node.is_payload ∙ h.reads.1 in
      record { is = tt; tested = λ {sought} {test} is. is.on_var x h.in_range ∙ ap (λ y. eqb y sought) (sym e) }
  leaf_at (atom a) h m l =
      let i = atom_low (at ws (pos_of w)) a h.reads.0 in
      let e : _ ≡ bits = l.of_atom (λ z. omega (arith, i.0, node.is_kind)) in
      record { is = tt; tested = λ {sought} {test} is. is.on_atom a bits (rw node.is_bits h.reads.0) ∙ ap (λ y. eqb y sought) (sym e) }
  leaf_at (pair a b) h m l = absurd (m (node.is_kind ∙ h.reads.0))

-- `scan` enters each pair

scan_at_pair : (test : Term → Bool) (bs : Substitution) (vs : List Term) (u a b : Term) (left : ℕ) → walk bs u ≡ pair a b → test (pair a b) ≡ false →
    scan test bs vs u (suc left) ≡ choose (ltb (length vs) 512) (λ _. scan test bs (b ∷ vs) a left) (λ _. stops (at_bound Waiting (suc left)))
scan_at_pair test bs vs u a b left e q = rw (e, q)

scan_in_place : (test : Term → Bool) (bs : Substitution) (vs : List Term) (u a b : Term) (left : ℕ) → walk bs u ≡ pair a b → test (pair a b) ≡ false → scan test bs vs u (suc left) ≡ scan test bs vs (walk bs u) (suc left)
scan_in_place test bs vs u a b left e q = let w : walk bs (pair a b) ≡ pair a b = followed_follow (length bs) bs (pair a b) tt in rw (e, q, w, q) refl

pub scan_enters : (every : Every) (sought : ℕ) (bs : Substitution) {through : Option ℕ} (u : Term) (m : Met bs through u) → EnteredNow (scans sought bs) every u m.left m.right tt
scan_enters every sought bs u m = record {
  entered = tt;
  holds = tt;
  same = λ i vs left. scan_at_pair i.0 bs vs u m.left m.right left m.is (i.1.on_pair m.left m.right);
  in_place = λ i vs left. scan_in_place i.0 bs vs u m.left m.right left m.is (i.1.on_pair m.left m.right);
}

-- the words sought
swapped : (x y : ℕ) → eqb x y ≡ eqb y x
swapped x y = go (eqb y x) refl
  where
    go : (b : Bool) → eqb y x ≡ b → eqb x y ≡ b
    go true e = eq-eqb x y (sym (eqb-true y x e))
    go false e = ne_eqb x y (λ z. eqb-false y x e (sym z))

pub variable_sought : (x : ℕ) → x < 2048 → TestAs x (is_var x)
variable_sought x lt = record { on_var = λ y l. swapped x y; on_atom = λ a w i. let l = atom_low w a i in sym (ne_eqb w x (λ z. omega (arith, l.0))); on_pair = λ s t. refl }

pub atom_sought : (w : ℕ) (a : Atom) → AtomIs w a → TestAs w (is_atom a)
atom_sought w a i = record { on_var = λ x l. let k = atom_low w a i in sym (ne_eqb x w (λ z. omega (arith, k.0))); on_atom = λ b v j. atom_test w v a b i j ∙ swapped w v; on_pair = λ s t. refl }

-- with no node that waits, it says the outcome
pub says_alone : (r : Result (Bool × ℕ) Stopped) (go : List Term → Term → ℕ → Outcome Bool) → scan_says r [] go ≡ outcome r
unfolding scan_says
says_alone (Ok (true, left)) go = refl
says_alone (Ok (false, left)) go = refl
says_alone (Err stopped) go = refl

-- a scan by itself, which never gives up
pub scan_alone : (every : Every) (sought : ℕ) (bs : Substitution) (t : Term) (steps : ℕ) (r : Result (Bool × ℕ) Stopped) → SaysAs (scans sought bs) every tt t 0 steps r → ScanAs sought bs t steps r
scan_alone every sought bs t steps r h test is = h.same (test, is) [] refl ∙ says_alone r _

pub scan_stopped : (every : Every) (sought : ℕ) (bs : Substitution) (t : Term) (steps : ℕ) (stopped : Stopped) → SaysAs (scans sought bs) every tt t 0 steps (Err stopped) ⊎ ⊥ → ScanAs sought bs t steps (Err stopped)
scan_stopped every sought bs t steps stopped (inl h) = scan_alone every sought bs t steps (Err stopped) h
scan_stopped every sought bs t steps stopped (inr h) = absurd h
