-- References: where parts are, and that a place holds one term only.
use Prim.Native.Nat.{ℕ, ◌+◌, ◌-◌, ◌≤◌, ◌<◌}
use mathlib.Core.Path.{◌≡◌, refl, sym, ap, ap₂, subst, ◌∙◌}
use mathlib.Core.Bool.{Bool, true, false}
use mathlib.Core.List.{List, [], ◌∷◌}
use native.Mathlib.Omega.{arith}
use lib.Dec.{eqb}
use lib.ListN.{length}
use borrow.Author.Tests.{eqb-true, eqb-false}
use Rattle.word.specs.Word.{kind}
use Rattle.rules.specs.Reading.{kind_at, payload_at, after}
use Rattle.rules.specs.Written.{sort_kind}
use Rattle.rules.specs.Syntax.{Atom, symbol, number, empty, Term, var, atom, pair, Sort, symbols, numbers}
use Rattle.semantics.specs.Substitution.{same_atom}
use Rattle.semantics.specs.Invariant.{Vars}
use Rattle.semantics.proofs.TermLaws.{same_atom_true, same_atom_refl, term_size}
use Rattle.engine.specs.Layout.{positions, references}
use Rattle.engine.specs.Walk.{PartRead}
use Rattle.engine.specs.Reference.{at, AtomIs, TermAt, TermsAt, refer, pos_of, base_of, beyond, Stands}
use Rattle.rules.specs.Settings.{most_words}

-- references
pub pos_refer : (pos base : ℕ) → pos < positions → pos_of (refer pos base) ≡ pos
pos_refer pos base lt = omega arith

pub base_refer : (pos base : ℕ) → pos < positions → base_of (refer pos base) ≡ base
base_refer pos base lt = omega arith

-- a reference moves with its position
pub pos_plus : (w d : ℕ) → pos_of w + d < positions → pos_of (w + d) ≡ pos_of w + d
pos_plus w d lt = omega arith

pub base_plus : (w d : ℕ) → pos_of w + d < positions → base_of (w + d) ≡ base_of w
base_plus w d lt = omega arith

pub pos_beyond : (ws : List ℕ) (w : ℕ) → after ws (pos_of w) < positions → pos_of (beyond ws w) ≡ after ws (pos_of w)
pos_beyond ws w lt = omega arith

pub base_beyond : (ws : List ℕ) (w : ℕ) → after ws (pos_of w) < positions → base_of (beyond ws w) ≡ base_of w
base_beyond ws w lt = omega arith

-- a term takes more words than it has pairs
pub term_longer : (ws : List ℕ) (base from to : ℕ) (t : Term) → TermAt ws base from to t → from + term_size t < to
term_longer ws base from to (var x) h = omega (arith, h.2)
term_longer ws base from to (atom a) h = omega (arith, h.1)
term_longer ws base from to (pair s t) h = omega (arith, term_longer ws base (from + 1) (from + 1 + payload_at ws from) s h.1, term_longer ws base (from + 1 + payload_at ws from) to t h.2)

pub terms_longer : (ws : List ℕ) (base from to : ℕ) (ts : List Term) → TermsAt ws base from to ts → from ≤ to
terms_longer ws base from to [] h = omega (arith, h)
terms_longer ws base from to (t ∷ ts) h = omega (arith, term_longer ws base from h.0 t h.1, terms_longer ws base h.0 to ts h.2)

-- the word of a reference that stands for a term is there
pub stands_inside : {ws : List ℕ} {w : ℕ} {t : Term} → Stands ws w t → pos_of w < length ws
stands_inside {ws} {w} {t} h = omega (arith, term_longer ws (base_of w) (pos_of w) h.to t h.reads, h.inside)

pub stands_short : {ws : List ℕ} {w : ℕ} {t : Term} → Stands ws w t → term_size t < positions
stands_short {ws} {w} {t} h = omega (arith, term_longer ws (base_of w) (pos_of w) h.to t h.reads, h.small)

-- The one law over the offset: a term at a place of the program stands for the place's reference in its environment, however the code came there.
unfoldable pub stands_at : (ws : List ℕ) (base from to q : ℕ) (t : Term) → q ≡ refer from base → TermAt ws base from to t → to ≤ length ws → to ≤ most_words → base ≤ 2048 → Vars (λ x. x < 2048) t → Stands ws q t
stands_at ws base from to q t e h inside small low v =
    let l : from + term_size t < to = term_longer ws base from to t h in
    let is_pos : pos_of q ≡ from = omega arith in
    let is_base : base_of q ≡ base = omega arith in
    record {
      to = to;
      reads = subst (λ b. TermAt ws b (pos_of q) to t) (sym is_base) (subst (λ k. TermAt ws base k to t) (sym is_pos) h);
      inside = inside;
      small = small;
      below = omega arith;
      in_range = v;
    }

-- two terms behind a goal's word, one after the other
pub record TwoAt (ws : List ℕ) (w : ℕ) (u v : Term) : Type 0 where
  pub first : Stands ws (w + 1) u
  pub second : (q : ℕ) → q + pos_of (w + 1) ≡ w + 1 + first.to → Stands ws q v

pub two_terms : {ws : List ℕ} {w : ℕ} (base to : ℕ) (u v : Term) → base_of w ≡ base → TermsAt ws base (pos_of w + 1) to (u ∷ v ∷ []) → to ≤ length ws → to ≤ most_words → w < references
    → Vars (λ x. x < 2048) u → Vars (λ x. x < 2048) v → TwoAt ws w u v
unfolding stands_at
two_terms {ws} {w} base to u v is_base h inside small below in-u in-v =
    let mid : ℕ = h.0 in
    let l : pos_of w + 1 + term_size u < mid = term_longer ws base (pos_of w + 1) mid u h.1 in
    let m : mid + term_size v < h.2.0 = term_longer ws base mid h.2.0 v h.2.1 in
    let e : h.2.0 ≡ to = h.2.2 in
    let low : base ≤ 2048 = omega arith in
    record {
      first = stands_at ws base (pos_of w + 1) mid (w + 1) u (omega arith) h.1 (omega arith) (omega arith) low in-u;
      second = λ q z. stands_at ws base mid h.2.0 q v (omega arith) h.2.1 (omega arith) (omega arith) low in-v;
    }

-- the parts of a pair are where the code looks for them
pub record Parts (ws : List ℕ) (w : ℕ) (s t : Term) : Type 0 where
  pub is_pair : kind_at ws (pos_of w) ≡ 4
  pub first : Stands ws (w + 1) s
  pub second : Stands ws (beyond ws w) t

pub parts : (ws : List ℕ) (w : ℕ) (s t : Term) → Stands ws w (pair s t) → Parts ws w s t
parts ws w s t h =
    let p : ℕ = pos_of w in
    let b : ℕ = base_of w in
    let mid : ℕ = p + 1 + payload_at ws p in
    let l : mid + term_size t < h.to = term_longer ws b mid h.to t h.reads.2 in
    let i : h.to ≤ length ws = h.inside in
    let e : h.to ≤ most_words = h.small in
    let lt : b ≤ 2048 = omega (arith, h.below) in
    record {
      is_pair = h.reads.0;
      first = stands_at ws b (p + 1) mid (w + 1) s (omega arith) h.reads.1 (omega arith) (omega arith) lt h.in_range.0;
      second = stands_at ws b mid h.to (beyond ws w) t (omega arith) h.reads.2 i e lt h.in_range.1;
    }

pub atom_low : (w : ℕ) (a : Atom) → AtomIs w a → (0 < kind w) × (kind w < 4)
atom_low w (symbol p) h = omega (arith, h.0)
atom_low w (number p) h = omega (arith, h.0)
atom_low w empty h = omega (arith, h.0)

-- the kinds of types
pub sort_low : (k : Sort) → (6 < sort_kind k) × (sort_kind k < 9)
sort_low symbols = omega arith
sort_low numbers = omega arith

-- past a term: a pair ends where its second part does
pub record Skips (ws : List ℕ) (w to w' : ℕ) : Type 0 where
  pub term : Term
  pub stands : Stands ws w' term
  pub ends : stands.to ≡ to
  pub same_base : base_of w' ≡ base_of w
  pub forward : pos_of w < pos_of w'

pub skip_pair : {ws : List ℕ} {w bits k p : ℕ} → PartRead ws w bits k p → (t : Term) (h : Stands ws w t) → k ≡ 4 → Skips ws w h.to (w + 1 + p)
unfolding stands_at
skip_pair {ws} {w} node (var x) h e = absurd (omega (arith, h.reads.0, node.is_kind))
skip_pair {ws} {w} node (atom a) h e = let l = atom_low (at ws (pos_of w)) a h.reads.0 in absurd (omega (arith, l.1, node.is_kind))
skip_pair {ws} {w} {p = p} node (pair s t) h e =
    let q : p ≡ payload_at ws (pos_of w) = node.is_payload in
    let mid : ℕ = after ws (pos_of w) in
    let l : mid + term_size t < h.to = term_longer ws (base_of w) mid h.to t h.reads.2 in
    let small : h.to ≤ most_words = h.small in
    let is_base : base_of (w + 1 + p) ≡ base_of w = omega arith in
    record {
      term = t;
      stands = stands_at ws (base_of w) mid h.to (w + 1 + p) t (omega arith) h.reads.2 h.inside small (omega (arith, h.below)) h.in_range.1;
      ends = refl;
      same_base = is_base;
      forward = omega arith;
    }

pub skip_leaf : {ws : List ℕ} {w bits k p : ℕ} → PartRead ws w bits k p → (t : Term) (h : Stands ws w t) → ¬ (k ≡ 4) → h.to ≡ pos_of w + 1
skip_leaf node (var x) h n = h.reads.2
skip_leaf node (atom a) h n = h.reads.1
skip_leaf node (pair s t) h n = absurd (n (node.is_kind ∙ h.reads.0))

-- the loop that skips: what is left ends where the whole does
pub record Skipping (ws : List ℕ) (start to w : ℕ) : Type 0 where
  pub here : Term
  pub stands : Stands ws w here
  pub ends : stands.to ≡ to
  pub same_base : base_of w ≡ base_of start

pub skip_start : {ws : List ℕ} {w : ℕ} (t : Term) (h : Stands ws w t) → Skipping ws w h.to w
skip_start t h = record { here = t; stands = h; ends = refl; same_base = refl }

pub skip_ends : {ws : List ℕ} {start to w bits k p : ℕ} → Skipping ws start to w → PartRead ws w bits k p → ¬ (k ≡ 4) → w + 1 + pos_of start ≡ start + to
skip_ends g node n = omega (arith, skip_leaf node g.here g.stands n, g.ends, g.same_base)

pub skip_on : {ws : List ℕ} {start to w bits k p : ℕ} → Skipping ws start to w → PartRead ws w bits k p → k ≡ 4 → Skipping ws start to (w + 1 + p)
skip_on g node e = let q = skip_pair node g.here g.stands e in record { here = q.term; stands = q.stands; ends = q.ends ∙ g.ends; same_base = q.same_base ∙ g.same_base }

pub skip_falls : {ws : List ℕ} {start to w bits k p : ℕ} → Skipping ws start to w → PartRead ws w bits k p → k ≡ 4 → length ws - pos_of (w + 1 + p) < length ws - pos_of w
skip_falls g node e = let q = skip_pair node g.here g.stands e in omega (arith, q.forward, stands_inside q.stands)

-- A place holds one term, and it ends at one place.

pub atom_one : (w : ℕ) (a b : Atom) → AtomIs w a → AtomIs w b → a ≡ b
atom_one w (symbol p) (symbol q) h k = ap symbol (sym h.1 ∙ k.1)
atom_one w (symbol p) (number q) h k = absurd (omega (arith, h.0, k.0))
atom_one w (symbol p) empty h k = absurd (omega (arith, h.0, k.0))
atom_one w (number p) (symbol q) h k = absurd (omega (arith, h.0, k.0))
atom_one w (number p) (number q) h k = ap number (sym h.1 ∙ k.1)
atom_one w (number p) empty h k = absurd (omega (arith, h.0, k.0))
atom_one w empty (symbol q) h k = absurd (omega (arith, h.0, k.0))
atom_one w empty (number q) h k = absurd (omega (arith, h.0, k.0))
atom_one w empty empty h k = refl

-- the word of an atom
abbrev atom_word : Atom → ℕ
atom_word (symbol p) = 268435456 + p
atom_word (number p) = 536870912 + p
atom_word empty = 805306368

pub atom_word_is : (w : ℕ) (a : Atom) → AtomIs w a → w ≡ atom_word a
atom_word_is w (symbol p) h = omega (arith, h.0, h.1)
atom_word_is w (number p) h = omega (arith, h.0, h.1)
atom_word_is w empty h = omega (arith, h.0, h.1)

-- atoms are the same if their words are
pub atom_test : (w v : ℕ) (a b : Atom) → AtomIs w a → AtomIs v b → same_atom a b ≡ eqb w v
atom_test w v a b h k = go (eqb w v) refl
  where
    go : (c : Bool) → eqb w v ≡ c → same_atom a b ≡ c
    go true e = let q : w ≡ v = eqb-true w v e in let p : a ≡ b = atom_one w a b h (rw q k) in rw p (same_atom_refl b)
    go false e = no (same_atom a b) refl
      where
        no : (c : Bool) → same_atom a b ≡ c → c ≡ false
        no false f = refl
        no true f = let p : a ≡ b = same_atom_true a b f in let q : atom_word a ≡ atom_word b = ap atom_word p in absurd (eqb-false w v e (atom_word_is w a h ∙ q ∙ sym (atom_word_is v b k)))

pub term_one : (ws : List ℕ) (base from : ℕ) (t u : Term) (to to' : ℕ) → TermAt ws base from to t → TermAt ws base from to' u → (t ≡ u) × (to ≡ to')
term_one ws base from (var x) (var y) to to' h k = (ap var (sym h.1 ∙ k.1), h.2 ∙ sym k.2)
term_one ws base from (var x) (atom b) to to' h k = let l = atom_low (at ws from) b k.0 in absurd (omega (arith, l.0, h.0))
term_one ws base from (var x) (pair u v) to to' h k = absurd (omega (arith, h.0, k.0))
term_one ws base from (atom a) (var y) to to' h k = let l = atom_low (at ws from) a h.0 in absurd (omega (arith, l.0, k.0))
term_one ws base from (atom a) (atom b) to to' h k = (ap atom (atom_one (at ws from) a b h.0 k.0), h.1 ∙ sym k.1)
term_one ws base from (atom a) (pair u v) to to' h k = let l = atom_low (at ws from) a h.0 in absurd (omega (arith, l.1, k.0))
term_one ws base from (pair s t) (var y) to to' h k = absurd (omega (arith, h.0, k.0))
term_one ws base from (pair s t) (atom b) to to' h k = let l = atom_low (at ws from) b k.0 in absurd (omega (arith, l.1, h.0))
term_one ws base from (pair s t) (pair u v) to to' h k =
    let f = term_one ws base (from + 1) s u _ _ h.1 k.1 in
    let g = term_one ws base (from + 1 + payload_at ws from) t v to to' h.2 k.2 in
    (ap₂ pair f.0 g.0, g.1)
