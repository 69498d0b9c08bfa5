-- Names: the words of the area, by the list of names.
use Prim.Native.Nat.{ℕ, suc, ◌+◌, ◌%◌, ◌<◌, ◌≤◌}
use mathlib.Core.Path.{◌≡◌, refl, sym, ap, ◌∙◌}
use mathlib.Core.Bool.{Bool, true, false, not, ◌||◌, false≢true}
use mathlib.Core.Option.{none}
use mathlib.Core.List.{List, [], ◌∷◌, ◌++◌}
use native.Mathlib.Omega.{arith}
use lib.Dec.{eqb}
use lib.ListN.{length, set, length-set}
use lib.Seq.{get_or-set_same, get_or-set_other}
use borrow.Author.Tests.{eq-eqb, ne_eqb, eqb-false}
use Rattle.rules.specs.Reading.{choose}
use Rattle.rules.specs.Syntax.{empty, var, atom}
use Rattle.rules.specs.Settings.{scratch_words}
use Rattle.semantics.specs.Substitution.{Substitution, lookup}
use Rattle.semantics.specs.Answer.{index, appear}
use Rattle.semantics.specs.Unify.{member}
use Rattle.semantics.proofs.Basics.{clash, compared, same, other, none_of, or_right, by_choose}
use Rattle.semantics.proofs.SubstitutionLaws.{lookup_other}
use Rattle.engine.specs.Reference.{at}
use Rattle.engine.specs.Memory.{Fresh}
use Rattle.engine.specs.Trail.{Apart}
use Rattle.engine.specs.Names.{next_top, top_from, word_from, Distinct, Names, NamesGiven, Named}
use Rattle.engine.proofs.TrailLaws.{fresh_few}

-- the word of a variable with no name is 0, that of one with a name is not
pub word_none : (top : ℕ) (xs : List ℕ) (y : ℕ) → member y xs ≡ false → word_from top xs y ≡ 0
unfolding word_from
word_none top [] y e = refl
word_none top (x ∷ xs) y e = go (eqb y x) e (word_none (next_top top x) xs y)
  where
    go : (b : Bool) → (b || member y xs) ≡ false → (member y xs ≡ false → word_from (next_top top x) xs y ≡ 0) → choose b (λ _. top + 1) (λ _. word_from (next_top top x) xs y) ≡ 0
    go true h ih = clash (cc)
    go false h ih = ih h

pub word_some : (top : ℕ) (xs : List ℕ) (y : ℕ) → member y xs ≡ true → word_from top xs y ≡ 0 → ⊥
unfolding word_from
word_some top [] y e z = clash (cc)
word_some top (x ∷ xs) y e z = go (eqb y x) e z (word_some (next_top top x) xs y)
  where
    go : (b : Bool) → (b || member y xs) ≡ true → choose b (λ _. top + 1) (λ _. word_from (next_top top x) xs y) ≡ 0 → (member y xs ≡ true → word_from (next_top top x) xs y ≡ 0 → ⊥) → ⊥
    go true h q ih = omega arith
    go false h q ih = ih h q

-- and tells its number
pub word_number : (top : ℕ) (xs : List ℕ) (y : ℕ) → member y xs ≡ true → top % 4096 + length xs < 4096 → word_from top xs y % 4096 ≡ top % 4096 + index y xs + 1
unfolding word_from
word_number top [] y e few = clash (cc)
word_number top (x ∷ xs) y e few = go (eqb y x) e (word_number (next_top top x) xs y)
  where
    m : next_top top x % 4096 ≡ top % 4096 + 1
    m = omega arith

    go : (b : Bool) → (b || member y xs) ≡ true → (member y xs ≡ true → next_top top x % 4096 + length xs < 4096 → word_from (next_top top x) xs y % 4096 ≡ next_top top x % 4096 + index y xs + 1)
        → choose b (λ _. top + 1) (λ _. word_from (next_top top x) xs y) % 4096 ≡ top % 4096 + choose b (λ _. 0) (λ _. suc (index y xs)) + 1
    go true h ih = omega arith
    go false h ih = omega (arith, m, ih h (omega (arith, m)))

-- one name more
pub top_snoc : (top : ℕ) (xs : List ℕ) (x : ℕ) → top_from top (xs ++ (x ∷ [])) ≡ next_top (top_from top xs) x
unfolding top_from
top_snoc top [] x = refl
top_snoc top (y ∷ ys) x = top_snoc (next_top top y) ys x

pub word_snoc_same : (top : ℕ) (xs : List ℕ) (x : ℕ) → member x xs ≡ false → word_from top (xs ++ (x ∷ [])) x ≡ top_from top xs + 1
unfolding word_from top_from
word_snoc_same top [] x e = rw (eq-eqb x x refl)
word_snoc_same top (y ∷ ys) x e = go (eqb x y) e (word_snoc_same (next_top top y) ys x)
  where
    go : (b : Bool) → (b || member x ys) ≡ false → (member x ys ≡ false → word_from (next_top top y) (ys ++ (x ∷ [])) x ≡ top_from (next_top top y) ys + 1)
        → choose b (λ _. top + 1) (λ _. word_from (next_top top y) (ys ++ (x ∷ [])) x) ≡ top_from (next_top top y) ys + 1
    go true h ih = clash (cc)
    go false h ih = ih h

pub word_snoc_other : (top : ℕ) (xs : List ℕ) (x y : ℕ) → ¬ (y ≡ x) → word_from top (xs ++ (x ∷ [])) y ≡ word_from top xs y
unfolding word_from
word_snoc_other top [] x y n = rw (ne_eqb y x n)
word_snoc_other top (z ∷ zs) x y n = ap (λ k. choose (eqb y z) (λ _. top + 1) (λ _. k)) (word_snoc_other (next_top top z) zs x y n)

member_snoc : (y x : ℕ) (xs : List ℕ) → ¬ (y ≡ x) → member y (xs ++ (x ∷ [])) ≡ member y xs
member_snoc y x [] n = rw (ne_eqb y x n)
member_snoc y x (z ∷ zs) n = ap (λ k. eqb y z || k) (member_snoc y x zs n)

pub distinct_snoc : (xs : List ℕ) (x : ℕ) → Distinct xs → x < 2048 → member x xs ≡ false → Distinct (xs ++ (x ∷ []))
unfolding Distinct
distinct_snoc [] x d l e = (l, refl, tt)
distinct_snoc (y ∷ ys) x d l e =
    let o = none_of (eqb x y) (member x ys) e in
    let n : ¬ (y ≡ x) = λ q. eqb-false x y o.0 (sym q) in
    (d.0, member_snoc y x ys n ∙ d.1, distinct_snoc ys x d.2 l o.1)

pub distinct_init : (xs : List ℕ) (x : ℕ) → Distinct (xs ++ (x ∷ [])) → Distinct xs × (x < 2048) × (member x xs ≡ false)
unfolding Distinct
distinct_init [] x d = (tt, d.0, refl)
distinct_init (y ∷ ys) x d =
    let i = distinct_init ys x d.2 in
    elim (compared y x) [
      | same p e ↦ absurd (false≢true (sym d.1 ∙ last_in y ys x p))
      | other n e ↦ ((d.0, sym (member_snoc y x ys n) ∙ d.1, i.0), i.1, rw (ne_eqb x y (λ q. n (sym q))) i.2)
    ]
  where
    last_in : (y : ℕ) (ys : List ℕ) (x : ℕ) → y ≡ x → member y (ys ++ (x ∷ [])) ≡ true
    last_in y [] x p = rw (eq-eqb y x p)
    last_in y (z ∷ zs) x p = rw (last_in y zs x p) (or_right (eqb y z))

-- there are at most 2048
as_bindings : List ℕ → Substitution
as_bindings [] = []
as_bindings (x ∷ xs) = (x, atom empty) ∷ as_bindings xs

as_open : (y : ℕ) (xs : List ℕ) → member y xs ≡ false → lookup (as_bindings xs) y ≡ none
unfolding as_bindings
as_open y [] e = refl
as_open y (x ∷ xs) e =
    let o = none_of (eqb y x) (member y xs) e in
    lookup_other x (atom empty) (as_bindings xs) y (ne_eqb x y (λ q. eqb-false y x o.0 (sym q))) ∙ as_open y xs o.1

as_fresh : (xs : List ℕ) → Distinct xs → Fresh (as_bindings xs)
unfolding as_bindings Distinct
as_fresh [] d = tt
as_fresh (x ∷ xs) d = (d.0, as_open x xs d.1, as_fresh xs d.2)

as_many : (xs : List ℕ) → length (as_bindings xs) ≡ length xs
unfolding as_bindings
as_many [] = refl
as_many (x ∷ xs) = ap suc (as_many xs)

pub names_few : (xs : List ℕ) → Distinct xs → length xs ≤ 2048
names_few xs d = omega (arith, as_many xs, fresh_few (as_bindings xs) (as_fresh xs d))

-- `top` is a small number
pub top_small : (top : ℕ) (xs : List ℕ) → Distinct xs → top ≤ 8392704 → top_from top xs ≤ 8392704
unfolding top_from Distinct
top_small top [] d l = l
top_small top (x ∷ xs) d l = top_small (next_top top x) xs d.2 (omega (arith, d.0))

-- Naming a variable, and taking the last name back

module _ {s : List ℕ} {top : ℕ} {names : List ℕ} (h : Names s top names) where
  pub names_top : top ≤ 8392704
  names_top = omega (arith, h.top_is, top_small 0 names h.distinct (omega arith))

  pub has_name : (x : ℕ) → x < 2048 → ¬ (at s (4096 + x) ≡ 0) → member x names ≡ true
  has_name x l n = go (member x names) refl
    where
      go : (b : Bool) → member x names ≡ b → member x names ≡ true
      go true e = e
      go false e = absurd (n (h.words x l ∙ word_none 0 names x e))

  pub no_name : (x : ℕ) → x < 2048 → at s (4096 + x) ≡ 0 → member x names ≡ false
  no_name x l z = go (member x names) refl
    where
      go : (b : Bool) → member x names ≡ b → member x names ≡ false
      go true e = absurd (word_some 0 names x e (sym (h.words x l) ∙ z))
      go false e = e

  pub name_asked : (x : ℕ) → x < 2048 → not (eqb (at s (4096 + x)) 0) ≡ member x names
  name_asked x l = elim (compared (at s (4096 + x)) 0) [
    | same q r ↦ rw r (sym (no_name x l q))
    | other n r ↦ rw r (sym (has_name x l n))
  ]

  pub name_number : (x : ℕ) → x < 2048 → ¬ (at s (4096 + x) ≡ 0) → at s (4096 + x) % 4096 ≡ index x names + 1
  name_number x l n = rw (h.words x l) (omega (arith, word_number 0 names x (has_name x l n) (omega (arith, names_few names h.distinct))))

  pub name_member : (x : ℕ) → x < 2048 → member x names ≡ true → ¬ (at s (4096 + x) ≡ 0)
  name_member x l e z = word_some 0 names x e (sym (h.words x l) ∙ z)

  pub named_still : Named s s top names
  named_still = record { given = h; below = λ i l. refl; above = λ i l. refl; long = refl }

  pub named_already : (x : ℕ) → x < 2048 → ¬ (at s (4096 + x) ≡ 0) → Named s s top (appear names (var x))
  named_already x l n = by_choose (Named s s top) (member x names) _ _ (λ e. named_still) (λ e. absurd (n (h.words x l ∙ word_none 0 names x e)))

  named_more : (x : ℕ) → x < 2048 → scratch_words ≤ length s → member x names ≡ false → Named s (set s (4096 + x) (top + 1)) (next_top top x) (names ++ (x ∷ []))
  named_more x l long e = record {
    given = record {
      top_is = ap (λ k. next_top k x) h.top_is ∙ sym (top_snoc 0 names x);
      words = words_now;
      distinct = distinct_snoc names x h.distinct l e;
    };
    below = λ i k. get_or-set_other s (4096 + x) i (top + 1) 0 (λ q. omega arith);
    above = λ i k. get_or-set_other s (4096 + x) i (top + 1) 0 (λ q. omega arith);
    long = length-set s (4096 + x) (top + 1);
  }
    where
      words_now : (y : ℕ) → y < 2048 → at (set s (4096 + x) (top + 1)) (4096 + y) ≡ word_from 0 (names ++ (x ∷ [])) y
      words_now y k = elim (compared y x) [
        | same p q ↦ rw p (get_or-set_same s (4096 + x) (top + 1) 0 (omega arith) ∙ ap (λ k. k + 1) h.top_is ∙ sym (word_snoc_same 0 names x e))
        | other n q ↦ get_or-set_other s (4096 + x) (4096 + y) (top + 1) 0 (λ r. n (omega arith)) ∙ h.words y k ∙ sym (word_snoc_other 0 names x y n)
      ]

  pub named_now : (x : ℕ) → x < 2048 → scratch_words ≤ length s → at s (4096 + x) ≡ 0 → Named s (set s (4096 + x) (top + 1)) (next_top top x) (appear names (var x))
  named_now x l long z = by_choose (Named s (set s (4096 + x) (top + 1)) (next_top top x)) (member x names) _ _
      (λ e. absurd (word_some 0 names x e (sym (h.words x l) ∙ z))) (λ e. named_more x l long e)

pub named_trans : {s s' s'' : List ℕ} {top top' : ℕ} {names names' : List ℕ} → Named s s' top names → Named s' s'' top' names' → Named s s'' top' names'
named_trans h i = record { given = i.given; below = λ k l. i.below k l ∙ h.below k l; above = λ k l. i.above k l ∙ h.above k l; long = i.long ∙ h.long }

-- names are where a trial stores nothing
pub names_apart : {s s' : List ℕ} {top : ℕ} {names : List ℕ} → Apart s s' → Names s top names → Names s' top names
names_apart a h = record { top_is = h.top_is; words = λ y l. a.middle (4096 + y) (omega arith) (omega arith) ∙ h.words y l; distinct = h.distinct }

pub given_apart : {s s' : List ℕ} {names : List ℕ} → Apart s s' → NamesGiven s names → NamesGiven s' names
given_apart a g = record { long = omega (arith, g.long, a.long); top = g.top; named = names_apart a g.named }
