-- What the walk over a page comes to.
use Prim.Native.Nat.{ℕ, zero, suc, ◌<◌, ◌≤◌}
use mathlib.Core.Bool.{Bool, true, false, cond}
use mathlib.Core.List.{List}
use mathlib.Core.Path.{◌≡◌, ap, refl, sym}
use native.Mathlib.Omega.{arith}
use lib.Dec.{eqb, leb}
use lib.ListN.{length, get_or}
use borrow.Author.Tests.{eq-eqb, eqb-true, le-leb, leb-false, leb-true, lt-leb, ne_eqb}
use Rattle.word.specs.Word.{kind}
use Rattle.page.specs.Page.{Found, after, answer_at, part, past, refused, walk}

-- an answer with its header at `start` that ends at `end` is on the page whole
pub record Whole (page : List ℕ) (start end : ℕ) : Type 0 where
  pub on_page : start < length page
  pub is_header : kind (get_or page start 0) ≡ 15
  pub is_end : end ≡ after page start
  pub fits : end ≤ length page

-- what `answer_at` says, case by case
pub page_ends : (page : List ℕ) (at : ℕ) → length page ≤ at → answer_at page at ≡ refused 10 (length page)
page_ends page at h = rw (le-leb (length page) at h)

pub no_header : (page : List ℕ) (at : ℕ) → at < length page → (kind (get_or page at 0) ≡ 15 → ⊥) → answer_at page at ≡ refused 10 at
no_header page at l h = rw (lt-leb (length page) at l, ne_eqb (kind (get_or page at 0)) 15 h)

pub overruns : (page : List ℕ) (at : ℕ) → at < length page → kind (get_or page at 0) ≡ 15 → length page < after page at → answer_at page at ≡ refused 10 at
overruns page at l k h = rw (lt-leb (length page) at l, eq-eqb (kind (get_or page at 0)) 15 k, lt-leb (after page at) (length page) h)

pub is_whole : (page : List ℕ) (at : ℕ) → at < length page → kind (get_or page at 0) ≡ 15 → after page at ≤ length page → answer_at page at ≡ part at (after page at)
is_whole page at l k h = rw (lt-leb (length page) at l, eq-eqb (kind (get_or page at 0)) 15 k, le-leb (after page at) (length page) h)

-- two constructors are never the same
pub part_refused {ℓ} : {A : Type ℓ} {s e number place : ℕ} → part s e ≡ refused number place → A
part_refused h = let z : ◌≡◌ {A = ℕ} 0 1 = cc in absurd (omega arith)

-- what is at a place: an answer that is whole, or none, refused at that place if it is on the page or just behind it
pub data At (page : List ℕ) (at : ℕ) : Found → Type 0 where
  whole : (end : ℕ) → Whole page at end → At page at (part at end)
  none : (place : ℕ) → (at ≤ length page → place ≡ at) → At page at (refused 10 place)

pub at_place : (page : List ℕ) (at : ℕ) → At page at (answer_at page at)
at_place page at = by_end (leb (length page) at) (eqb (kind (get_or page at 0)) 15) (leb (after page at) (length page)) refl refl refl
  where
    by_end : (b k f : Bool) → leb (length page) at ≡ b → eqb (kind (get_or page at 0)) 15 ≡ k → leb (after page at) (length page) ≡ f →
        At page at (cond b (refused 10 (length page)) (cond k (cond f (part at (after page at)) (refused 10 at)) (refused 10 at)))
    by_end true k f e d g = none (length page) (λ l. omega (arith, leb-true (length page) at e, l))
    by_end false false f e d g = none at (λ l. refl)
    by_end false true false e d g = none at (λ l. refl)
    by_end false true true e d g =
        whole (after page at) (record {
          on_page = leb-false (length page) at e;
          is_header = eqb-true (kind (get_or page at 0)) 15 d;
          is_end = refl;
          fits = leb-true (after page at) (length page) g;
        })

-- an answer that is found is on the page whole
pub whole_at : (page : List ℕ) (at s e : ℕ) → answer_at page at ≡ part s e → (s ≡ at) × Whole page at e
whole_at page at s e h = go (answer_at page at) (at_place page at) h
  where
    go : (f : Found) → At page at f → f ≡ part s e → (s ≡ at) × Whole page at e
    go (part a end) (whole b w) q = let i : at ≡ s = cc in let j : b ≡ e = cc in (sym i, rw j at w)
    go (refused n p) (none place is) r = part_refused (sym r)

-- an answer has one end
pub one_end : (page : List ℕ) (at s e t f : ℕ) → answer_at page at ≡ part s e → answer_at page at ≡ part t f → e ≡ f
one_end page at s e t f h g = cc

-- the walk past an answer that is whole, and where none is
pub passes : (page : List ℕ) (n at s e : ℕ) → answer_at page at ≡ part s e → walk page (suc n) at ≡ walk page n e
passes page n at s e h = ap (λ f. past f (λ end. walk page n end) refused) h

pub stops : (page : List ℕ) (n at number place : ℕ) → answer_at page at ≡ refused number place → walk page n at ≡ refused number place
stops page zero at number place h = h
stops page (suc n) at number place h = ap (λ f. past f (λ end. walk page n end) refused) h

-- a walk that comes to an answer past others has passed the first
pub record Passed (page : List ℕ) (n at s e : ℕ) : Type 0 where
  pub first_end : ℕ
  pub first_is : answer_at page at ≡ part at first_end
  pub later : walk page n first_end ≡ part s e

pub passed : (page : List ℕ) (n at s e : ℕ) → walk page (suc n) at ≡ part s e → Passed page n at s e
passed page n at s e h = go (answer_at page at) (at_place page at) refl h
  where
    go : (f : Found) → At page at f → answer_at page at ≡ f → past f (λ end. walk page n end) refused ≡ part s e → Passed page n at s e
    go (part a b) (whole end w) i q = record { first_end = end; first_is = i; later = q }
    go (refused a b) (none place is) i q = part_refused (sym q)

-- an answer that a walk comes to is on the page whole, and not before the walk's beginning
pub walked_whole : (page : List ℕ) (n at s e : ℕ) → walk page n at ≡ part s e → (at ≤ s) × Whole page s e
walked_whole page zero at s e h = let (i, w) = whole_at page at s e h in (omega (arith, i), rw i w)
walked_whole page (suc n) at s e h =
    let p = passed page n at s e h in
    let (l, w) = walked_whole page n p.first_end s e p.later in
    (omega (arith, l, (whole_at page at at p.first_end p.first_is).1.is_end), w)
