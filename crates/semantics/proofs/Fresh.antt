-- A number that is not in a list, at most as large as the list is long.
use Prim.Native.Nat.{◌+◌, ◌<◌, ◌≤◌, suc, zero, ℕ}
use mathlib.Core.Bool.{Bool, ◌||◌, cond, false, false≢true, true}
use mathlib.Core.List.{List, [], ◌∷◌}
use mathlib.Core.Path.{◌∙◌, ◌≡◌, refl, sym}
use native.Mathlib.Omega.{arith}
use lib.Dec.{eqb}
use lib.ListN.{length}
use borrow.Author.Tests.{eqb-true, ne_eqb}
use Rattle.semantics.specs.Unify.{member}

abbrev pub erase : ℕ → List ℕ → List ℕ
erase k [] = []
erase k (y ∷ ys) = cond (eqb k y) (erase k ys) (y ∷ erase k ys)

pub erase_le : (k : ℕ) (ys : List ℕ) → length (erase k ys) ≤ length ys
erase_le k [] = omega arith
erase_le k (y ∷ ys) = go (eqb k y) (erase_le k ys)
  where
    go : (b : Bool) → length (erase k ys) ≤ length ys → length (cond b (erase k ys) (y ∷ erase k ys)) ≤ suc (length ys)
    go true h = omega arith
    go false h = omega arith

pub erase_lt : (k : ℕ) (ys : List ℕ) → member k ys ≡ true → length (erase k ys) < length ys
erase_lt k [] e = absurd (false≢true e)
erase_lt k (y ∷ ys) e = go (eqb k y) (erase_le k ys) (erase_lt k ys) e
  where
    go : (b : Bool) → length (erase k ys) ≤ length ys → (member k ys ≡ true → length (erase k ys) < length ys) → (b || member k ys) ≡ true
        → length (cond b (erase k ys) (y ∷ erase k ys)) < suc (length ys)
    go true le lt q = omega arith
    go false le lt q = let h : length (erase k ys) < length ys = lt q in omega arith

pub erase_member : (p k : ℕ) (ys : List ℕ) → (p ≡ k → ⊥) → member p (erase k ys) ≡ false → member p ys ≡ false
erase_member p k [] d e = refl
erase_member p k (y ∷ ys) d e = go (eqb k y) refl (erase_member p k ys d) e
  where
    go : (b : Bool) → eqb k y ≡ b → (member p (erase k ys) ≡ false → member p ys ≡ false)
        → member p (cond b (erase k ys) (y ∷ erase k ys)) ≡ false → (eqb p y || member p ys) ≡ false
    go true q ih h = rw (ne_eqb p y (λ r. d (r ∙ sym (eqb-true k y q)))) (ih h)
    go false q ih h = on (eqb p y) h
      where
        on : (c : Bool) → (c || member p (erase k ys)) ≡ false → (c || member p ys) ≡ false
        on true r = r
        on false r = ih r

-- the first number from k up that is not in the list
pub record Free (k : ℕ) (ys : List ℕ) : Type 0 where
  pub num : ℕ
  pub low : k ≤ num
  pub high : num ≤ k + length ys
  pub free : member num ys ≡ false

pub free_from : (n k : ℕ) (ys : List ℕ) → length ys ≤ n → Free k ys
free_from zero k [] h = record { num = k; low = omega arith; high = omega arith; free = refl }
free_from zero k (y ∷ ys) h = absurd (omega arith)
free_from (suc n) k ys h = go (member k ys) refl (free_from n (suc k) (erase k ys))
  where
    go : (b : Bool) → member k ys ≡ b → (length (erase k ys) ≤ n → Free (suc k) (erase k ys)) → Free k ys
    go false e ih = record { num = k; low = omega arith; high = omega arith; free = e }
    go true e ih =
        let l = erase_lt k ys e in
        let r = ih (omega arith) in
        let a = r.low in
        let b = r.high in
        record { num = r.num; low = omega arith; high = omega arith; free = erase_member r.num k ys (λ q. omega arith) r.free }

pub fresh : (ys : List ℕ) → Free 0 ys
fresh ys = free_from (length ys) 0 ys (omega arith)
