-- Marks: a bit for each variable, so to set one changes no other.
use Prim.Native.Nat.{ℕ, zero, suc, ◌+◌, ◌*◌, ◌/◌, ◌%◌, ◌^◌, ◌<◌, ◌≤◌}
use mathlib.Core.Path.{◌≡◌, refl, sym, ap, subst, ◌∙◌}
use mathlib.Core.Bool.{◌||◌, false}
use mathlib.Core.List.{List, [], ◌∷◌}
use native.Mathlib.Omega.{arith}
use lib.Dec.{eqb}
use lib.ListN.{length, replicate}
use lib.Pow.{pow-add, shl_exact, shr-shr}
use lib.Seq.{get_or-set_other, get_or-set_same}
use borrow.Author.Tests.{eq-eqb, ne_eqb, eqb-false}
use Rattle.semantics.proofs.Basics.{Compared, compared, same, other}
use Rattle.semantics.specs.Unify.{member}
use Rattle.engine.specs.Layout.{most_variables}
use Rattle.engine.specs.Reference.{at}
use Rattle.engine.specs.Occurs.{mark_words, marked, with_mark, Marks}

-- bit k of a word
abbrev bit : ℕ → ℕ → ℕ
bit w zero = w % 2
bit w (suc k) = bit (w / 2) k

twice : (k : ℕ) → 2 ^ suc k ≡ 2 * 2 ^ k
twice k = ap (λ n. 2 ^ n) (omega arith) ∙ pow-add 2 1 k

bit_is : (w k : ℕ) → w / 2 ^ k % 2 ≡ bit w k
bit_is w zero = ap (λ n. n % 2) (omega arith)
bit_is w (suc k) = ap (λ n. n % 2) (ap (λ n. w / 2 ^ n) (omega arith) ∙ sym (shr-shr w 1 k)) ∙ bit_is (w / 2) k

bit_set : (w k : ℕ) → bit w k ≡ 0 → bit (w + 2 ^ k) k ≡ 1
bit_set w zero e = omega arith
bit_set w (suc k) e = let p = twice k in let h : (w + 2 ^ suc k) / 2 ≡ w / 2 + 2 ^ k = omega arith in ap (λ n. bit n k) h ∙ bit_set (w / 2) k e

bit_other : (w k j : ℕ) → bit w k ≡ 0 → ¬ (j ≡ k) → bit (w + 2 ^ k) j ≡ bit w j
bit_other w zero zero e n = absurd (n refl)
bit_other w zero (suc j) e n = let h : (w + 1) / 2 ≡ w / 2 = omega arith in ap (λ m. bit m j) h
bit_other w (suc k) zero e n = let p = twice k in omega arith
bit_other w (suc k) (suc j) e n = let p = twice k in let h : (w + 2 ^ suc k) / 2 ≡ w / 2 + 2 ^ k = omega arith in ap (λ m. bit m j) h ∙ bit_other (w / 2) k j e (λ q. n (ap suc q))

-- and the word stays one of n bits
bit_fits : (n w k : ℕ) → bit w k ≡ 0 → k < n → w < 2 ^ n → w + 2 ^ k < 2 ^ n
bit_fits zero w k e l h = absurd (omega arith)
bit_fits (suc n) w zero e l h = let p = twice n in omega arith
bit_fits (suc n) w (suc k) e l h = let p = twice n in let q = twice k in let i = bit_fits n (w / 2) k e (omega arith) (omega arith) in omega arith

bit_small : (w k : ℕ) → bit w k < 2
bit_small w zero = omega arith
bit_small w (suc k) = bit_small (w / 2) k

not_one : (w k : ℕ) → eqb (w / 2 ^ k % 2) 1 ≡ false → bit w k ≡ 0
not_one w k e = let n = eqb-false (w / 2 ^ k % 2) 1 e in let i = bit_is w k in let s = bit_small w k in omega arith

-- the code's shift
pub one_shifted : (x : ℕ) → (1 * 2 ^ (x % 32)) % 4294967296 ≡ 2 ^ (x % 32)
one_shifted x = shl_exact {a = 1} 1 (x % 32) 32 (omega arith) (omega arith) ∙ omega arith

pub mark_fits : (ms : List ℕ) (x : ℕ) → marked ms x ≡ false → at ms (x / 32) < 4294967296 → at ms (x / 32) + 2 ^ (x % 32) < 4294967296
mark_fits ms x e h = bit_fits 32 (at ms (x / 32)) (x % 32) (not_one (at ms (x / 32)) (x % 32) e) (omega arith) h

-- no variable is marked at first
bit_zero : (k : ℕ) → bit 0 k ≡ 0
bit_zero zero = refl
bit_zero (suc k) = bit_zero k

zero_marks : (ms : List ℕ) → ((i : ℕ) → at ms i ≡ 0) → Marks ms []
zero_marks ms z = record { says = λ x l. ne_eqb (at ms (x / 32) / 2 ^ (x % 32) % 2) 1 (λ e. let i = bit_is 0 (x % 32) ∙ bit_zero (x % 32) in let j : 0 / 2 ^ (x % 32) % 2 ≡ 1 = subst (λ w. w / 2 ^ (x % 32) % 2 ≡ 1) (z (x / 32)) e in omega arith) }

pub fresh_marks : Marks (replicate mark_words 0) []
fresh_marks = zero_marks (replicate mark_words 0) (λ i. at_zeros mark_words i)
  where
    at_zeros : (n i : ℕ) → at (replicate n 0) i ≡ 0
    at_zeros zero i = refl
    at_zeros (suc n) zero = refl
    at_zeros (suc n) (suc i) = at_zeros n i

-- one more
pub marks_more : {ms es : List ℕ} (x : ℕ) → mark_words ≤ length ms → x < most_variables → Marks ms es → marked ms x ≡ false → Marks (with_mark ms x) (x ∷ es)
marks_more {ms} {es} x long low h e = record { says = λ y l. go y l (compared (y / 32) (x / 32)) (compared (y % 32) (x % 32)) }
  where
    word : ℕ
    word = at ms (x / 32)

    clear : bit word (x % 32) ≡ 0
    clear = not_one word (x % 32) e

    there : at (with_mark ms x) (x / 32) ≡ word + 2 ^ (x % 32)
    there = get_or-set_same ms (x / 32) (word + 2 ^ (x % 32)) 0 (omega arith)

    bit_marks : (v y : ℕ) → at (with_mark ms x) (y / 32) ≡ v → bit v (y % 32) ≡ bit (at ms (y / 32)) (y % 32) → marked (with_mark ms x) y ≡ marked ms y
    bit_marks v y q b = ap (λ n. eqb n 1) (ap (λ w. w / 2 ^ (y % 32) % 2) q ∙ bit_is v (y % 32) ∙ b ∙ sym (bit_is (at ms (y / 32)) (y % 32)))

    unchanged : (y : ℕ) → y < most_variables → ¬ (y ≡ x) → marked (with_mark ms x) y ≡ marked ms y → marked (with_mark ms x) y ≡ (eqb y x || member y es)
    unchanged y l n q = q ∙ h.says y l ∙ sym (ap (λ b. b || member y es) (ne_eqb y x n))

    go : (y : ℕ) → y < most_variables → Compared (y / 32) (x / 32) → Compared (y % 32) (x % 32) → marked (with_mark ms x) y ≡ (eqb y x || member y es)
    go y l (other n f) c = unchanged y l (λ q. n (ap (λ z. z / 32) q)) (bit_marks (at ms (y / 32)) y (get_or-set_other ms (x / 32) (y / 32) (word + 2 ^ (x % 32)) 0 (λ q. n q)) refl)
    go y l (same p f) (other n g) =
        unchanged y l (λ q. n (ap (λ z. z % 32) q)) (bit_marks (word + 2 ^ (x % 32)) y (ap (at (with_mark ms x)) p ∙ there) (bit_other word (x % 32) (y % 32) clear n ∙ ap (λ i. bit (at ms i) (y % 32)) (sym p)))
    go y l (same p f) (same q g) =
        let z : y ≡ x = omega arith in
        subst (λ v. marked (with_mark ms x) v ≡ (eqb v x || member v es)) (sym z)
        (eq-eqb (at (with_mark ms x) (x / 32) / 2 ^ (x % 32) % 2) 1 (ap (λ w. w / 2 ^ (x % 32) % 2) there ∙ bit_is (word + 2 ^ (x % 32)) (x % 32) ∙ bit_set word (x % 32) clear) ∙ sym (ap (λ b. b || member x es) (eq-eqb x x refl)))
