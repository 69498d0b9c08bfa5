-- Decimals, digit by digit, and how long they are.
use Prim.Native.Nat.{ℕ, zero, suc, ◌/◌, ◌%◌, ◌^◌, ◌≤◌, ◌<◌}
use mathlib.Core.Bool.{Bool, true, false}
use mathlib.Core.Path.{◌≡◌, refl, sym, ap}
use mathlib.Core.List.{List, [], ◌∷◌, ◌++◌}
use native.Mathlib.Nat.{pow-suc}
use native.Mathlib.Omega.{arith}
use lib.Dec.{ltb}
use lib.ListN.{length, length-append}
use mir.Syntax.{w32}
use mir.Val.{Fits}
use borrow.Author.Tests.{ltb-true, ltb-false, lt-ltb, le-ltb}
use Rattle.rules.specs.Reading.{choose}
use Rattle.list_text.specs.Listing.{decimal, decimal_by, digit}

last_digit : (m n : ℕ) → n < 10 → decimal_by m n ≡ digit n ∷ []
unfolding decimal_by
last_digit zero n h = refl
last_digit (suc m) n h = rw (lt-ltb n 10 h)

-- any bound that is large enough gives the same
decimal_same : (f g n : ℕ) → n ≤ f → n ≤ g → decimal_by f n ≡ decimal_by g n
unfolding decimal_by
decimal_same zero g n p q = sym (last_digit g n (omega arith))
decimal_same (suc f) zero n p q = last_digit (suc f) n (omega arith)
decimal_same (suc f) (suc g) n p q = by_test (ltb n 10) refl (λ h. decimal_same f g (n / 10) (omega arith) (omega arith))
  where
    by_test : (b : Bool) → ltb n 10 ≡ b → (10 ≤ n → decimal_by f (n / 10) ≡ decimal_by g (n / 10)) → choose b (λ _. digit n ∷ []) (λ _. decimal_by f (n / 10) ++ (digit (n % 10) ∷ [])) ≡ choose b (λ _. digit n ∷ []) (λ _. decimal_by g (n / 10) ++ (digit (n % 10) ∷ []))
    by_test true e h = refl
    by_test false e h = ap (λ (l : List ℕ). l ++ (digit (n % 10) ∷ [])) (h (ltb-false n 10 e))

pub one_digit : (n : ℕ) → n < 10 → decimal n ≡ digit n ∷ []
one_digit n h = last_digit n n h

pub more_digits : (n : ℕ) → 10 ≤ n → decimal n ≡ decimal (n / 10) ++ (digit (n % 10) ∷ [])
unfolding decimal_by
more_digits zero h = absurd (omega arith)
more_digits (suc m) h = rw (le-ltb (suc m) 10 h) (ap (λ (l : List ℕ). l ++ (digit (suc m % 10) ∷ [])) (decimal_same m (suc m / 10) (suc m / 10) (omega arith) (omega arith)))

-- as long as the powers of ten say
pub decimal_short : (k n : ℕ) → n < 10 ^ suc k → length (decimal n) ≤ suc k
decimal_short zero n h = rw (one_digit n h) (omega arith)
decimal_short (suc k) n h = by_test (ltb n 10) refl (decimal_short k (n / 10) (omega (arith, pow-suc 10 (suc k))))
  where
    by_test : (b : Bool) → ltb n 10 ≡ b → length (decimal (n / 10)) ≤ suc k → length (decimal n) ≤ suc (suc k)
    by_test true e l = rw (one_digit n (ltb-true n 10 e)) (omega arith)
    by_test false e l = rw (more_digits n (ltb-false n 10 e)) (omega (arith, length-append (decimal (n / 10)) (digit (n % 10) ∷ [])))

-- of a number that fits 32 bits, or 64
pub short_32 : {n : ℕ} → Fits w32 n → length (decimal n) ≤ 10
short_32 {n} h = decimal_short 9 n (omega arith)
