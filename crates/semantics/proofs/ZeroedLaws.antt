-- The first words of a list set to 0.
use Prim.Native.Nat.{◌<◌, suc, zero, ℕ}
use mathlib.Core.List.{List, [], ◌++◌, ◌∷◌}
use mathlib.Core.Path.{◌≡◌, ap, refl}
use native.Mathlib.Omega.{arith}
use lib.ListN.{drop, get_or, length, replicate, take}
use Rattle.semantics.specs.Run.{zeroed}

pub zeroed_length : (n : ℕ) (ws : List ℕ) → length (zeroed n ws) ≡ length ws
unfolding zeroed
zeroed_length zero ws = refl
zeroed_length (suc n) [] = refl
zeroed_length (suc n) (w ∷ ws) = ap suc (zeroed_length n ws)

pub zeroed_below : (n : ℕ) (ws : List ℕ) (i : ℕ) → i < n → get_or (zeroed n ws) i 0 ≡ 0
unfolding zeroed
zeroed_below zero ws i h = absurd (omega arith)
zeroed_below (suc n) [] i h = refl
zeroed_below (suc n) (w ∷ ws) zero h = refl
zeroed_below (suc n) (w ∷ ws) (suc i) h = zeroed_below n ws i (omega arith)

pub zeroed_beyond : (n : ℕ) (ws : List ℕ) → drop n (zeroed n ws) ≡ drop n ws
unfolding zeroed
zeroed_beyond zero ws = refl
zeroed_beyond (suc n) [] = refl
zeroed_beyond (suc n) (w ∷ ws) = zeroed_beyond n ws

pub zeroed_all : (ws : List ℕ) → zeroed (length ws) ws ≡ replicate (length ws) 0
unfolding zeroed
zeroed_all [] = refl
zeroed_all (w ∷ ws) = ap (λ ws. 0 ∷ ws) (zeroed_all ws)

-- to set the first words to 0 in a list is to do so in these words alone, and put the others behind them
pub zeroed_part : (n : ℕ) (ws : List ℕ) → zeroed n ws ≡ zeroed n (take n ws) ++ drop n ws
unfolding zeroed
zeroed_part zero ws = refl
zeroed_part (suc n) [] = refl
zeroed_part (suc n) (w ∷ ws) = ap (λ ws. 0 ∷ ws) (zeroed_part n ws)
