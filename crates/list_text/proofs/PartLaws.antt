-- Parts of lists.
use Prim.Native.Nat.{ℕ, ◌≤◌, min}
use mathlib.Core.Path.{◌≡◌, ◌∙◌, ap}
use mathlib.Core.List.{List}
use Rattle.std.proofs.Math.Nat.{min-le_right}
use Rattle.std.proofs.lemmas.List.{take-replicate}
use native.Mathlib.Omega.{arith}
use lib.ListN.{length, length-replicate, take, replicate}

-- the start of a list of zeros is one, and no longer
pub record Zeros (n m : ℕ) (zeros : List ℕ) : Type 0 where
  pub are : zeros ≡ replicate (min n m) 0
  pub again : zeros ≡ replicate (length zeros) 0
  pub short : length zeros ≤ m

pub zeros_lent : {lent : ℕ} (n m : ℕ) → lent ≡ min n m → Zeros n m (take lent (replicate m 0))
zeros_lent {lent} n m e =
    let zeros : List ℕ = take lent (replicate m 0) in
    let are : zeros ≡ replicate (min n m) 0 = rw e (take-replicate (min n m) m 0 (omega (arith, min-le_right n m))) in
    let long : length zeros ≡ min n m = ap length are ∙ length-replicate (min n m) 0 in
    record { are = are; again = rw long are; short = omega arith }
