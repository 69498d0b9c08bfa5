-- Words set to 0.
use Prim.Native.Nat.{ℕ, ◌+◌, ◌-◌, min, ◌<◌, ◌≤◌}
use mathlib.Core.Path.{◌≡◌, refl, sym, ap, subst, ◌∙◌}
use mathlib.Core.Bool.{Bool, true, false}
use mathlib.Core.List.{List, ◌++◌}
use native.Mathlib.Omega.{arith}
use lib.Dec.{leb}
use lib.ListN.{length, take, drop, replicate, length-drop, take-append-drop, drop_of_length-le, length-append, get_or-append}
use lib.Seq.{take_all, get_or-take, get_or-drop, get_or-append-add, length-take-le}
use borrow.Author.Tests.{leb-true, leb-false}
use Rattle.semantics.specs.Run.{zeroed}
use Rattle.semantics.proofs.ZeroedLaws.{zeroed_all, zeroed_length, zeroed_below, zeroed_beyond}
use Rattle.engine.specs.Reference.{at}
use Rattle.engine.specs.Term.{Touched}
use Rattle.engine.specs.Run.{cleared}

-- no more words are set to 0 than there are
zeroed_min : (n : ℕ) (ws : List ℕ) → zeroed (min n (length ws)) ws ≡ zeroed n ws
unfolding zeroed
zeroed_min n ws = go (leb n (length ws)) refl
  where
    go : (b : Bool) → leb n (length ws) ≡ b → zeroed (min n (length ws)) ws ≡ zeroed n ws
    go true e = let m : min n (length ws) ≡ n = omega (arith, leb-true n (length ws) e) in rw m refl
    go false e =
        let l : length ws ≤ n = omega (arith, leb-false n (length ws) e) in
        let m : min n (length ws) ≡ length ws = omega arith in
        let whole : length ws ≤ length ws = omega arith in
        rw (m, take_all (length ws) ws whole, take_all n ws l, drop_of_length-le ws whole, drop_of_length-le ws l) refl

-- words filled with 0 up to the end, or to where they end
pub clear_filled : (ws : List ℕ) (from to k : ℕ) → k ≡ min (to - from) (length (drop from ws)) → take from ws ++ (replicate (length (take k (drop from ws))) 0 ++ drop k (drop from ws)) ≡ cleared ws from to
unfolding zeroed
clear_filled ws from to k e = rw e (ap (λ x. take from ws ++ x) (zeroed_min (to - from) (drop from ws)))

-- or none, where there are none
pub clear_done : (ws : List ℕ) (from to : ℕ) → min to (length ws) ≤ from → cleared ws from to ≡ ws
unfolding zeroed
clear_done ws from to h =
    let none : min (to - from) (length (drop from ws)) ≡ 0 = omega (arith, h, length-drop from ws) in
    ap (λ x. take from ws ++ x) (sym (zeroed_min (to - from) (drop from ws)) ∙ rw none refl) ∙ take-append-drop from ws

-- up to the end
pub cleared_rest : (ws : List ℕ) (from : ℕ) → cleared ws from (length ws) ≡ take from ws ++ replicate (length ws - from) 0
cleared_rest ws from = rw (sym (length-drop from ws)) (ap (λ x. take from ws ++ x) (zeroed_all (drop from ws)))

pub cleared_all : (ws : List ℕ) → cleared ws 0 (length ws) ≡ replicate (length ws) 0
cleared_all ws = let n : length ws - 0 ≡ length ws = omega arith in cleared_rest ws 0 ∙ ap (λ n. replicate n 0) n

-- word by word
module _ (o : List ℕ) (from to : ℕ) (l : from ≤ to) (m : to ≤ length o) where
  first_length : length (take from o) ≡ from
  first_length = length-take-le from o (omega arith)

  cleared_from : (j : ℕ) → at (cleared o from to) (from + j) ≡ at (zeroed (to - from) (drop from o)) j
  cleared_from j = subst (λ n. at (cleared o from to) (n + j) ≡ at (zeroed (to - from) (drop from o)) j) first_length (get_or-append-add (take from o) (zeroed (to - from) (drop from o)) j 0)

  pub cleared_zero : (i : ℕ) → from ≤ i → i < to → at (cleared o from to) i ≡ 0
  cleared_zero i p q = let e : from + (i - from) ≡ i = omega arith in subst (λ n. at (cleared o from to) n ≡ 0) e (cleared_from (i - from) ∙ zeroed_below (to - from) (drop from o) (i - from) (omega arith))

  cleared_beyond : (i : ℕ) → to ≤ i → at (cleared o from to) i ≡ at o i
  cleared_beyond i p =
      let n : ℕ = to - from in
      let k : ℕ = i - to in
      let e : from + (n + k) ≡ i = omega arith in
      let d : List ℕ = drop from o in
      let z : at (zeroed n d) (n + k) ≡ at d (n + k) = sym (get_or-drop n (zeroed n d) k 0) ∙ ap (λ x. at x k) (zeroed_beyond n d) ∙ get_or-drop n d k 0 in
      subst (λ j. at (cleared o from to) j ≡ at o j) e (cleared_from (n + k) ∙ z ∙ get_or-drop from o (n + k) 0)

  pub cleared_touched : Touched o (cleared o from to) from to
  cleared_touched = record {
    below = λ i p. get_or-append (take from o) (zeroed (to - from) (drop from o)) 0 i (omega (arith, first_length)) ∙ get_or-take from o i 0 p;
    above = cleared_beyond;
    long = length-append (take from o) (zeroed (to - from) (drop from o)) ∙ omega (arith, first_length, zeroed_length (to - from) (drop from o), length-drop from o);
  }
