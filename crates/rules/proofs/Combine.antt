-- Laws of the readers' combinators: what a reading that found something has passed, and what is known of one by where it ended.
use mathlib.Core.Path.{◌≡◌, refl, sym, ap, ◌∙◌, subst₂}
use mathlib.Core.Bool.{Bool, true, false, ◌&&◌}
use Prim.Native.Nat.{ℕ, ◌≤◌}
use lib.Dec.{leb}
use borrow.Author.Tests.{leb-true}
use Rattle.rules.specs.Reading.{Reading, found, refuse, next, require, choose, filled, fill}
use Rattle.rules.specs.Inner.{ReadOutcome, ends, stops, told, filled_told, Settles}

pub found_not_refused : {A : Type 0} {C : Type 0} (a : A) (n c p : ℕ) → refuse c p ≡ found a n → C
found_not_refused a n c p e = cc

-- a fact of what was found holds of the same finding
pub found_carries : {A : Type 0} (Q : A → ℕ → Type 0) {a b : A} {n m : ℕ} → found a n ≡ found b m → Q a n → Q b m
found_carries Q {a} {b} {n} {m} e x = let y : a ≡ b = cc in let z : n ≡ m = cc in subst₂ Q y z x

pub require_found : {A : Type 0} (t : Bool) (c p : ℕ) (k : Unit {0} → Reading A) (a : A) (n : ℕ) → require t c p k ≡ found a n → (t ≡ true) × (k tt ≡ found a n)
require_found true c p k a n e = (refl, e)
require_found false c p k a n e = found_not_refused a n c p e

pub choose_found : {A : Type 0} {C : Type 0} (t : Bool) (x y : Unit {0} → A) (r : A) → choose t x y ≡ r → (t ≡ true → x tt ≡ r → C) → (t ≡ false → y tt ≡ r → C) → C
choose_found true x y r e f g = f refl e
choose_found false x y r e f g = g refl e

pub record Passed {A B : Type 0} (r : Reading A) (k : A → ℕ → Reading B) (b : B) (n : ℕ) : Type 0 where
  pub value : A
  pub to : ℕ
  pub first : r ≡ found value to
  pub rest : k value to ≡ found b n

pub next_found : {A B : Type 0} (r : Reading A) (k : A → ℕ → Reading B) (b : B) (n : ℕ) → next r k ≡ found b n → Passed r k b n
next_found (found a m) k b n e = record { value = a; to = m; first = refl; rest = e }
next_found (refuse c p) k b n e = found_not_refused b n c p e

pub filled_found : {A : Type 0} (a b : A) (at end n : ℕ) → filled a at end ≡ found b n → (end ≤ at) × (found a at ≡ found b n)
filled_found a b at end n e = let q = require_found (leb end at) 3 at (λ _. found a at) b n e in (leb-true end at q.0, q.1)

pub fill_found : {A : Type 0} (r : Reading A) (end : ℕ) (b : A) (n : ℕ) → fill r end ≡ found b n → (r ≡ found b n) × (end ≤ n)
fill_found {A} (found a m) end b n e =
    let u = filled_found a b m end n e in
    (u.1, found_carries (λ (_ : A) n. end ≤ n) u.1 u.0)
fill_found (refuse c p) end b n e = found_not_refused b n c p e

pub false_true : false ≡ true → ⊥
false_true e = cc

pub and_true : (a b : Bool) → a && b ≡ true → (a ≡ true) × (b ≡ true)
and_true true b e = (refl, e)
and_true false b e = absurd (false_true e)

-- a reading that ended has found something
pub ended : {A : Type 0} (r : Reading A) (n : ℕ) → ends n ≡ told r → (a : A) × (r ≡ found a n)
ended (found a m) n e = let z : n ≡ m = cc in (a, rw z refl)
ended (refuse c p) n e = cc

pub stopped : {A : Type 0} (r : Reading A) (c p : ℕ) → stops c p ≡ told r → r ≡ refuse c p
stopped (found a m) c p e = cc
stopped (refuse d q) c p e = let z : c ≡ d = cc in let y : p ≡ q = cc in rw (z, y) refl

-- a refusal goes through
pub next_stops : {A B : Type 0} (r : Reading A) (k : A → ℕ → Reading B) (c p : ℕ) → stops c p ≡ told r → stops c p ≡ told (next r k)
next_stops r k c p e = rw (stopped r c p e)

-- what is made of the value does not show
pub told_map : {A B : Type 0} (r : Reading A) (g : A → B) → told (next r (λ a n. found (g a) n)) ≡ told r
told_map (found a n) g = refl
told_map (refuse c p) g = refl

-- what is told of a reading that has to fill its part
pub told_fill : {A : Type 0} (r : Reading A) (end : ℕ) → told (fill r end) ≡ filled_told (told r) end
told_fill (found a n) end = go (leb end n) refl
  where
    go : (t : Bool) → leb end n ≡ t → told (filled a n end) ≡ filled_told (ends n) end
    go true e = simp e
    go false e = simp e
told_fill (refuse c p) end = refl

pub fill_settles : {A : Type 0} (r : ℕ → Reading A) (need end : ℕ) (o q : ReadOutcome) → Settles r need o → q ≡ filled_told o end → Settles (λ f. fill (r f) end) need q
fill_settles r need end o q h e f d = e ∙ ap (λ o. filled_told o end) (h f d) ∙ sym (told_fill (r f) end)
