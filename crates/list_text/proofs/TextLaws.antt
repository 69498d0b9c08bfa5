-- Text behind text, laid over lent bytes from a place on, as far as they reach.
use Prim.Native.Nat.{ℕ, suc, ◌+◌}
use mathlib.Core.Path.{◌≡◌, refl, ap, ◌∙◌}
use mathlib.Core.List.{List, [], ◌∷◌, ◌++◌, append-nil}
use native.Mathlib.Nat.{add-zero, add-suc, suc-add}
use native.Mathlib.Omega.{arith}
use lib.ListN.{length, length-append, take, drop, set}
use lib.Seq.{sets}
use Rattle.list_text.specs.Writing.{Wrote}

sets_append : (xs ys l : List ℕ) (i : ℕ) → sets (sets l i xs) (i + length xs) ys ≡ sets l i (xs ++ ys)
sets_append [] ys l i = rw (add-zero i)
sets_append (x ∷ xs) ys l i = rw (add-suc i (length xs), ← suc-add i (length xs)) (sets_append xs ys (set l i x) (suc i))

sets_behind : (ys l : List ℕ) (x i : ℕ) → sets (x ∷ l) (suc i) ys ≡ x ∷ sets l i ys
sets_behind [] l x i = refl
sets_behind (y ∷ ys) l x i = sets_behind ys (set l i y) x (suc i)

sets_none : (ys : List ℕ) (i : ℕ) → sets [] i ys ≡ []
sets_none [] i = refl
sets_none (y ∷ ys) i = sets_none ys (suc i)

-- laid over the start
pub sets_start : (text out : List ℕ) → sets out 0 text ≡ take (length out) text ++ drop (length text) out
sets_start [] [] = refl
sets_start [] (x ∷ out) = refl
sets_start (y ∷ text) [] = sets_none text 1
sets_start (y ∷ text) (x ∷ out) = sets_behind text out y 0 ∙ ap (λ (l : List ℕ). y ∷ l) (sets_start text out)

-- Under way: what is left of a text, written from here, gives what the whole text gives, written from its place.
pub record Left (text : List ℕ) (at₀ : ℕ) (out₀ rest : List ℕ) (at : ℕ) (out : List ℕ) : Type 0 where
  pub same_next : at + length rest ≡ at₀ + length text
  pub same_after : sets out at rest ≡ sets out₀ at₀ text

pub begin : (text : List ℕ) (at : ℕ) (out : List ℕ) → Left text at out text at out
begin text at out = record { same_next = refl; same_after = refl }

pub step : {text out₀ rest out after : List ℕ} {at₀ at next : ℕ} (part : List ℕ) → Left text at₀ out₀ (part ++ rest) at out → Wrote part at out next after → Left text at₀ out₀ rest next after
step {rest = rest} {out = out} {at = at} {next = next} part l w = record {
  same_next = omega (arith, l.same_next, length-append part rest, w.is_next);
  same_after = ap (λ (o : List ℕ). sets o next rest) w.is_after ∙ ap (λ (n : ℕ). sets (sets out at part) n rest) w.is_next ∙ sets_append part rest out at ∙ l.same_after;
}

-- nothing is left
pub done : {text out₀ out : List ℕ} {at₀ at : ℕ} → Left text at₀ out₀ [] at out → Wrote text at₀ out₀ at out
done l = record { is_next = omega (arith, l.same_next); is_after = l.same_after }

-- the last part
pub last : {text out₀ out after : List ℕ} {at₀ at next : ℕ} (part : List ℕ) → Left text at₀ out₀ part at out → Wrote part at out next after → Wrote text at₀ out₀ next after
last part l w = done (step part (rw (append-nil part) l) w)

-- one text behind another
pub behind : {xs ys out mid after : List ℕ} {at m next : ℕ} → Wrote xs at out m mid → Wrote ys m mid next after → Wrote (xs ++ ys) at out next after
behind {xs} {ys} {out} {at = at} w v = last ys (step xs (begin (xs ++ ys) at out) w) v
