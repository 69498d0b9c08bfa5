-- A relation of values, lifted to lists, options and outcomes of them: what is done alike with related values gives related values.
use Prim.Native.Nat.{suc, zero, ℕ}
use mathlib.Core.Bool.{Bool, false, true}
use mathlib.Core.List.{List, [], ◌++◌, ◌∷◌, map, reverse_aux}
use mathlib.Core.Option.{Option, none, some}
use mathlib.Core.Path.{◌≡◌, ap, ap₂, refl}
use lib.ListN.{length, take}
use Rattle.rules.specs.Reading.{choose}
use Rattle.semantics.specs.Steps.{Bound, Outcome, Stop, and_then, at_bound, done, step, stop}
use Rattle.semantics.proofs.Basics.{clash}

-- lists of the same length, element by element
pub data Pointwise {A B : Type 0} (R : A → B → Type 0) : List A → List B → Type 0 where
  nil_like : Pointwise R [] []
  cons_like : {a : A} {b : B} {xs : List A} {ys : List B} → R a b → Pointwise R xs ys → Pointwise R (a ∷ xs) (b ∷ ys)

pub data OptionLike {A B : Type 0} (R : A → B → Type 0) : Option A → Option B → Type 0 where
  none_like : OptionLike R none none
  some_like : {a : A} {b : B} → R a b → OptionLike R (some a) (some b)

-- The same steps left and values that are related, or the same stop. A bound may be waived: where the first stops at it, nothing is said of the second.
pub data OutcomeLike (Waived : Bound → Type 0) {A B : Type 0} (R : A → B → Type 0) : Outcome A → Outcome B → Type 0 where
  done_like : {a : A} {b : B} {l : ℕ} → R a b → OutcomeLike Waived R (done a l) (done b l)
  stop_like : {why : Stop} {l : ℕ} → OutcomeLike Waived R (stop why l) (stop why l)
  waived_like : {c : Bound} {l : ℕ} {o : Outcome B} → Waived c → OutcomeLike Waived R (stop (at_bound c) l) o

-- none is
abbrev pub none_waived : Bound → Type 0
none_waived b = ⊥

module _ {A B : Type 0} {R : A → B → Type 0} where
  pub length_like : {xs : List A} {ys : List B} → Pointwise R xs ys → length xs ≡ length ys
  length_like nil_like = refl
  length_like (cons_like h hs) = ap suc (length_like hs)

  pub append_like : {xs us : List A} {ys vs : List B} → Pointwise R xs ys → Pointwise R us vs → Pointwise R (xs ++ us) (ys ++ vs)
  append_like nil_like k = k
  append_like (cons_like h hs) k = cons_like h (append_like hs k)

  pub take_like : (n : ℕ) {xs : List A} {ys : List B} → Pointwise R xs ys → Pointwise R (take n xs) (take n ys)
  take_like zero hs = nil_like
  take_like (suc n) nil_like = nil_like
  take_like (suc n) (cons_like h hs) = cons_like h (take_like n hs)

  pub reverse_like : {xs us : List A} {ys vs : List B} → Pointwise R xs ys → Pointwise R us vs → Pointwise R (reverse_aux xs us) (reverse_aux ys vs)
  reverse_like nil_like k = k
  reverse_like (cons_like h hs) k = reverse_like hs (cons_like h k)

  pub map_like : {C D : Type 0} {S : C → D → Type 0} (f : A → C) (g : B → D) → ((a : A) (b : B) → R a b → S (f a) (g b)) → {xs : List A} {ys : List B} → Pointwise R xs ys → Pointwise S (map f xs) (map g ys)
  map_like f g k nil_like = nil_like
  map_like f g k (cons_like {a} {b} h hs) = cons_like (k a b h) (map_like f g k hs)

  pub map_same : {C : Type 0} (f : A → C) (g : B → C) → ((a : A) (b : B) → R a b → f a ≡ g b) → {xs : List A} {ys : List B} → Pointwise R xs ys → map f xs ≡ map g ys
  map_same f g k nil_like = refl
  map_same f g k (cons_like {a} {b} h hs) = ap₂ ◌∷◌ (k a b h) (map_same f g k hs)

  -- a larger relation
  pub pointwise_weaken : {S : A → B → Type 0} → ((a : A) (b : B) → R a b → S a b) → {xs : List A} {ys : List B} → Pointwise R xs ys → Pointwise S xs ys
  pointwise_weaken k nil_like = nil_like
  pointwise_weaken k (cons_like {a} {b} h hs) = cons_like (k a b h) (pointwise_weaken k hs)

-- the same test on both sides
pub choose_like : {A B : Type 0} (R : A → B → Type 0) (c d : Bool) (x y : Unit {0} → A) (u v : Unit {0} → B) → c ≡ d → R (x tt) (u tt) → R (y tt) (v tt) → R (choose c x y) (choose d u v)
choose_like R true true x y u v e h k = h
choose_like R true false x y u v e h k = clash (cc)
choose_like R false true x y u v e h k = clash (cc)
choose_like R false false x y u v e h k = k

module _ {Waived : Bound → Type 0} {A B : Type 0} where
  pub then_like : {C D : Type 0} {R : A → B → Type 0} (S : C → D → Type 0) {o : Outcome A} {o' : Outcome B} (go : A → ℕ → Outcome C) (go' : B → ℕ → Outcome D) →
      OutcomeLike Waived R o o' → ((a : A) (b : B) (l : ℕ) → R a b → OutcomeLike Waived S (go a l) (go' b l)) → OutcomeLike Waived S (and_then o go) (and_then o' go')
  then_like S go go' (done_like {a} {b} {l} h) f = f a b l h
  then_like S go go' stop_like f = stop_like
  then_like S go go' (waived_like c) f = waived_like c

  pub step_like : (R : A → B → Type 0) (left : ℕ) (go : ℕ → Outcome A) (go' : ℕ → Outcome B) → ((l : ℕ) → OutcomeLike Waived R (go l) (go' l)) → OutcomeLike Waived R (step left go) (step left go')
  step_like R zero go go' f = stop_like
  step_like R (suc left) go go' f = f left
