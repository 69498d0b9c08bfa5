-- What the other proofs go by: impossible equations, tests with what they say, lists.
use Prim.Native.Nat.{ℕ}
use mathlib.Core.Bool.{Bool, ◌&&◌, ◌||◌, false, true}
use mathlib.Core.List.{List, [], ◌++◌, ◌∷◌, append_assoc, append-nil, reverse_aux}
use mathlib.Core.Logic.{◌↔◌, ◌⊎◌, inl, inr, ⊎_elim}
use mathlib.Core.Path.{◌∙◌, ◌≡◌, ap, refl, sym}
use native.Mathlib.Omega.{arith}
use lib.Dec.{eqb}
use borrow.Author.Tests.{eqb-false, eqb-true}
use Rattle.rules.specs.Lists.{Each, Some, joined}
use Rattle.rules.specs.Reading.{choose}

-- what two constructors of one value come to: `clash (cc …)`
pub clash {ℓ} : {A : Type ℓ} → ◌≡◌ {A = ℕ} 0 1 → A
clash z = absurd (omega arith)

-- two numbers, with what the test says
pub data Compared (x y : ℕ) : Type 0 where
  same : x ≡ y → eqb x y ≡ true → Compared x y
  other : ¬ (x ≡ y) → eqb x y ≡ false → Compared x y

pub compared : (x y : ℕ) → Compared x y
compared x y = go (eqb x y) refl
  where
    go : (b : Bool) → eqb x y ≡ b → Compared x y
    go true e = same (eqb-true x y e) e
    go false e = other (eqb-false x y e) e

-- a test in a definition, with both ways to go on
pub by_choose : {A : Type 0} (Q : A → Type 0) (b : Bool) (x y : Unit {0} → A) → (b ≡ true → Q (x tt)) → (b ≡ false → Q (y tt)) → Q (choose b x y)
by_choose Q true x y t f = t refl
by_choose Q false x y t f = f refl

-- joined tests
pub and_true : (a b : Bool) → (a && b) ≡ true → (a ≡ true) × (b ≡ true)
and_true true b e = (refl, e)
and_true false b e = clash (cc)

pub none_of : (a b : Bool) → (a || b) ≡ false → (a ≡ false) × (b ≡ false)
none_of true b e = clash (cc)
none_of false b e = (refl, e)

pub one_of : (a b : Bool) → (a || b) ≡ true → (a ≡ true) ⊎ (b ≡ true)
one_of true b e = inl refl
one_of false b e = inr e

pub or_right : (a : Bool) → (a || true) ≡ true
or_right true = refl
or_right false = refl

-- lists
pub each_map : {A : Type 0} {P Q : A → Type 0} → ((x : A) → P x → Q x) → (xs : List A) → Each P xs → Each Q xs
each_map f [] h = tt
each_map f (x ∷ xs) h = (f x h.0, each_map f xs h.1)

-- one list more behind those that are joined
pub joined_more : {A : Type 0} (lists : List (List A)) (xs : List A) → joined (lists ++ (xs ∷ [])) ≡ joined lists ++ xs
joined_more [] xs = append-nil xs
joined_more (ys ∷ later) xs = ap (λ zs. ys ++ zs) (joined_more later xs) ∙ sym (append_assoc ys (joined later) xs)

pub each_append : {A : Type 0} (P : A → Type 0) (xs ys : List A) → Each P (xs ++ ys) ↔ (Each P xs × Each P ys)
each_append P [] ys = (λ h. (tt, h), λ h. h.1)
each_append P (x ∷ xs) ys = let k = each_append P xs ys in (λ h. ((h.0, (k.0 h.1).0), (k.0 h.1).1), λ h. (h.0.0, k.1 (h.0.1, h.1)))

pub each_reverse : {A : Type 0} (P : A → Type 0) (xs ys : List A) → Each P (reverse_aux xs ys) ↔ (Each P xs × Each P ys)
each_reverse P [] ys = (λ h. (tt, h), λ h. h.1)
each_reverse P (x ∷ xs) ys = let k = each_reverse P xs (x ∷ ys) in (λ h. let j = k.0 h in ((j.1.0, j.0), j.1.1), λ h. k.1 (h.0.1, (h.0.0, h.1)))

pub some_left : {A : Type 0} (Q : A → Type 0) (l r : List A) → Some Q l → Some Q (l ++ r)
some_left Q [] r h = absurd h
some_left Q (x ∷ l) r h = ⊎_elim inl (λ y. inr (some_left Q l r y)) h

pub some_right : {A : Type 0} (Q : A → Type 0) (l r : List A) → Some Q r → Some Q (l ++ r)
some_right Q [] r h = h
some_right Q (x ∷ l) r h = inr (some_right Q l r h)

pub some_split : {A : Type 0} (Q : A → Type 0) (l r : List A) → Some Q (l ++ r) → Some Q l ⊎ Some Q r
some_split Q [] r h = inr h
some_split Q (x ∷ l) r h = ⊎_elim (λ y. inl (inl y)) (λ y. ⊎_elim (λ z. inl (inr z)) inr (some_split Q l r y)) h

-- what is true of each element, with one of which Q is true
pub some_each : {A B : Type 0} (Q S : A → Type 0) (l : List A) → ((a : A) → S a → Q a → B) → Each S l → Some Q l → B
some_each Q S [] f hs h = absurd h
some_each Q S (a ∷ l) f hs h = ⊎_elim (λ x. f a hs.0 x) (λ x. some_each Q S l f hs.1 x) h

pub some_both : {A : Type 0} (Q S T : A → Type 0) (l : List A) → ((a : A) → S a → Q a → T a) → Each S l → Some Q l → Some T l
some_both Q S T [] f hs h = absurd h
some_both Q S T (a ∷ l) f hs h = ⊎_elim (λ x. inl (f a hs.0 x)) (λ x. inr (some_both Q S T l f hs.1 x)) h

pub some_map : {A : Type 0} (Q S : A → Type 0) (l : List A) → ((a : A) → Q a → S a) → Some Q l → Some S l
some_map Q S [] f h = absurd h
some_map Q S (a ∷ l) f h = ⊎_elim (λ x. inl (f a x)) (λ x. inr (some_map Q S l f x)) h
