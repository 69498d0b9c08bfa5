-- Steps: what an outcome spends, what more steps change, and what a value at the end says of the steps on the way.
use Prim.Native.Nat.{◌+◌, ◌<◌, ◌≤◌, suc, zero, ℕ}
use mathlib.Core.Path.{◌≡◌, ap, refl}
use native.Mathlib.Omega.{arith}
use Rattle.semantics.specs.Steps.{Bound, Outcome, and_then, at_bound, done, no_steps, step, stop}
use Rattle.semantics.proofs.Basics.{clash}

-- A value leaves at most m steps. "Steps used up" leaves none; "path limit", as steps are tested first, leaves one at least, and at most n.
abbrev pub Spent : {A : Type 0} → ℕ → ℕ → Outcome A → Type 0
Spent m n (done a l) = l ≤ m
Spent m n (stop no_steps l) = l ≡ 0
Spent m n (stop (at_bound b) l) = (0 < l) × (l ≤ n)

pub spent_up : {A : Type 0} (m n p q : ℕ) (o : Outcome A) → m ≤ p → n ≤ q → Spent m n o → Spent p q o
spent_up m n p q (done a l) i j h = omega arith
spent_up m n p q (stop no_steps l) i j h = h
spent_up m n p q (stop (at_bound b) l) i j h = omega arith

pub spent_then : {A B : Type 0} (m n : ℕ) (o : Outcome A) (go : A → ℕ → Outcome B) → Spent m n o → ((a : A) (l : ℕ) → l ≤ m → Spent m n (go a l)) → Spent m n (and_then o go)
spent_then m n (done a l) go h f = f a l h
spent_then m n (stop no_steps l) go h f = h
spent_then m n (stop (at_bound b) l) go h f = h

-- with d steps more the same is done, and d more are left; only where steps were used up can it be otherwise
abbrev pub More : {A : Type 0} → ℕ → Outcome A → Outcome A → Type 0
More d (done a l) o = o ≡ done a (l + d)
More d (stop no_steps l) o = Unit {0}
More d (stop (at_bound b) l) o = o ≡ stop (at_bound b) (l + d)

pub more_done : {A : Type 0} (d : ℕ) (a : A) (l l' : ℕ) → l' ≡ l + d → More d (done a l) (done a l')
more_done d a l l' e = ap (done a) e

pub more_bound : {A : Type 0} (d : ℕ) (b : Bound) (l l' : ℕ) → l' ≡ l + d → More {A = A} d (stop (at_bound b) l) (stop (at_bound b) l')
more_bound d b l l' e = ap (stop (at_bound b)) e

pub more_then : {A B : Type 0} (d : ℕ) (o o' : Outcome A) (go go' : A → ℕ → Outcome B) → More d o o' →
    ((a : A) (l : ℕ) → o ≡ done a l → (l' : ℕ) → l' ≡ l + d → More d (go a l) (go' a l')) → More d (and_then o go) (and_then o' go')
more_then d (done a l) o' go go' h f = rw h (f a l refl (l + d) refl)
more_then d (stop no_steps l) o' go go' h f = tt
more_then d (stop (at_bound b) l) o' go go' h f = rw h refl

-- a value at the end of two parts
pub record Through {A B : Type 0} (o : Outcome A) (go : A → ℕ → Outcome B) (b : B) (l : ℕ) : Type 0 where
  pub value : A
  pub left : ℕ
  pub first : o ≡ done value left
  pub second : go value left ≡ done b l

pub through : {A B : Type 0} (o : Outcome A) (go : A → ℕ → Outcome B) (b : B) (l : ℕ) → and_then o go ≡ done b l → Through o go b l
through (done a m) go b l e = record { value = a; left = m; first = refl; second = e }
through (stop why m) go b l e = clash (cc)

pub done_value : {A : Type 0} (a b : A) (l m : ℕ) → done a l ≡ done b m → a ≡ b
done_value a b l m e = cc

-- one step
pub step_spent : {A : Type 0} (left : ℕ) (go : ℕ → Outcome A) → ((l : ℕ) → Spent l (suc l) (go l)) → Spent left left (step left go)
step_spent zero go f = refl
step_spent (suc left) go f = spent_up left (suc left) (suc left) (suc left) (go left) (omega arith) (omega arith) (f left)

pub step_more : {A : Type 0} (d left left' : ℕ) (go : ℕ → Outcome A) → left' ≡ left + d → ((l l' : ℕ) → l' ≡ l + d → More d (go l) (go l')) → More d (step left go) (step left' go)
step_more d zero left' go e f = tt
step_more d (suc left) zero go e f = absurd (omega arith)
step_more d (suc left) (suc left') go e f = f left left' (omega arith)
