-- Terms: the variables in them, values, putting a term in for a variable, sizes.
use Prim.Native.Nat.{◌+◌, ◌<◌, ◌≤◌, suc, zero, ℕ}
use mathlib.Core.Bool.{Bool, false, true}
use mathlib.Core.List.{List, [], ◌∷◌, map}
use mathlib.Core.Logic.{◌↔◌, inl, inr}
use mathlib.Core.Path.{◌∙◌, ◌≡◌, ap, ap₂, refl, subst, sym}
use native.Mathlib.Nat.{le_refl}
use native.Mathlib.Omega.{arith}
use lib.Dec.{eqb}
use borrow.Author.Tests.{eq-eqb, eqb-false, eqb-true, ne_eqb}
use Rattle.rules.specs.Syntax.{Atom, Constraint, Term, absento, atom, differ, empty, number, pair, symbol, typed, var}
-- how many pairs a term has; it stands in specs/ because the writer's contracts name it
use Rattle.semantics.specs.Invariant.{ConstraintIn, TermIn, TermsIn, Vars, Without, some_node}
use Rattle.semantics.specs.Logic.{Assignment, Lacks, Meets, OfSort, Tree, firsts, leaf, node, value}
use Rattle.semantics.specs.Substitution.{put, same_atom, shift, shift_constraint}
use Rattle.semantics.specs.Unify.{is_atom, is_var}
use Rattle.semantics.proofs.Basics.{clash, compared, none_of, one_of, other, same}

-- how many pairs a term has
abbrev pub term_size : Term → ℕ
term_size (var x) = 0
term_size (atom a) = 0
term_size (pair s t) = suc (term_size s + term_size t)

pub same_atom_true : (a b : Atom) → same_atom a b ≡ true → a ≡ b
same_atom_true (symbol p) (symbol q) e = ap symbol (eqb-true p q e)
same_atom_true (symbol p) (number q) e = clash (cc)
same_atom_true (symbol p) empty e = clash (cc)
same_atom_true (number p) (symbol q) e = clash (cc)
same_atom_true (number p) (number q) e = ap number (eqb-true p q e)
same_atom_true (number p) empty e = clash (cc)
same_atom_true empty (symbol q) e = clash (cc)
same_atom_true empty (number q) e = clash (cc)
same_atom_true empty empty e = refl

pub same_atom_refl : (a : Atom) → same_atom a a ≡ true
same_atom_refl (symbol p) = eq-eqb p p refl
same_atom_refl (number p) = eq-eqb p p refl
same_atom_refl empty = refl

pub same_atom_false : (a b : Atom) → same_atom a b ≡ false → ¬ (a ≡ b)
same_atom_false a b e q = clash (cc (same_atom_refl a))

pub other_atom : (a b : Atom) → ¬ (a ≡ b) → same_atom a b ≡ false
other_atom a b n = go (same_atom a b) refl
  where
    go : (c : Bool) → same_atom a b ≡ c → same_atom a b ≡ false
    go true e = absurd (n (same_atom_true a b e))
    go false e = e

-- a term put for a variable
abbrev pub replace : ℕ → Term → Term → Term
replace x u t = put x (λ _. u) t

pub replace_same : (x : ℕ) (u : Term) (y : ℕ) → eqb x y ≡ true → replace x u (var y) ≡ u
replace_same x u y e = rw e

pub replace_other : (x : ℕ) (u : Term) (y : ℕ) → eqb x y ≡ false → replace x u (var y) ≡ var y
replace_other x u y e = rw e

pub vars_map : {P Q : ℕ → Type 0} → ((x : ℕ) → P x → Q x) → (t : Term) → Vars P t → Vars Q t
vars_map f (var x) h = f x h
vars_map f (atom a) h = tt
vars_map f (pair s t) h = (vars_map f s h.0, vars_map f t h.1)

pub vars_both : (P Q : ℕ → Type 0) (t : Term) → Vars P t → Vars Q t → Vars (λ x. P x × Q x) t
vars_both P Q (var x) h k = (h, k)
vars_both P Q (atom a) h k = tt
vars_both P Q (pair s t) h k = (vars_both P Q s h.0 k.0, vars_both P Q t h.1 k.1)

pub vars_replace : {P Q : ℕ → Type 0} (x : ℕ) (u t : Term) → ((y : ℕ) → ¬ (x ≡ y) → P y → Q y) → Vars Q u → Vars P t → Vars Q (replace x u t)
vars_replace x u (var y) f k h = elim (compared x y) [ same p e ↦ rw (replace_same x u y e) k | other n e ↦ rw (replace_other x u y e) (f y n h) ]
vars_replace x u (atom a) f k h = tt
vars_replace x u (pair s t) f k h = (vars_replace x u s f k h.0, vars_replace x u t f k h.1)

pub replace_without : (x : ℕ) (u t : Term) → Without x t → replace x u t ≡ t
replace_without x u (var y) h = elim (compared x y) [ same p e ↦ absurd (h p) | other n e ↦ replace_other x u y e ]
replace_without x u (atom a) h = refl
replace_without x u (pair s t) h = ap₂ pair (replace_without x u s h.0) (replace_without x u t h.1)

pub value_replace : (α : Assignment) (x : ℕ) (u t : Term) → α x ≡ value α u → value α (replace x u t) ≡ value α t
value_replace α x u (var y) h = elim (compared x y) [ same p e ↦ rw (replace_same x u y e) (sym h ∙ ap α p) | other n e ↦ rw (replace_other x u y e) ]
value_replace α x u (atom a) h = refl
value_replace α x u (pair s t) h = ap₂ node (value_replace α x u s h) (value_replace α x u t h)

pub value_agree : (α β : Assignment) (t : Term) → Vars (λ x. α x ≡ β x) t → value α t ≡ value β t
value_agree α β (var x) h = h
value_agree α β (atom a) h = refl
value_agree α β (pair s t) h = ap₂ node (value_agree α β s h.0) (value_agree α β t h.1)

abbrev pub inside : ℕ → Term → Bool
inside x t = some_node (is_var x) t

pub not_inside : (x : ℕ) (t : Term) → inside x t ≡ false → Without x t
not_inside x (var y) e = eqb-false x y e
not_inside x (atom a) e = tt
not_inside x (pair s t) e = let h = none_of (inside x s) (inside x t) e in (not_inside x s h.0, not_inside x t h.1)

pub without_inside : (x : ℕ) (t : Term) → Without x t → inside x t ≡ false
without_inside x (var y) h = ne_eqb x y h
without_inside x (atom a) h = refl
without_inside x (pair s t) h = rw (without_inside x s h.0, without_inside x t h.1)

abbrev pub tree_size : Tree → ℕ
tree_size (leaf a) = 0
tree_size (node s t) = suc (tree_size s + tree_size t)

pub inside_size : (α : Assignment) (x : ℕ) (t : Term) → inside x t ≡ true → tree_size (α x) ≤ tree_size (value α t)
inside_size α x (var y) e = rw (eqb-true x y e) (le_refl _)
inside_size α x (atom a) e = clash (cc)
inside_size α x (pair s t) e = elim (one_of (inside x s) (inside x t) e) [
  | inl h ↦ omega (arith, inside_size α x s h)
  | inr h ↦ omega (arith, inside_size α x t h)
]

-- finite trees: no tree is a proper part of itself
pub inside_pair : (α : Assignment) (x : ℕ) (s t : Term) → inside x (pair s t) ≡ true → ¬ (α x ≡ value α (pair s t))
inside_pair α x s t e q = elim (one_of (inside x s) (inside x t) e) [
  | inl h ↦ omega (arith, inside_size α x s h, ap tree_size q)
  | inr h ↦ omega (arith, inside_size α x t h, ap tree_size q)
]

-- an atom in a term, and what a constraint against it says
pub lacks_term : (α : Assignment) (a : Atom) (t : Term) → Lacks a (value α t) ↔ ((some_node (is_atom a) t ≡ false) × Vars (λ x. Lacks a (α x)) t)
lacks_term α a (var x) = (λ h. (refl, h), λ h. h.1)
lacks_term α a (atom b) = (λ h. (other_atom a b h, tt), λ h. same_atom_false a b h.0)
lacks_term α a (pair s t) =
    let h = lacks_term α a s in let k = lacks_term α a t in (
      λ l. let i = h.0 l.0 in let j = k.0 l.1 in (rw (i.0, j.0), (i.1, j.1)),
      λ l. let n = none_of (some_node (is_atom a) s) (some_node (is_atom a) t) l.0 in (h.1 (n.0, l.1.0), k.1 (n.1, l.1.1)),
    )

pub atom_inside : (α : Assignment) (a : Atom) (t : Term) → some_node (is_atom a) t ≡ true → ¬ Lacks a (value α t)
atom_inside α a t e l = clash (cc ((lacks_term α a t).0 l).0)

-- Terms, constraints over the variables below v, with payloads that fit a word

pub term_more : (v w : ℕ) (t : Term) → v ≤ w → TermIn v t → TermIn w t
term_more v w (var x) h i = omega arith
term_more v w (atom a) h i = i
term_more v w (pair s t) h i = (term_more v w s h i.0, term_more v w t h i.1)

pub constraint_more : (v w : ℕ) (c : Constraint) → v ≤ w → ConstraintIn v c → ConstraintIn w c
constraint_more v w (differ s t) h i = (term_more v w s h i.0, term_more v w t h i.1)
constraint_more v w (typed k t) h i = term_more v w t h i
constraint_more v w (absento a t) h i = (i.0, term_more v w t h i.1)

pub vars_below : (v : ℕ) (t : Term) → TermIn v t → Vars (λ x. x < v) t
vars_below v (var x) h = h
vars_below v (atom a) h = tt
vars_below v (pair s t) h = (vars_below v s h.0, vars_below v t h.1)

pub in_without : (v : ℕ) (t : Term) → TermIn v t → Without v t
in_without v t h = vars_map (λ x l e. omega arith) t (vars_below v t h)

pub replace_in : (v x : ℕ) (u t : Term) → TermIn v u → TermIn v t → TermIn v (replace x u t)
replace_in v x u (var y) k h = elim (compared x y) [ same p e ↦ rw e k | other n e ↦ rw e h ]
replace_in v x u (atom a) k h = h
replace_in v x u (pair s t) k h = (replace_in v x u s k h.0, replace_in v x u t k h.1)

-- The variables of a relation, made from `base` on

abbrev pub from : ℕ → Assignment → Assignment
from base α i = α (base + i)

pub value_shift : (base : ℕ) (α : Assignment) (t : Term) → value α (shift base t) ≡ value (from base α) t
value_shift base α (var x) = refl
value_shift base α (atom a) = refl
value_shift base α (pair s t) = ap₂ node (value_shift base α s) (value_shift base α t)

pub meets_shift : (base : ℕ) (α : Assignment) (c : Constraint) → Meets α (shift_constraint base c) ≡ Meets (from base α) c
meets_shift base α (differ s t) = rw (value_shift base α s, value_shift base α t)
meets_shift base α (typed k t) = rw value_shift
meets_shift base α (absento a t) = rw value_shift

pub shift_in : (base v made : ℕ) (t : Term) → base + v ≤ made → TermIn v t → TermIn made (shift base t)
shift_in base v made (var x) h i = omega arith
shift_in base v made (atom a) h i = i
shift_in base v made (pair s t) h i = (shift_in base v made s h i.0, shift_in base v made t h i.1)

pub shift_constraint_in : (base v made : ℕ) (c : Constraint) → base + v ≤ made → ConstraintIn v c → ConstraintIn made (shift_constraint base c)
shift_constraint_in base v made (differ s t) h i = (shift_in base v made s h i.0, shift_in base v made t h i.1)
shift_constraint_in base v made (typed k t) h i = shift_in base v made t h i
shift_constraint_in base v made (absento a t) h i = (i.0, shift_in base v made t h i.1)

-- Two assignments that agree below v

abbrev pub Agree : ℕ → Assignment → Assignment → Type 0
Agree v α β = (x : ℕ) → x < v → α x ≡ β x

pub value_local : (v : ℕ) (α β : Assignment) (t : Term) → Agree v α β → TermIn v t → value α t ≡ value β t
value_local v α β t h i = value_agree α β t (vars_map h t (vars_below v t i))

pub values_local : (v : ℕ) (α β : Assignment) (ts : List Term) → Agree v α β → TermsIn v ts → map (value α) ts ≡ map (value β) ts
values_local v α β [] h i = refl
values_local v α β (t ∷ ts) h i = ap₂ ◌∷◌ (value_local v α β t h i.0) (values_local v α β ts h i.1)

pub meets_local : (v : ℕ) (α β : Assignment) (c : Constraint) → Agree v α β → ConstraintIn v c → Meets α c → Meets β c
meets_local v α β (differ s t) h i m = λ e. m (value_local v α β s h i.0 ∙ e ∙ sym (value_local v α β t h i.1))
meets_local v α β (typed k t) h i m = subst (OfSort k) (value_local v α β t h i) m
meets_local v α β (absento a t) h i m = subst (Lacks a) (value_local v α β t h i.1) m

pub firsts_local : (n : ℕ) (α β : Assignment) → Agree n α β → firsts n α ≡ firsts n β
firsts_local zero α β h = refl
firsts_local (suc n) α β h = ap₂ ◌∷◌ (h 0 (omega arith)) (firsts_local n (λ i. α (suc i)) (λ i. β (suc i)) (λ x i. h (suc x) (omega arith)))
