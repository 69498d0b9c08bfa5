-- "of two bounds exceeded by one step, the one listed first is named"
use Prim.Native.Nat.{◌+◌, ◌<◌, ◌≤◌, suc, ℕ}
use mathlib.Core.Bool.{Bool, false, true}
use mathlib.Core.List.{List}
use mathlib.Core.Logic.{◌⊎◌, inl, inr}
use mathlib.Core.Option.{Option, none, some}
use mathlib.Core.Path.{◌≡◌, ap, refl}
use native.Mathlib.Omega.{arith}
use lib.Dec.{leb, ltb}
use lib.ListN.{get_elem?, length}
use borrow.Author.Tests.{leb-false, leb-true, lt-ltb, ltb-true}
use Rattle.rules.specs.Reading.{choose}
use Rattle.rules.specs.Syntax.{Goal, Program, Relation, call, conj, constrain, disj, equal, more, one}
use Rattle.semantics.specs.Path.{ChoicePoint, Path, goals_count}
use Rattle.semantics.specs.Situation.{CallMeets, GoalMeets, call_uses, so_many, uses}
use Rattle.semantics.specs.Steps.{Bound, at_bound, bound_number, constraints, disjunctions, goals, most, variables, waiting}
use Rattle.semantics.proofs.WithinBounds.{each_within, for_each}

named : (b c : Bound) → at_bound b ≡ at_bound c → bound_number b ≡ bound_number c
named b c e = let q : b ≡ c = cc in ap bound_number q

-- what is listed before a bound fits, if so much of it does
-- where the bounds listed before one fit, so do all that have a smaller number
before_first : (u : Bound → ℕ) (c : Bound) → bound_number c < 1 → u c ≤ most c
before_first u = for_each (λ c. bound_number c < 1 → u c ≤ most c) (λ h. absurd (omega arith)) (λ h. absurd (omega arith)) (λ h. absurd (omega arith)) (λ h. absurd (omega arith)) (λ h. absurd (omega arith))

before_goals : (v g d n : ℕ) → v ≤ 2048 → (c : Bound) → bound_number c < 2 → so_many v g d n c ≤ most c
before_goals v g d n i = for_each (λ c. bound_number c < 2 → so_many v g d n c ≤ most c) (λ h. i) (λ h. absurd (omega arith)) (λ h. absurd (omega arith)) (λ h. absurd (omega arith)) (λ h. absurd (omega arith))

before_disjunctions : (v g d n : ℕ) → v ≤ 2048 → g ≤ 1024 → (c : Bound) → bound_number c < 3 → so_many v g d n c ≤ most c
before_disjunctions v g d n i j = for_each (λ c. bound_number c < 3 → so_many v g d n c ≤ most c) (λ h. i) (λ h. j) (λ h. absurd (omega arith)) (λ h. absurd (omega arith)) (λ h. absurd (omega arith))

before_constraints : (n : ℕ) (c : Bound) → bound_number c < 4 → so_many 0 0 0 n c ≤ most c
before_constraints n = for_each (λ c. bound_number c < 4 → so_many 0 0 0 n c ≤ most c) (λ h. omega arith) (λ h. omega arith) (λ h. omega arith) (λ h. absurd (omega arith)) (λ h. absurd (omega arith))

-- only constraints are kept
before_all : (n : ℕ) → n ≤ 512 → (c : Bound) → so_many 0 0 0 n c ≤ most c
before_all n i = each_within (omega arith) (omega arith) (omega arith) i

fits_or : (n m : ℕ) → (n ≤ m) ⊎ (m < n)
fits_or n m = go (leb n m) refl
  where
    go : (t : Bool) → leb n m ≡ t → (n ≤ m) ⊎ (m < n)
    go true q = inl (leb-true n m q)
    go false q = inr (leb-false n m q)

module _ (k : ℕ) (P : Program) (p : Path) (cs : List ChoicePoint) (base left : ℕ) where
  -- where a bound is named, those listed before it are not exceeded
  pub earlier_fit : (g : Goal) (b : Bound) (l : ℕ) → GoalMeets k P p cs base g (suc left) (at_bound b) l → (c : Bound) → bound_number c < bound_number b → uses k P p cs g c ≤ most c
  earlier_fit (equal s t) b l m c h = before_all 0 (omega arith) c
  earlier_fit (constrain d) b l (inl (o, e, q)) c h = before_constraints (suc (length p.kept)) c (omega (arith, named b constraints e))
  earlier_fit (constrain d) b l (inr (i, m)) c h = before_all (suc (length p.kept)) i c
  earlier_fit (conj gs) b l (o, e, q) c h = before_goals 0 (p.put + goals_count gs) 0 0 (omega arith) c (omega (arith, named b goals e))
  earlier_fit (disj (one g)) b l (o, e, q) c h = before_goals 0 (suc p.put) 0 0 (omega arith) c (omega (arith, named b goals e))
  earlier_fit (disj (more g gs)) b l (inl (o, e, q)) c h = before_goals 0 (suc p.put) (suc (length cs)) 0 (omega arith) c (omega (arith, named b goals e))
  earlier_fit (disj (more g gs)) b l (inr (i, (o, e, q))) c h = before_disjunctions 0 (suc p.put) (suc (length cs)) 0 (omega arith) i c (omega (arith, named b disjunctions e))
  earlier_fit (call r ts) b l (i, m) c h = rw (lt-ltb p.calls k i) (called (get_elem? P r) m)
    where
      called : (o : Option Relation) → CallMeets p o left (at_bound b) l → call_uses p o c ≤ most c
      called none m = absurd m
      called (some R) (inl (o, e, q)) = before_first (call_uses p (some R)) c (omega (arith, named b variables e))
      called (some R) (inr (i, (o, e, q))) = before_goals (p.made + R.vars) (suc p.put) 0 0 i c (omega (arith, named b goals e))

  -- the first that is exceeded is named, with the goal's own step given back
  abbrev Named : Goal → Bound → Type 0
  Named g c = (b : Bound) × (bound_number b ≤ bound_number c) × GoalMeets k P p cs base g (suc left) (at_bound b) (suc left)

  -- where a bound is exceeded, it or one listed before it is named
  pub exceeded_named : (g : Goal) (c : Bound) → most c < uses k P p cs g c → Named g c
  exceeded_named (equal s t) c h = absurd (let i = before_all 0 (omega arith) c in omega arith)
  exceeded_named (constrain d) constraints h = (constraints, omega arith, inl (h, refl, refl))
  exceeded_named (constrain d) variables h = absurd (omega arith)
  exceeded_named (constrain d) goals h = absurd (omega arith)
  exceeded_named (constrain d) disjunctions h = absurd (omega arith)
  exceeded_named (constrain d) waiting h = absurd (omega arith)
  exceeded_named (conj gs) goals h = (goals, omega arith, (h, refl, refl))
  exceeded_named (conj gs) variables h = absurd (omega arith)
  exceeded_named (conj gs) disjunctions h = absurd (omega arith)
  exceeded_named (conj gs) constraints h = absurd (omega arith)
  exceeded_named (conj gs) waiting h = absurd (omega arith)
  exceeded_named (disj (one g)) goals h = (goals, omega arith, (h, refl, refl))
  exceeded_named (disj (one g)) variables h = absurd (omega arith)
  exceeded_named (disj (one g)) disjunctions h = absurd (omega arith)
  exceeded_named (disj (one g)) constraints h = absurd (omega arith)
  exceeded_named (disj (one g)) waiting h = absurd (omega arith)
  exceeded_named (disj (more g gs)) goals h = (goals, omega arith, inl (h, refl, refl))
  exceeded_named (disj (more g gs)) disjunctions h = elim (fits_or (suc p.put) 1024) [ inl i ↦ (disjunctions, omega arith, inr (i, (h, refl, refl))) | inr i ↦ (goals, omega arith, inl (i, refl, refl)) ]
  exceeded_named (disj (more g gs)) variables h = absurd (omega arith)
  exceeded_named (disj (more g gs)) constraints h = absurd (omega arith)
  exceeded_named (disj (more g gs)) waiting h = absurd (omega arith)
  exceeded_named (call r ts) c h = uncut (ltb p.calls k) refl h
    where
      called : (o : Option Relation) (c : Bound) → most c < call_uses p o c → (b : Bound) × (bound_number b ≤ bound_number c) × CallMeets p o left (at_bound b) (suc left)
      called none c h = absurd (let i = before_all 0 (omega arith) c in omega arith)
      called (some R) variables h = (variables, omega arith, inl (h, refl, refl))
      called (some R) goals h = elim (fits_or (p.made + R.vars) 2048) [ inl i ↦ (goals, omega arith, inr (i, (h, refl, refl))) | inr i ↦ (variables, omega arith, inl (i, refl, refl)) ]
      called (some R) disjunctions h = absurd (omega arith)
      called (some R) constraints h = absurd (omega arith)
      called (some R) waiting h = absurd (omega arith)

      -- a call that is cut makes nothing
      uncut : (t : Bool) → ltb p.calls k ≡ t → most c < choose t (λ _. call_uses p (get_elem? P r)) (λ _. so_many 0 0 0 0) c → Named (call r ts) c
      uncut false q h = absurd (let i = before_all 0 (omega arith) c in omega arith)
      uncut true q h = let (b, n, m) = called (get_elem? P r) c h in (b, n, (ltb-true p.calls k q, m))
