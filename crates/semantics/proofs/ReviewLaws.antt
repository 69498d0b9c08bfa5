-- Reviews: a constraint that fails is met by no assignment of the path; one that passes is not forced to fail.
use Prim.Native.Nat.{◌≤◌, suc, zero, ℕ}
use mathlib.Core.Bool.{Bool, false, not, true}
use mathlib.Core.List.{List, [], ◌∷◌}
use mathlib.Core.Logic.{◌↔◌, inl, inr, ⊎_elim}
use mathlib.Core.Option.{Option, none, some}
use mathlib.Core.Path.{◌∙◌, ◌≡◌, ap, refl, subst, sym}
use native.Mathlib.Omega.{arith}
use lib.Dec.{eqb}
use lib.ListN.{length}
use borrow.Author.Tests.{eq-eqb, eqb-false, eqb-true}
use Rattle.rules.specs.Lists.{Each, Some}
use Rattle.rules.specs.Reading.{choose}
use Rattle.rules.specs.Syntax.{Atom, Constraint, Sort, Term, absento, atom, differ, empty, number, numbers, pair, symbol, symbols, typed, var}
use Rattle.semantics.specs.Answer.{not_all, resolve_right, trial_bindings}
use Rattle.semantics.specs.Invariant.{ConstraintIn, Good, In, Passes, Reaches, Sat, TermIn, Unforced, some_node}
use Rattle.semantics.specs.Logic.{Assignment, Lacks, Meets, OfSort, Tree, leaf, node, value}
use Rattle.semantics.specs.Review.{clashes, other_sort, reaches, review, review_all, reviewed, sort_fails, sort_of, trial_fails}
use Rattle.semantics.specs.Steps.{done}
use Rattle.semantics.specs.Substitution.{Substitution, resolve, walk}
use Rattle.semantics.specs.Unify.{is_atom, is_var, unify_terms}
use Rattle.semantics.proofs.Basics.{and_true, clash, one_of, or_right}
use Rattle.semantics.proofs.Fill.{some_filled}
use Rattle.semantics.proofs.LineLaws.{all_met_open, differ_listing}
use Rattle.semantics.proofs.ScanLaws.{is_atom_heads, scan_alone}
use Rattle.semantics.proofs.StepLaws.{done_value, through}
use Rattle.semantics.proofs.SubstitutionLaws.{Seen, complete, sat_complete, value_resolve, walk_seen}
use Rattle.semantics.proofs.TermLaws.{atom_inside}
use Rattle.semantics.proofs.UnifyLaws.{Unifier, no_news, unify_none, unify_some}

-- the sorts
pub sort_true : (k : Sort) (a : Atom) → sort_of k a ≡ true → OfSort k (leaf a)
sort_true symbols (symbol p) e = tt
sort_true symbols (number p) e = clash (cc)
sort_true symbols empty e = clash (cc)
sort_true numbers (symbol p) e = clash (cc)
sort_true numbers (number p) e = tt
sort_true numbers empty e = clash (cc)

sort_false : (k : Sort) (a : Atom) → sort_of k a ≡ false → ¬ OfSort k (leaf a)
sort_false symbols (symbol p) e h = clash (cc)
sort_false symbols (number p) e h = h
sort_false symbols empty e h = h
sort_false numbers (symbol p) e h = h
sort_false numbers (number p) e h = clash (cc)
sort_false numbers empty e h = h

sort_node : (k : Sort) (s t : Tree) → ¬ OfSort k (node s t)
sort_node symbols s t h = h
sort_node numbers s t h = h

two_sorts : (k l : Sort) → other_sort k l ≡ true → (v : Tree) → OfSort k v → ¬ OfSort l v
two_sorts symbols symbols e v h i = clash (cc)
two_sorts numbers numbers e v h i = clash (cc)
two_sorts symbols numbers e (leaf (symbol p)) h i = i
two_sorts symbols numbers e (leaf (number p)) h i = h
two_sorts symbols numbers e (leaf empty) h i = h
two_sorts symbols numbers e (node s t) h i = h
two_sorts numbers symbols e (leaf (symbol p)) h i = h
two_sorts numbers symbols e (leaf (number p)) h i = i
two_sorts numbers symbols e (leaf empty) h i = h
two_sorts numbers symbols e (node s t) h i = h

is_that : (x : ℕ) (t : Term) → is_var x t ≡ true → t ≡ var x
is_that x (var y) e = ap var (sym (eqb-true x y e))
is_that x (atom a) e = clash (cc)
is_that x (pair s t) e = clash (cc)

seen_var : (bs : Substitution) (r f : Term) (x : ℕ) → Seen bs r f → r ≡ var x → f ≡ var x
seen_var bs r (var y) x h e = let z : var y ≡ var x = sym h.1 ∙ e in z
seen_var bs r (atom a) x h e = clash (cc)
seen_var bs r (pair s t) x h e = clash (cc)

module _ (bs : Substitution) (good : Good bs) where
  reaches_true : (k : Sort) (x : ℕ) (c : Constraint) → reaches bs k x c ≡ true ↔ Reaches bs k x c
  reaches_true k x (differ s t) = (λ e. clash (cc), λ h. absurd h)
  reaches_true k x (absento a t) = (λ e. clash (cc), λ h. absurd h)
  reaches_true k x (typed l t) = (
    λ e. let (p, q) = and_true (other_sort k l) (is_var x (walk bs t)) e in (p, (subst (Seen bs (resolve bs t)) (is_that x (walk bs t) q) (walk_seen bs good t)).1),
    λ (p, q). rw (p, seen_var bs (resolve bs t) (walk bs t) x (walk_seen bs good t) q) (eq-eqb x x refl),
  )

  pub clashes_true : (k : Sort) (x : ℕ) (cs : List Constraint) → clashes bs k x cs ≡ true ↔ Some (Reaches bs k x) cs
  clashes_true k x [] = (λ e. clash (cc), λ h. absurd h)
  clashes_true k x (c ∷ cs) = (
    λ e. ⊎_elim (λ q. inl ((reaches_true k x c).0 q)) (λ q. inr ((clashes_true k x cs).0 q)) (one_of (reaches bs k x c) (clashes bs k x cs) e),
    ⊎_elim (λ h. rw ((reaches_true k x c).1 h)) (λ h. rw ((clashes_true k x cs).1 h) (or_right (reaches bs k x c))),
  )

  pub clashes_false : (k : Sort) (x : ℕ) (cs : List Constraint) → clashes bs k x cs ≡ false → ¬ Some (Reaches bs k x) cs
  clashes_false k x cs e h = clash (cc ((clashes_true k x cs).1 h))

module _ (α : Assignment) (bs : Substitution) (h : Sat α bs) where
  reaches_broken : (k : Sort) (x : ℕ) (cs : List Constraint) → Some (Reaches bs k x) cs → Each (Meets α) cs → ¬ OfSort k (α x)
  reaches_broken k x [] e m = absurd e
  reaches_broken k x (differ s t ∷ cs) e m = ⊎_elim (λ q. absurd q) (λ q. reaches_broken k x cs q m.1) e
  reaches_broken k x (absento a t ∷ cs) e m = ⊎_elim (λ q. absurd q) (λ q. reaches_broken k x cs q m.1) e
  reaches_broken k x (typed l t ∷ cs) e m =
      ⊎_elim (λ (p, q) i. two_sorts k l p (α x) i (subst (OfSort l) (sym (value_resolve α bs h t) ∙ ap (value α) q) m.0)) (λ q. reaches_broken k x cs q m.1) e

-- what a review tells: true where the constraint fails
abbrev pub ReviewRight : Substitution → List Constraint → Constraint → Bool → Type 0
ReviewRight bs cs c false = Passes bs cs c
ReviewRight bs cs c true = (α : Assignment) → Sat α bs → Each (Meets α) cs → ¬ Meets α c

abbrev pub ReviewsRight : Substitution → List Constraint → List Constraint → Bool → Type 0
ReviewsRight bs cs later false = Each (Passes bs cs) later
ReviewsRight bs cs later true = (α : Assignment) → Sat α bs → Each (Meets α) cs → ¬ Each (Meets α) later

module _ (top : ℕ) (low : top ≤ 2048) (bs : Substitution) (good : Good bs) (scope : In top bs) where
  -- two terms that no assignment makes equal, and two that need a binding to be equal
  unforced_none : (s t : Term) → ((α : Assignment) → Sat α bs → ¬ (value α s ≡ value α t)) → Unforced bs s t
  unforced_none s t n all = let α = complete (λ x. leaf empty) bs in let h = sat_complete (λ x. leaf empty) bs good in n α h (all α h)

  unforced_some : (s t : Term) (bs' : Substitution) → TermIn top s → TermIn top t → Unifier top bs s t bs' → ¬ (length bs' ≡ length bs) → Unforced bs s t
  unforced_some s t bs' i j u news all =
      let g = differ_listing top low bs good scope (λ x. symbols) [] s t bs' i j u news in
      let f = some_filled (λ x. symbols) [] (not_all (resolve_right bs (trial_bindings bs bs')) ∷ []) g.ready (omega arith) in
      let α = complete f.assignment bs in let h = sat_complete f.assignment bs good in
      (g.up α h (all_met_open f.assignment bs (not_all (resolve_right bs (trial_bindings bs bs')) ∷ []) g.opens f.meets)).0 (all α h)

  differ_told : (cs : List Constraint) (s t : Term) → TermIn top s → TermIn top t → (left l : ℕ) (r : Option Substitution) → unify_terms bs s t left ≡ done r l → ReviewRight bs cs (differ s t) (trial_fails bs r)
  differ_told cs s t i j left l none q = unforced_none s t (unify_none left bs good s t left l q)
  differ_told cs s t i j left l (some bs') q = go (eqb (length bs') (length bs)) refl
    where
      u : Unifier top bs s t bs'
      u = unify_some top left bs good s t left bs' l q

      go : (b : Bool) → eqb (length bs') (length bs) ≡ b → ReviewRight bs cs (differ s t) b
      go true e = λ α h m d. d (no_news u (eqb-true (length bs') (length bs) e) α h)
      go false e = unforced_some s t bs' i j u (eqb-false (length bs') (length bs) e)

  typed_told : (cs : List Constraint) (k : Sort) (t f : Term) → Seen bs (resolve bs t) f → ReviewRight bs cs (typed k t) (sort_fails bs cs k f)
  typed_told cs k t (var x) seen = go (clashes bs k x cs) refl
    where
      go : (b : Bool) → clashes bs k x cs ≡ b → ReviewRight bs cs (typed k t) b
      go true e = λ α h m i. reaches_broken α bs h k x cs ((clashes_true bs good k x cs).0 e) m (subst (OfSort k) (sym (value_resolve α bs h t) ∙ ap (value α) seen.1) i)
      go false e = rw seen.1 (clashes_false bs good k x cs e)
  typed_told cs k t (atom a) seen = go (sort_of k a) refl
    where
      go : (b : Bool) → sort_of k a ≡ b → ReviewRight bs cs (typed k t) (not b)
      go true e = rw seen e
      go false e = λ α h m i. sort_false k a e (subst (OfSort k) (sym (value_resolve α bs h t) ∙ ap (value α) seen) i)
  typed_told cs k t (pair u v) seen = λ α h m i. sort_node k (value α (resolve bs u)) (value α (resolve bs v)) (subst (OfSort k) (sym (value_resolve α bs h t) ∙ ap (value α) seen) i)

  absento_told : (cs : List Constraint) (a : Atom) (t : Term) (b : Bool) → b ≡ some_node (is_atom a) (resolve bs t) → ReviewRight bs cs (absento a t) b
  absento_told cs a t true e = λ α h m i. atom_inside α a (resolve bs t) (sym e) (subst (Lacks a) (sym (value_resolve α bs h t)) i)
  absento_told cs a t false e = sym e

  reviewed_told : (cs : List Constraint) (c : Constraint) → ConstraintIn top c → (left l : ℕ) (b : Bool) → reviewed bs cs c left ≡ done b l → ReviewRight bs cs c b
  reviewed_told cs (differ s t) i left l b e =
      let p = through (unify_terms bs s t left) _ b l e in
      subst (ReviewRight bs cs (differ s t)) (done_value _ b p.left l p.second) (differ_told cs s t i.0 i.1 left p.left p.value p.first)
  reviewed_told cs (typed k t) i left l b e = subst (ReviewRight bs cs (typed k t)) (done_value _ b left l e) (typed_told cs k t (walk bs t) (walk_seen bs good t))
  reviewed_told cs (absento a t) i left l b e = absento_told cs a t b (scan_alone (is_atom a) (is_atom_heads a) bs good t left b l e)

  pub review_told : (cs : List Constraint) (c : Constraint) → ConstraintIn top c → (left l : ℕ) (b : Bool) → review bs cs c left ≡ done b l → ReviewRight bs cs c b
  review_told cs c i zero l b e = clash (cc)
  review_told cs c i (suc left) l b e = reviewed_told cs c i left l b e

  pub review_all_told : (cs later : List Constraint) → Each (ConstraintIn top) later → (left l : ℕ) (b : Bool) → review_all bs cs later left ≡ done b l → ReviewsRight bs cs later b
  review_all_told cs [] i left l b e = subst (ReviewsRight bs cs []) (done_value false b left l e) tt
  review_all_told cs (c ∷ later) i left l b e =
      let p = through (review bs cs c left) _ b l e in
      go p.value p.left (review_told cs c i.0 left p.left p.value p.first) p.second (λ q. review_all_told cs later i.1 p.left l b q)
    where
      join : (b : Bool) → Passes bs cs c → ReviewsRight bs cs later b → ReviewsRight bs cs (c ∷ later) b
      join true p q = λ α h m o. q α h m o.1
      join false p q = (p, q)

      go : (d : Bool) (m : ℕ) → ReviewRight bs cs c d → choose d (λ _. done true m) (λ _. review_all bs cs later m) ≡ done b l → (review_all bs cs later m ≡ done b l → ReviewsRight bs cs later b) → ReviewsRight bs cs (c ∷ later) b
      go true m t q ih = subst (ReviewsRight bs cs (c ∷ later)) (done_value true b m l q) (λ α h n o. t α h n o.0)
      go false m t q ih = join b t (ih q)
