-- The lines of a path's constraints: under the path's bindings they say just what the constraints say.
use Prim.Native.Nat.{◌+◌, ◌<◌, ◌≤◌, ℕ}
use mathlib.Core.Bool.{Bool, false, true}
use mathlib.Core.List.{List, [], ◌++◌, ◌∷◌, map, reverse, reverse-reverse}
use mathlib.Core.Logic.{◌↔◌, ⊎_elim}
use mathlib.Core.Option.{Option, none, some}
use mathlib.Core.Path.{◌∙◌, ◌≡◌, ap, refl, subst, sym}
use native.Mathlib.Omega.{arith}
use lib.Dec.{eqb}
use lib.ListN.{length}
use borrow.Author.Tests.{eqb-true}
use Rattle.word.specs.Word.{kind}
use Rattle.rules.specs.Lists.{Each}
use Rattle.rules.specs.Reading.{choose}
use Rattle.rules.specs.Syntax.{Atom, Constraint, Sort, Term, absento, atom, differ, pair, typed, var}
use Rattle.rules.specs.WellFormed.{TagGood}
use Rattle.semantics.specs.Answer.{Line, all_lines, appear, is_sort, lacks, lacks_each, lines_of, look_through, not_all, resolve_right, trial_bindings, trial_lines, typed_lines}
use Rattle.semantics.specs.Invariant.{ConstraintIn, Good, In, Open, Sat, TermIn, Throughout, Unforced, Vars, Without, some_node}
use Rattle.semantics.specs.Logic.{Assignment, Lacks, Meets, OfSort, leaf, value}
use Rattle.semantics.specs.Steps.{done}
use Rattle.semantics.specs.Substitution.{Substitution, resolve, walk}
use Rattle.semantics.specs.Unify.{is_atom, member, never, scan, unify_terms}
use Rattle.semantics.proofs.Basics.{clash, each_append, each_map, each_reverse, one_of}
use Rattle.semantics.proofs.Fill.{Among, Fit, LineGood, Met, atom_payload, differs_in}
use Rattle.semantics.proofs.StepLaws.{done_value, through}
use Rattle.semantics.proofs.SubstitutionLaws.{Seen, complete, complete_open, open_tail, resolve_in, resolve_opened, resolve_opens, value_complete, value_resolve, value_walk, walk_in, walk_seen}
use Rattle.semantics.proofs.TermLaws.{lacks_term, replace, replace_other, vars_below}
use Rattle.semantics.proofs.UnifyLaws.{Unifier, no_news, trial_new, trial_ok, unify_none, unify_some}

-- the variables of a line are open; and below top, with payloads that fit
abbrev pub OpenLine : Substitution → Line → Type 0
OpenLine bs (is_sort k x) = Open bs x
OpenLine bs (lacks a x) = Open bs x
OpenLine bs (not_all cs) = Throughout (λ x t. Open bs x × Vars (Open bs) t) cs

abbrev pub LineIn : ℕ → Line → Type 0
LineIn top (is_sort k x) = x < top
LineIn top (lacks a x) = TagGood a × (x < top)
LineIn top (not_all cs) = In top cs

value_open : (β : Assignment) (bs : Substitution) (t : Term) → Vars (Open bs) t → value (complete β bs) t ≡ value β t
value_open β bs t h = value_complete β bs t ∙ ap (value β) (resolve_opened bs t h)

equal_open : (β : Assignment) (bs cs : Substitution) → Throughout (λ x t. Open bs x × Vars (Open bs) t) cs → Sat (complete β bs) cs → Sat β cs
equal_open β bs [] o h = tt
equal_open β bs (c ∷ cs) o h = (sym (complete_open β bs c.0 o.0.0) ∙ h.0 ∙ value_open β bs c.1 o.0.1, equal_open β bs cs o.1 h.1)

-- completing an assignment to the bound variables changes nothing for a line
pub met_open : (β : Assignment) (bs : Substitution) (l : Line) → OpenLine bs l → Met β l → Met (complete β bs) l
met_open β bs (is_sort k x) o h = rw (complete_open β bs x o) h
met_open β bs (lacks a x) o h = rw (complete_open β bs x o) h
met_open β bs (not_all cs) o h = λ q. h (equal_open β bs cs o q)

pub all_met_open : (β : Assignment) (bs : Substitution) (ls : List Line) → Each (OpenLine bs) ls → Each (Met β) ls → Each (Met (complete β bs)) ls
all_met_open β bs [] o h = tt
all_met_open β bs (l ∷ ls) o h = (met_open β bs l o.0 h.0, all_met_open β bs ls o.1 h.1)

-- What is asked of a constraint that a path keeps: not all assignments of the path fail it, with a sort for each variable and the tags in a list.

abbrev pub SortMay : (ℕ → Sort) → Sort → Term → Type 0
SortMay kind k (var x) = kind x ≡ k
SortMay kind k (atom a) = OfSort k (leaf a)
SortMay kind k (pair s t) = ⊥

abbrev pub MayMeet : Substitution → (ℕ → Sort) → List ℕ → Constraint → Type 0
MayMeet bs kind tags (differ s t) = Unforced bs s t
MayMeet bs kind tags (typed k t) = SortMay kind k (walk bs t)
MayMeet bs kind tags (absento a t) = (some_node (is_atom a) (resolve bs t) ≡ false) × Among tags (atom_payload a)

pub record Listing (top : ℕ) (bs : Substitution) (kind : ℕ → Sort) (tags : List ℕ) (cs : List Constraint) (ls : List Line) : Type 0 where
  pub down : (α : Assignment) → Sat α bs → Each (Meets α) cs → Each (Met α) ls
  pub up : (α : Assignment) → Sat α bs → Each (Met α) ls → Each (Meets α) cs
  pub opens : Each (OpenLine bs) ls
  pub ready : Each (LineGood kind tags) ls
  pub scope : Each (LineIn top) ls
  pub few : differs_in ls ≤ length cs

-- lists of variables by first appearance

each_member : (P : ℕ → Type 0) (x : ℕ) (s : List ℕ) → member x s ≡ true → Each P s → P x
each_member P x [] e h = clash (cc)
each_member P x (y ∷ ys) e h = ⊎_elim (λ r. subst P (sym (eqb-true x y r)) h.0) (λ r. each_member P x ys r h.1) (one_of (eqb x y) (member x ys) e)

appear_each : (P : ℕ → Type 0) (s : List ℕ) (t : Term) → Each P (appear s t) ↔ (Each P s × Vars P t)
appear_each P s (var x) = go (member x s) refl
  where
    go : (b : Bool) → member x s ≡ b → Each P (choose b (λ _. s) (λ _. s ++ (x ∷ []))) ↔ (Each P s × P x)
    go true e = (λ k. (k, each_member P x s e k), λ k. k.0)
    go false e = let j = each_append P s (x ∷ []) in (λ k. ((j.0 k).0, (j.0 k).1.0), λ k. j.1 (k.0, (k.1, tt)))
appear_each P s (atom a) = (λ k. (k, tt), λ k. k.0)
appear_each P s (pair t u) =
    let i = appear_each P s t in let j = appear_each P (appear s t) u in
    (λ k. let p = j.0 k in let q = i.0 p.0 in (q.0, (q.1, p.1)), λ k. j.1 (i.1 (k.0, k.1.0), k.1.1))

lacks_each_each : (P : Line → Type 0) (a : Atom) (xs : List ℕ) → Each P (lacks_each a xs) ↔ Each (λ x. P (lacks a x)) xs
lacks_each_each P a [] = (λ h. h, λ h. h)
lacks_each_each P a (x ∷ xs) = let k = lacks_each_each P a xs in (λ h. (h.0, k.0 h.1), λ h. (h.0, k.1 h.1))

lacks_each_differs : (a : Atom) (xs : List ℕ) → differs_in (lacks_each a xs) ≡ 0
lacks_each_differs a [] = refl
lacks_each_differs a (x ∷ xs) = lacks_each_differs a xs

each_all : (P : ℕ → Type 0) (xs : List ℕ) → ((x : ℕ) → P x) → Each P xs
each_all P [] f = tt
each_all P (x ∷ xs) f = (f x, each_all P xs f)

right_each : (P : ℕ × Term → Type 0) (bs : Substitution) (cs : List (ℕ × Term)) → Each P (resolve_right bs cs) ↔ Each (λ c. P (c.0, resolve bs c.1)) cs
right_each P bs [] = (λ h. h, λ h. h)
right_each P bs (c ∷ cs) = let k = right_each P bs cs in (λ h. (h.0, k.0 h.1), λ h. (h.0, k.1 h.1))

differs_append : (ls ms : List Line) → differs_in (ls ++ ms) ≡ differs_in ls + differs_in ms
differs_append [] ms = omega arith
differs_append (is_sort k x ∷ ls) ms = differs_append ls ms
differs_append (lacks a x ∷ ls) ms = differs_append ls ms
differs_append (not_all es ∷ ls) ms = let e = differs_append ls ms in omega arith

module _ (top : ℕ) (low : top ≤ 2048) (bs : Substitution) (good : Good bs) (scope : In top bs) (kind : ℕ → Sort) (tags : List ℕ) where
  abbrev Lists : Constraint → List Line → Type 0
  Lists c ls = Listing top bs kind tags (c ∷ []) ls

  -- a type
  typed_listing : (k : Sort) (t f : Term) → walk bs t ≡ f → Seen bs (resolve bs t) f → TermIn top f → SortMay kind k f → Lists (typed k t) (typed_lines k f)
  typed_listing k t (var x) e seen i may = record {
    down = λ α h m. (subst (OfSort k) (sym (value_walk α bs h t) ∙ ap (value α) e) m.0, tt);
    up = λ α h m. (subst (OfSort k) (sym (ap (value α) e) ∙ value_walk α bs h t) m.0, tt);
    opens = (seen.0, tt);
    ready = (may, tt);
    scope = (i, tt);
    few = omega arith;
  }
  typed_listing k t (atom a) e seen i may = record {
    down = λ α h m. tt;
    up = λ α h m. (subst (OfSort k) (sym (ap (value α) e) ∙ value_walk α bs h t) may, tt);
    opens = tt;
    ready = tt;
    scope = tt;
    few = omega arith;
  }
  typed_listing k t (pair u v) e seen i may = absurd may

  -- absento
  absento_listing : (a : Atom) (t : Term) → TagGood a → TermIn top t → MayMeet bs kind tags (absento a t) → Lists (absento a t) (lacks_each a (appear [] (resolve bs t)))
  absento_listing a t tag i may = record {
    down = λ α h m. (lacks_each_each (Met α) a xs).1 ((appear_each (λ x. Lacks a (α x)) [] T).1 (tt, ((lacks_term α a T).0 (subst (Lacks a) (sym (value_resolve α bs h t)) m.0)).1));
    up = λ α h m. (subst (Lacks a) (value_resolve α bs h t) ((lacks_term α a T).1 (may.0, ((appear_each (λ x. Lacks a (α x)) [] T).0 ((lacks_each_each (Met α) a xs).0 m)).1)), tt);
    opens = (lacks_each_each (OpenLine bs) a xs).1 ((appear_each (Open bs) [] T).1 (tt, resolve_opens bs good t));
    ready = (lacks_each_each (LineGood kind tags) a xs).1 (each_all _ xs (λ x. may.1));
    scope = (lacks_each_each (LineIn top) a xs).1 (each_map (λ x h. (tag, h)) xs ((appear_each (λ x. x < top) [] T).1 (tt, vars_below top T (resolve_in top bs scope t i))));
    few = let e = lacks_each_differs a xs in omega arith;
  }
    where
      T : Term
      T = resolve bs t

      xs : List ℕ
      xs = appear [] T

  -- differ

  -- a variable that the newer bindings leave alone
  still_var : (new : Substitution) (x : ℕ) (t : Term) → Open (new ++ bs) x → resolve bs t ≡ var x → resolve (new ++ bs) t ≡ var x
  still_var [] x t o e = e
  still_var (b ∷ new) x t o e =
      let h = open_tail b.0 b.1 (new ++ bs) x o in
      ap (replace b.0 (resolve (new ++ bs) b.1)) (still_var new x t h.1 e) ∙ replace_other b.0 (resolve (new ++ bs) b.1) x h.0

  open_old : (new : Substitution) (x : ℕ) → Open (new ++ bs) x → Open bs x
  open_old [] x o = o
  open_old (b ∷ new) x o = open_old new x (open_tail b.0 b.1 (new ++ bs) x o).1

  -- what unification has bound was open, and is not bound to itself
  new_open : (new : Substitution) → Good (new ++ bs) → Throughout (λ x t. Open bs x × ¬ (resolve bs t ≡ var x)) new
  new_open [] g = tt
  new_open (b ∷ new) g =
      let f = g.1 in
      ((open_old new b.0 f.opens, λ e. subst (Without b.0) (still_var new b.0 b.1 f.opens e) f.acyclic refl), new_open new g.0)

  fit_of : (x : ℕ) (t : Term) → x < top → TermIn top t → ¬ (t ≡ var x) → Fit 2048 x t
  fit_of x (var y) h k n = (omega arith, omega arith, λ e. n (ap var (sym e)))
  fit_of x (atom a) h k n = tt
  fit_of x (pair s t) h k n = tt

  fits_of : (ns : Substitution) → In top ns → Throughout (λ x t. Open bs x × ¬ (resolve bs t ≡ var x)) ns → Each (λ b. Fit 2048 b.0 (resolve bs b.1)) ns
  fits_of [] i o = tt
  fits_of (n ∷ ns) i o = (fit_of n.0 (resolve bs n.1) i.0.0 (resolve_in top bs scope n.1 i.0.1) o.0.1, fits_of ns i.1 o.1)

  good_not_all : (es : List (ℕ × Term)) → ¬ (es ≡ []) → Each (λ b. Fit 2048 b.0 b.1) es → LineGood kind tags (not_all es)
  good_not_all [] n h = n refl
  good_not_all (e ∷ es) n h = h

  right_nil : (cs : List (ℕ × Term)) → resolve_right bs cs ≡ [] → cs ≡ []
  right_nil [] e = refl
  right_nil (c ∷ cs) e = clash (cc)

  pub differ_listing : (s t : Term) (bs' : Substitution) → TermIn top s → TermIn top t → Unifier top bs s t bs' → ¬ (length bs' ≡ length bs) →
      Lists (differ s t) (not_all (resolve_right bs (trial_bindings bs bs')) ∷ [])
  differ_listing s t bs' i j u news = record {
    down = λ α h m. ((λ q. m.0 ((trial_ok u α h).0 q)), tt);
    up = λ α h m. ((λ q. m.0 ((trial_ok u α h).1 q)), tt);
    opens = (of_new (λ c. Open bs c.0 × Vars (Open bs) c.1) (each_map (λ b o. (o.0, resolve_opens bs good b.1)) new fresh), tt);
    ready = (good_not_all es some_es (of_new (λ c. Fit 2048 c.0 c.1) (fits_of new in_new fresh)), tt);
    scope = (of_new (λ c. (c.0 < top) × TermIn top c.1) (each_map (λ b h. (h.0, resolve_in top bs scope b.1 h.1)) new in_new), tt);
    few = omega arith;
  }
    where
      new : Substitution
      new = u.new

      es : List (ℕ × Term)
      es = resolve_right bs (trial_bindings bs bs')

      fresh : Throughout (λ x t. Open bs x × ¬ (resolve bs t ≡ var x)) new
      fresh = new_open new (subst Good u.grows u.good)

      in_new : In top new
      in_new = ((each_append _ new bs).0 (subst (In top) u.grows (u.scope scope i j))).0

      of_new : (P : ℕ × Term → Type 0) → Each (λ b. P (b.0, resolve bs b.1)) new → Each P es
      of_new P h = (right_each P bs (trial_bindings bs bs')).1 (subst (Each (λ b. P (b.0, resolve bs b.1))) (sym (trial_new u)) ((each_reverse (λ b. P (b.0, resolve bs b.1)) new []).1 (h, tt)))

      some_es : ¬ (es ≡ [])
      some_es e = news (ap length u.grows ∙ ap (λ (ns : Substitution). length (ns ++ bs)) (sym (reverse-reverse new) ∙ ap reverse (sym (trial_new u) ∙ right_nil (trial_bindings bs bs') e)))

  differ_none : (s t : Term) → ((α : Assignment) → Sat α bs → ¬ (value α s ≡ value α t)) → Lists (differ s t) []
  differ_none s t n = record { down = λ α h m. tt; up = λ α h m. (n α h, tt); opens = tt; ready = tt; scope = tt; few = omega arith }

  -- a disequality that is not forced to fail needs a binding
  needs : (s t : Term) (bs' : Substitution) → Unforced bs s t → Unifier top bs s t bs' → ¬ (length bs' ≡ length bs)
  needs s t bs' may u e = may (no_news u e)

  trial_listing : (s t : Term) → TermIn top s → TermIn top t → Unforced bs s t → (steps l : ℕ) (r : Option Substitution) → unify_terms bs s t steps ≡ done r l →
      (l' : ℕ) (ls : List Line) → trial_lines bs r l ≡ done ls l' → Lists (differ s t) ls
  trial_listing s t i j may steps l none q l' ls e = subst (Lists (differ s t)) (done_value [] ls l l' e) (differ_none s t (unify_none steps bs good s t steps l q))
  trial_listing s t i j may steps l (some bs') q l' ls e =
      let u = unify_some top steps bs good s t steps bs' l q in
      let p = through (look_through bs (map (λ (b : ℕ × Term). b.1) (trial_bindings bs bs')) l) _ ls l' e in
      subst (Lists (differ s t)) (done_value _ ls p.left l' p.second) (differ_listing s t bs' i j u (needs s t bs' may u))

  lines_listing : (c : Constraint) → ConstraintIn top c → MayMeet bs kind tags c → (steps l : ℕ) (ls : List Line) → lines_of bs c steps ≡ done ls l → Lists c ls
  lines_listing (differ s t) i may steps l ls e =
      let p = through (unify_terms bs s t steps) _ ls l e in trial_listing s t i.0 i.1 may steps p.left p.value p.first l ls p.second
  lines_listing (typed k t) i may steps l ls e =
      let p = through (scan never bs [] t steps) _ ls l e in
      subst (Lists (typed k t)) (done_value _ ls p.left l p.second) (typed_listing k t (walk bs t) refl (walk_seen bs good t) (walk_in top bs scope t i) may)
  lines_listing (absento a t) i may steps l ls e =
      let p = through (scan never bs [] t steps) _ ls l e in
      subst (Lists (absento a t)) (done_value _ ls p.left l p.second) (absento_listing a t i.0 i.1 may)

  join_listing : (c : Constraint) (cs : List Constraint) (ls ms : List Line) → Lists c ls → Listing top bs kind tags cs ms → Listing top bs kind tags (c ∷ cs) (ls ++ ms)
  join_listing c cs ls ms p q = record {
    down = λ α h m. (each_append (Met α) ls ms).1 (p.down α h (m.0, tt), q.down α h m.1);
    up = λ α h m. let k = (each_append (Met α) ls ms).0 m in ((p.up α h k.0).0, q.up α h k.1);
    opens = (each_append (OpenLine bs) ls ms).1 (p.opens, q.opens);
    ready = (each_append (LineGood kind tags) ls ms).1 (p.ready, q.ready);
    scope = (each_append (LineIn top) ls ms).1 (p.scope, q.scope);
    few = let e = differs_append ls ms in let a = p.few in let b = q.few in omega arith;
  }

  pub all_listing : (cs : List Constraint) → Each (ConstraintIn top) cs → Each (MayMeet bs kind tags) cs → (steps l : ℕ) (ls : List Line) → all_lines bs cs steps ≡ done ls l → Listing top bs kind tags cs ls
  all_listing [] i may steps l ls e = subst (Listing top bs kind tags []) (done_value [] ls steps l e) (record { down = λ α h m. tt; up = λ α h m. tt; opens = tt; ready = tt; scope = tt; few = omega arith })
  all_listing (c ∷ cs) i may steps l ls e =
      let p = through (lines_of bs c steps) _ ls l e in let q = through (all_lines bs cs p.left) _ ls l p.second in
      subst (Listing top bs kind tags (c ∷ cs)) (done_value _ ls q.left l q.second)
      (join_listing c cs p.value q.value (lines_listing c i.0 may.0 steps p.left p.value p.first) (all_listing cs i.1 may.1 p.left q.left q.value q.first))
