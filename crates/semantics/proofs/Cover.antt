-- What a path with tasks covers, and what taking a goal does to it.
use Prim.Native.Nat.{◌+◌, ◌-◌, ◌≤◌, suc, ℕ}
use mathlib.Core.List.{List, [], ◌∷◌, map}
use mathlib.Core.Logic.{◌↔◌, ◌⊎◌, inl, inr, ⊎_elim}
use mathlib.Core.Option.{some-injective, some}
use mathlib.Core.Path.{◌∙◌, ◌≡◌, ap, ap₂, fun_ext, refl, subst, sym}
use native.Mathlib.Omega.{arith}
use lib.Dec.{ltb}
use lib.ListN.{get_elem?, length}
use borrow.Author.Tests.{ltb-false, ltb-true}
use Rattle.rules.specs.Reading.{choose}
use Rattle.rules.specs.Syntax.{Constraint, Goal, Goals, Program, Relation, Term, call, conj, constrain, disj, equal, more, one}
use Rattle.semantics.specs.Invariant.{GoalIn, GoalsIn, TasksIn, TermsIn}
use Rattle.semantics.specs.Logic.{All, AllProper, Any, Assignment, Holds, Meets, Proper, Tree, all_more, all_one, any_first, any_later, any_one, call_holds, conj_holds, constrain_holds, disj_holds, equal_holds, firsts, value}
use Rattle.semantics.specs.Path.{Task, bind_params, wait_all}
use Rattle.semantics.specs.Substitution.{Substitution}
use Rattle.semantics.proofs.Basics.{by_choose}
use Rattle.semantics.proofs.Narrow.{Solves}
use Rattle.semantics.proofs.Sound.{sat_params}
use Rattle.semantics.proofs.TermLaws.{Agree, firsts_local, from, meets_local, value_local, values_local}

-- Two assignments that near below v

module _ (P : Program) (v : ℕ) (α β : Assignment) (near : Agree v α β) where
  mutual
    pub holds_local : (g : Goal) (m : ℕ) → GoalIn P v g → Holds P α g m → Holds P β g m
    holds_local (equal s t) m i (equal_holds e) = equal_holds (sym (value_local v α β s near i.0) ∙ e ∙ value_local v α β t near i.1)
    holds_local (constrain c) m i (constrain_holds h) = constrain_holds (meets_local v α β c near i h)
    holds_local (conj gs) m i (conj_holds h) = conj_holds (all_local gs m i h)
    holds_local (disj gs) m i (disj_holds h) = disj_holds (any_local gs m i h)
    holds_local (call r ts) m i (call_holds R ρ is_R proper args h) = call_holds R ρ is_R proper (args ∙ values_local v α β ts near i.terms_in) h

    all_local : (gs : Goals) (m : ℕ) → GoalsIn P v gs → All P α gs m → All P β gs m
    all_local (one g) m i (all_one h) = all_one (holds_local g m i h)
    all_local (more g gs) m i (all_more {m = a} {n = b} h hs) = all_more (holds_local g a i.0 h) (all_local gs b i.1 hs)

    any_local : (gs : Goals) (m : ℕ) → GoalsIn P v gs → Any P α gs m → Any P β gs m
    any_local (one g) m i (any_one h) = any_one (holds_local g m i h)
    any_local (more g gs) m i (any_first h) = any_first (holds_local g m i.0 h)
    any_local (more g gs) m i (any_later h) = any_later (any_local gs m i.1 h)

-- Tasks

-- the tasks hold, with j calls in all
abbrev pub TasksHold : Program → Assignment → List Task → ℕ → Type 0
TasksHold P α [] j = j ≡ 0
TasksHold P α (task ∷ tasks) j = (a b : ℕ) × Holds P (from task.0 α) task.1 a × TasksHold P α tasks b × (a + b ≡ j)

tasks_local : (P : Program) (made : ℕ) (α β : Assignment) (tasks : List Task) (j : ℕ) → Agree made α β → TasksIn P made tasks → TasksHold P α tasks j → TasksHold P β tasks j
tasks_local P made α β [] j near i h = h
tasks_local P made α β (task ∷ tasks) j near i (a, b, h, hs, e) = (a, b, holds_local P i.0.0 (from task.0 α) (from task.0 β) (λ x l. near (task.0 + x) (omega (arith, i.0.1))) task.1 a i.0.2 h, tasks_local P made α β tasks b near i.1 hs, e)

pub tasks_more : (P : Program) (made extra : ℕ) (tasks : List Task) → TasksIn P made tasks → TasksIn P (made + extra) tasks
tasks_more P made extra [] i = tt
tasks_more P made extra (task ∷ tasks) i = ((i.0.0, omega (arith, i.0.1), i.0.2), tasks_more P made extra tasks i.1)

pub wait_in : (P : Program) (made base v : ℕ) (gs : Goals) (tasks : List Task) → base + v ≤ made → GoalsIn P v gs → TasksIn P made tasks → TasksIn P made (wait_all base gs tasks)
wait_in P made base v (one g) tasks h i is = ((v, h, i), is)
wait_in P made base v (more g gs) tasks h i is = ((v, h, i.0), wait_in P made base v gs tasks h i.1 is)

module _ {P : Program} {ρ : Assignment} where
  pub equal_inv : {s t : Term} {a : ℕ} → Holds P ρ (equal s t) a → (value ρ s ≡ value ρ t) × (a ≡ 0)
  equal_inv (equal_holds e) = (e, refl)

  pub constrain_inv : {c : Constraint} {a : ℕ} → Holds P ρ (constrain c) a → Meets ρ c × (a ≡ 0)
  constrain_inv (constrain_holds h) = (h, refl)

  conj_inv : {gs : Goals} {a : ℕ} → Holds P ρ (conj gs) a → All P ρ gs a
  conj_inv (conj_holds h) = h

  disj_inv : {gs : Goals} {a : ℕ} → Holds P ρ (disj gs) a → Any P ρ gs a
  disj_inv (disj_holds h) = h

  any_one_inv : {g : Goal} {a : ℕ} → Any P ρ (one g) a → Holds P ρ g a
  any_one_inv (any_one h) = h

  any_more_inv : {g : Goal} {gs : Goals} {a : ℕ} → Any P ρ (more g gs) a → Holds P ρ g a ⊎ Any P ρ gs a
  any_more_inv (any_first h) = inl h
  any_more_inv (any_later h) = inr h

  all_one_inv : {g : Goal} {a : ℕ} → All P ρ (one g) a → Holds P ρ g a
  all_one_inv (all_one h) = h

  all_more_inv : {g : Goal} {gs : Goals} {a : ℕ} → All P ρ (more g gs) a → (b c : ℕ) × Holds P ρ g b × All P ρ gs c × (b + c ≡ a)
  all_more_inv (all_more {m = b} {n = c} h hs) = (b, c, h, hs, refl)

-- what a call of R that holds rests on
pub record Called (P : Program) (ρ : Assignment) (R : Relation) (ts : List Term) (a : ℕ) : Type 0 where
  pub inner : Assignment
  pub calls : ℕ
  pub proper : AllProper inner
  pub given : firsts R.params inner ≡ map (value ρ) ts
  pub holds : Holds P inner R.body calls
  pub one_more : suc calls ≡ a

pub call_inv : {P : Program} {ρ : Assignment} {r : ℕ} {ts : List Term} {a : ℕ} (R : Relation) → get_elem? P r ≡ some R → Holds P ρ (call r ts) a → Called P ρ R ts a
call_inv {P} {ρ} {ts = ts} R e (call_holds {n = n} R' ρ' e' proper args h) = subst (λ (R : Relation). Called P ρ R ts (suc n)) (some-injective R' R (sym e' ∙ e)) (record { inner = ρ'; calls = n; proper = proper; given = args; holds = h; one_more = refl })

module _ (P : Program) (α : Assignment) (base : ℕ) (tasks : List Task) where
  wait_holds : (gs : Goals) (j : ℕ) → TasksHold P α ((base, conj gs) ∷ tasks) j ↔ TasksHold P α (wait_all base gs tasks) j
  wait_holds (one g) j = (λ (a, b, h, hs, q). (a, b, all_one_inv (conj_inv h), hs, q), λ (a, b, h, hs, q). (a, b, conj_holds (all_one h), hs, q))
  wait_holds (more g gs) j = (
    λ (a, b, h, hs, q). let (c, d, k, ks, e) = all_more_inv (conj_inv h) in (c, d + b, k, (wait_holds gs (d + b)).0 (d, b, conj_holds ks, hs, refl), omega arith),
    λ (a, b, h, hs, q). let (c, d, k, ks, e) = (wait_holds gs b).1 hs in (a + c, d, conj_holds (all_more h (conj_inv k)), ks, omega arith),
  )

-- New variables

-- α below made, and ρ from made on
graft : ℕ → Assignment → Assignment → Assignment
graft made α ρ x = choose (ltb x made) (λ _. α x) (λ _. ρ (x - made))

module _ (made : ℕ) (α ρ : Assignment) where
  graft_below : Agree made α (graft made α ρ)
  unfolding graft
  graft_below x l = by_choose (λ (t : Tree). α x ≡ t) (ltb x made) _ _ (λ e. refl) (λ e. absurd (omega (arith, ltb-false x made e)))

  graft_above : from made (graft made α ρ) ≡ ρ
  unfolding graft
  graft_above = fun_ext (λ x. by_choose (λ (t : Tree). t ≡ ρ x) (ltb (made + x) made) _ _ (λ e. absurd (omega (arith, ltb-true (made + x) made e))) (λ e. ap ρ (omega arith)))

  graft_proper : AllProper α → AllProper ρ → (x : ℕ) → Proper (graft made α ρ x)
  unfolding graft
  graft_proper f g x = by_choose Proper (ltb x made) _ _ (λ e. f x) (λ e. g (x - made))

-- for each tuple and number of calls
abbrev pub Meaning : Type 1
Meaning = List Tree → ℕ → Type 0

infix 1 ◌⇔◌
abbrev pub ◌⇔◌ : Meaning → Meaning → Type 0
M ⇔ N = (tuple : List Tree) (m : ℕ) → M tuple m ↔ N tuple m

infixr 2 ◌or◌
abbrev pub ◌or◌ : Meaning → Meaning → Meaning
(M or N) tuple m = M tuple m ⊎ N tuple m

-- the tuple, for some assignment that solves the path and under which its tasks hold, with m calls together with those made
pub record Covers (P : Program) (n : ℕ) (bs : Substitution) (kept : List Constraint) (calls : ℕ) (tasks : List Task) (tuple : List Tree) (m : ℕ) : Type 0 where
  pub assignment : Assignment
  pub solves : Solves bs kept assignment
  pub is_tuple : firsts n assignment ≡ tuple
  pub inner : ℕ
  pub hold : TasksHold P assignment tasks inner
  pub total : calls + inner ≡ m

module _ (P : Program) (n : ℕ) (bs : Substitution) (kept : List Constraint) (calls : ℕ) where
  -- other tasks, under the same assignment and with as many calls
  covers_with : {tasks : List Task} {tuple : List Tree} {m : ℕ} (tasks' : List Task) (c : Covers P n bs kept calls tasks tuple m) → TasksHold P c.assignment tasks' c.inner → Covers P n bs kept calls tasks' tuple m
  covers_with tasks' c h = record { assignment = c.assignment; solves = c.solves; is_tuple = c.is_tuple; inner = c.inner; hold = h; total = c.total }

  module _ (base : ℕ) (tasks : List Task) where
    pub covers_conj : (gs : Goals) → Covers P n bs kept calls ((base, conj gs) ∷ tasks) ⇔ Covers P n bs kept calls (wait_all base gs tasks)
    covers_conj gs tuple m = (λ c. covers_with (wait_all base gs tasks) c ((wait_holds P c.assignment base tasks gs c.inner).0 c.hold), λ c. covers_with ((base, conj gs) ∷ tasks) c ((wait_holds P c.assignment base tasks gs c.inner).1 c.hold))

    covers_front : (g g' : Goal) → ((ρ : Assignment) (a : ℕ) → Holds P ρ g a → Holds P ρ g' a) → (tuple : List Tree) (m : ℕ) → Covers P n bs kept calls ((base, g) ∷ tasks) tuple m → Covers P n bs kept calls ((base, g') ∷ tasks) tuple m
    covers_front g g' f tuple m c = let (a, b, h, hs, q) = c.hold in covers_with ((base, g') ∷ tasks) c (a, b, f (from base c.assignment) a h, hs, q)

    pub covers_disj_one : (g : Goal) → Covers P n bs kept calls ((base, disj (one g)) ∷ tasks) ⇔ Covers P n bs kept calls ((base, g) ∷ tasks)
    covers_disj_one g tuple m = (covers_front (disj (one g)) g (λ ρ a h. any_one_inv (disj_inv h)) tuple m, covers_front g (disj (one g)) (λ ρ a h. disj_holds (any_one h)) tuple m)

    pub covers_disj_more : (g : Goal) (gs : Goals) → Covers P n bs kept calls ((base, disj (more g gs)) ∷ tasks) ⇔ (Covers P n bs kept calls ((base, g) ∷ tasks) or Covers P n bs kept calls ((base, disj gs) ∷ tasks))
    covers_disj_more g gs tuple m = (
      λ c. let (a, b, h, hs, q) = c.hold in ⊎_elim (λ k. inl (covers_with ((base, g) ∷ tasks) c (a, b, k, hs, q))) (λ k. inr (covers_with ((base, disj gs) ∷ tasks) c (a, b, disj_holds k, hs, q))) (any_more_inv (disj_inv h)),
      ⊎_elim (covers_front g (disj (more g gs)) (λ ρ a h. disj_holds (any_first h)) tuple m) (covers_front (disj gs) (disj (more g gs)) (λ ρ a h. disj_holds (any_later (disj_inv h))) tuple m),
    )

    -- a goal that asks for Q and no call, and the path narrowed to Q
    pub covers_narrow : (g : Goal) (Q : Assignment → Type 0) (bs' : Substitution) (kept' : List Constraint) → ((α : Assignment) (a : ℕ) → Holds P (from base α) g a → Q α × (a ≡ 0)) →
        ((α : Assignment) → Q α → Holds P (from base α) g 0) → ((α : Assignment) → Solves bs' kept' α ↔ (Solves bs kept α × Q α)) → Covers P n bs kept calls ((base, g) ∷ tasks) ⇔ Covers P n bs' kept' calls tasks
    covers_narrow g Q bs' kept' f k e tuple m = (
      λ c. let α = c.assignment in let (a, b, h, hs, q) = c.hold in let (x, z) = f α a h in record { assignment = α; solves = (e α).1 (c.solves, x); is_tuple = c.is_tuple; inner = b; hold = hs; total = omega (arith, c.total) },
      λ c. let α = c.assignment in let (s, x) = (e α).0 c.solves in record { assignment = α; solves = s; is_tuple = c.is_tuple; inner = c.inner; hold = (0, c.inner, k α x, c.hold, omega arith); total = c.total },
    )

    -- a call that is made
    module _ (made v r : ℕ) (ts : List Term) (R : Relation) (is_R : get_elem? P r ≡ some R) (fits : length ts ≡ R.params) (ts_in : TermsIn v ts) (v_made : base + v ≤ made) (n_made : n ≤ made) (tasks_in : TasksIn P made tasks)
        (local : (α β : Assignment) → Agree made α β → AllProper β → Solves bs kept α → Solves bs kept β) where
      pub covers_call : Covers P n bs kept calls ((base, call r ts) ∷ tasks) ⇔ Covers P n (bind_params made base ts bs) kept (suc calls) ((made, R.body) ∷ tasks)
      covers_call tuple m = (
        λ c.
            let α = c.assignment in
            let (a, b, h, hs, q) = c.hold in
            let i = call_inv R is_R h in
            let β = graft made α i.inner in
            let below = graft_below made α i.inner in
            let above = graft_above made α i.inner in
            let solved = local α β below (graft_proper made α i.inner c.solves.proper i.proper) c.solves in
            let given : firsts (length ts) (from made β) ≡ map (value (from base β)) ts = ap₂ firsts fits above ∙ i.given ∙ values_local v (from base α) (from base β) ts (λ x l. below (base + x) (omega arith)) ts_in in
            record {
              assignment = β;
              solves = record { proper = solved.proper; sat = (sat_params β made base ts bs).1 (solved.sat, given); meets = solved.meets };
              is_tuple = sym (firsts_local n α β (λ x l. below x (omega arith))) ∙ c.is_tuple;
              inner = i.calls + b;
              hold = (i.calls, b, subst (λ (ρ : Assignment). Holds P ρ R.body i.calls) (sym above) i.holds, tasks_local P made α β tasks b below tasks_in hs, refl);
              total = omega (arith, c.total, i.one_more);
            },
        λ c.
            let α = c.assignment in
            let (a, b, h, hs, q) = c.hold in
            let s = (sat_params α made base ts bs).0 c.solves.sat in
            record {
              assignment = α;
              solves = record { proper = c.solves.proper; sat = s.0; meets = c.solves.meets };
              is_tuple = c.is_tuple;
              inner = suc a + b;
              hold = (suc a, b, call_holds R (from made α) is_R (λ x. c.solves.proper (made + x)) (ap (λ k. firsts k (from made α)) (sym fits) ∙ s.1) h, hs, refl);
              total = omega (arith, c.total);
            },
      )
