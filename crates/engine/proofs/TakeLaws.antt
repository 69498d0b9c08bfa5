-- Which goal a reference stands for, by the kind of its word; and the goal's own step.
use Prim.Native.Nat.{ℕ, zero, suc, ◌-◌, ◌<◌}
use mathlib.Core.Path.{◌≡◌, refl, sym, ap, subst, ◌∙◌}
use mathlib.Core.List.{List}
use native.Mathlib.Omega.{arith}
use Rattle.word.specs.Kind.{kind_number}
use Rattle.word.specs.declared.kind.Kind.{Kind}
use Rattle.word.specs.declared.kind.Kind.TheVariants.{Equal, Conjunction, Disjunction, Call}
use Rattle.word.proofs.KindLaws.{kind_number_other}
use Rattle.rules.specs.Syntax.{Term, Constraint, differ, typed, absento, Goal, Goals, equal, constrain, conj, disj, call, Program}
use Rattle.rules.specs.Reading.{kind_at}
use Rattle.semantics.specs.Steps.{Outcome, step}
use Rattle.semantics.specs.Path.{Task, Path, ChoicePoint, taken, take_goal}
use Rattle.engine.specs.Reference.{GoalAt, pos_of, TaskAt}
use Rattle.engine.specs.Walk.{PartRead}
use Rattle.engine.specs.Steps.{no_steps}
use Rattle.engine.specs.Take.{GoalReady, Due, TookAs, with_counts}
use Rattle.engine.specs.declared.search.state.State.{State}
use Rattle.engine.specs.declared.search.state.Way.TheVariants.{Stops}
use Rattle.engine.specs.declared.search.state.Took.{Took}
use Rattle.engine.proofs.ReferenceLaws.{sort_low}
use Rattle.engine.proofs.TookLaws.{took_stops}

-- a goal by the kind of its word
pub data OfKind : ℕ → Goal → Type 0 where
  equals : {s t : Term} → OfKind 5 (equal s t)
  constrains : {k : ℕ} {c : Constraint} → 5 < k → k < 10 → OfKind k (constrain c)
  joins : {gs : Goals} → OfKind 10 (conj gs)
  chooses : {gs : Goals} → OfKind 11 (disj gs)
  calls : {r : ℕ} {ts : List Term} → OfKind 12 (call r ts)

kind_goal : (ws : List ℕ) (pos : ℕ) (g : Goal) → GoalAt ws pos g → OfKind (kind_at ws pos) g
kind_goal ws pos (equal s t) h = rw h.0 equals
kind_goal ws pos (constrain (differ s t)) h = constrains {k = kind_at ws pos} (omega (arith, h.0)) (omega (arith, h.0))
kind_goal ws pos (constrain (typed k t)) h = constrains {k = kind_at ws pos} (omega (arith, h.0, (sort_low k).0)) (omega (arith, h.0, (sort_low k).1))
kind_goal ws pos (constrain (absento a t)) h = constrains {k = kind_at ws pos} (omega (arith, h.0)) (omega (arith, h.0))
kind_goal ws pos (conj gs) h = rw h.0 joins
kind_goal ws pos (disj gs) h = rw h.0 chooses
kind_goal ws pos (call r ts) h = rw h.0 calls

pub of_kind : {ws : List ℕ} {w b n : ℕ} {task : Task} (k m : Kind) → TaskAt ws w task → PartRead ws w b (kind_number k) n → k ≡ m → OfKind (kind_number m) task.1
of_kind {ws} {w} {task = task} k m t node e = subst (λ x. OfKind x task.1) (sym node.is_kind ∙ ap kind_number e) (kind_goal ws (pos_of w) task.1 t.goal)

pub is_equal : {g : Goal} → OfKind 5 g → (s : Term) × (t : Term) × (g ≡ equal s t)
is_equal (equals {s} {t}) = (s, t, refl)
is_equal (constrains lo hi) = absurd (omega arith)

pub is_conj : {g : Goal} → OfKind 10 g → (gs : Goals) × (g ≡ conj gs)
is_conj (joins {gs}) = (gs, refl)
is_conj (constrains lo hi) = absurd (omega arith)

pub is_disj : {g : Goal} → OfKind 11 g → (gs : Goals) × (g ≡ disj gs)
is_disj (chooses {gs}) = (gs, refl)
is_disj (constrains lo hi) = absurd (omega arith)

pub is_call : {g : Goal} → OfKind 12 g → (r : ℕ) × (ts : List Term) × (g ≡ call r ts)
is_call (calls {r} {ts}) = (r, ts, refl)
is_call (constrains lo hi) = absurd (omega arith)

pub is_constraint : {g : Goal} (k : Kind) → OfKind (kind_number k) g → ¬ (k ≡ Equal) → ¬ (k ≡ Conjunction) → ¬ (k ≡ Disjunction) → ¬ (k ≡ Call) → (c : Constraint) × (g ≡ constrain c)
is_constraint k o e f h i = go o (kind_number_other k Equal e) (kind_number_other k Conjunction f) (kind_number_other k Disjunction h) (kind_number_other k Call i)
  where
    go : {n : ℕ} {x : Goal} → OfKind n x → ¬ (n ≡ 5) → ¬ (n ≡ 10) → ¬ (n ≡ 11) → ¬ (n ≡ 12) → (c : Constraint) × (x ≡ constrain c)
    go (constrains {k} {c} lo hi) e f h i = (c, refl)
    go equals e f h i = absurd (e refl)
    go joins e f h i = absurd (f refl)
    go chooses e f h i = absurd (h refl)
    go calls e f h i = absurd (i refl)

-- no step is left
pub take_none : (P : Program) (ws s : List ℕ) (p : Path) (cs : List ChoicePoint) (round left : ℕ) (task : Task) (st : State) → left ≡ 0 → TookAs P ws s cs (take_goal round P p cs task.0 task.1 left) (Stops no_steps) st
take_none P ws s p cs round left task st e = took_stops p (rw e refl)

step_is : {A : Type 0} (left : ℕ) (go : ℕ → Outcome A) → (left ≡ 0 → ⊥) → step left go ≡ go (left - 1)
step_is zero go n = absurd (n refl)
step_is (suc left) go n = let e : suc left - 1 ≡ left = omega arith in ap go (sym e)

module _ {P : Program} {ws s : List ℕ} {st : State} {w : ℕ} {p : Path} {cs : List ChoicePoint} {task : Task} (d : Due P ws s st w p cs task) (some_left : st.steps ≡ 0 → ⊥)
    {st' : State} (is_st : st' ≡ with_counts st st.trail st.constraints (st.steps - 1)) {g : Goal} (is : task.1 ≡ g) where
  -- what the goal's function asks for
  pub taking : st.steps < 4294967296 → GoalReady P ws s st' w p cs (task.0, g)
  taking fits = rw is_st (subst (λ g. GoalReady P ws s (with_counts st st.trail st.constraints (st.steps - 1)) w p cs (task.0, g)) is (record {
    taking = record { stored = d.stored; task_at = d.task_at; step_taken = omega (arith, some_left) };
    short = d.short;
    program_in = d.program_in;
    sound = d.sound;
    task_in = d.task_in;
  }))

  -- what it says is what the definition says, its step taken
  pub taken_as : (round : ℕ) (s' : List ℕ) (r : Took) → TookAs P ws s' cs (taken round P p cs task.0 g st'.steps) r.way r.state → TookAs P ws s' cs (take_goal round P p cs task.0 task.1 st.steps) r.way r.state
  taken_as round s' r h =
      let left_is : st'.steps ≡ st.steps - 1 = ap (λ x. x.steps) is_st in
      subst (λ o. TookAs P ws s' cs o r.way r.state) (sym (step_is st.steps (λ l. taken round P p cs task.0 task.1 l) some_left))
      (subst (λ x. TookAs P ws s' cs (taken round P p cs task.0 x (st.steps - 1)) r.way r.state) (sym is) (subst (λ l. TookAs P ws s' cs (taken round P p cs task.0 g l) r.way r.state) left_is h))
