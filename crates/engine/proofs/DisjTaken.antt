-- Taking a disjunction, as the code does it: one law for each way in which `take_disj` returns.
use Prim.Native.Nat.{ℕ, suc, ◌+◌, ◌≤◌, ◌<◌}
use mathlib.Core.Path.{◌≡◌, refl, sym, ap, subst, ◌∙◌}
use mathlib.Core.Bool.{true, false}
use mathlib.Core.List.{List}
use native.Mathlib.Omega.{arith}
use lib.Dec.{leb}
use lib.ListN.{length}
use borrow.Author.Tests.{le-leb, lt-leb}
use Rattle.rules.specs.Syntax.{Goals, one, more, disj, Program}
use Rattle.semantics.specs.Path.{Path, ChoicePoint, take_disj}
use Rattle.engine.specs.Reference.{pos_of, RestAt}
use Rattle.engine.specs.Memory.{cell, point}
use Rattle.engine.specs.Walk.{PartRead}
use Rattle.engine.specs.Take.{registers, Taking, TookAs, took_stopped, one_goal_more, one_choice_more}
use Rattle.engine.specs.declared.search.state.State.{State}
use Rattle.engine.specs.declared.search.state.Took.{Took}
use Rattle.engine.specs.declared.report.Bound.TheVariants.{Goals as GoalsBound, Disjunctions}
use Rattle.engine.specs.declared.search.state.Way.TheVariants.{Goes}
use Rattle.engine.proofs.TookLaws.{took_goes, took_at}
use Rattle.engine.proofs.GoalLaws.{disj_rest, task_one, task_more}
use Rattle.engine.proofs.StepLaws.{disj_one, disj_more}
use Rattle.engine.proofs.ConjLaws.{next_goal}

module _ {P : Program} {ws s₀ : List ℕ} {st : State} {w : ℕ} {p : Path} {cs : List ChoicePoint} {base : ℕ} {gs : Goals} (t : Taking P ws s₀ st w p cs (base, disj gs)) where
  put_is : st.goals ≡ p.put
  put_is = t.stored.path_in.put

  first_goals : {b k n to : ℕ} → PartRead ws w b k n → to ≡ pos_of w + 1 + n → RestAt ws (w + 1) to base gs
  first_goals i is-to = subst (λ z. RestAt ws (w + 1) z base gs) (sym (is-to ∙ ap (λ z. pos_of w + 1 + z) i.is_payload)) (disj_rest ws w base gs t.task_at).1

  -- no goal fits any more
  pub disj_full : {r : Took} (s' : List ℕ) → 1024 ≤ st.goals → r ≡ took_stopped GoalsBound st → TookAs P ws s' cs (take_disj p cs base gs st.steps) r.way r.state
  disj_full {r} s' full q = go gs
    where
      f : leb (suc p.put) 1024 ≡ false
      f = lt-leb (suc p.put) 1024 (omega (arith, put_is))

      go : (us : Goals) → TookAs P ws s' cs (take_disj p cs base us st.steps) r.way r.state
      go (one g) = took_at p q (rw f refl)
      go (more g us) = took_at p q (rw f refl)

module _ {P : Program} {ws s₀ : List ℕ} {st : State} {w : ℕ} {p : Path} {cs : List ChoicePoint} {base : ℕ} where
  -- the first alternative is there
  pub disj_inside : {gs : Goals} {b k n : ℕ} → Taking P ws s₀ st w p cs (base, disj gs) → PartRead ws w b k n → pos_of (w + 1) < length ws
  disj_inside {gs} t i = (next_goal ws (w + 1) _ base gs (first_goals t i refl)).inside

  -- one alternative only
  pub disj_last : (gs : Goals) {b k n to c l m here : ℕ} {r : State} {s' : List ℕ} → Taking P ws s₀ st w p cs (base, disj gs) → PartRead ws w b k n → to ≡ pos_of w + 1 + n → st.goals < 1024
      → PartRead ws (w + 1) c l m → here ≡ pos_of (w + 1) + 1 + m → here ≡ to → r ≡ one_goal_more st → s' ≡ cell s₀ (st.goals + 1) (w + 1) st.head → TookAs P ws s' cs (take_disj p cs base gs st.steps) Goes r
  disj_last (one g) {to = to} t i is-to fits j is-here e q z =
      let f : leb (suc p.put) 1024 ≡ true = le-leb (suc p.put) 1024 (omega (arith, fits, put_is t)) in
      rw (q, z) (took_goes (disj_one base g (w + 1) to (omega (arith, fits)) (first_goals t i is-to) t.stored) (rw f refl))
  disj_last (more g us) {to = to} t i is-to fits j is-here e q z =
      absurd (omega (arith, e, is-here, j.is_payload, (task_more ws (w + 1) to base g us (first_goals t i is-to)).not_last))

  -- no choice point fits any more
  pub disj_many : (gs : Goals) {b k n to c l m here : ℕ} {r : Took} (s' : List ℕ) → Taking P ws s₀ st w p cs (base, disj gs) → PartRead ws w b k n → to ≡ pos_of w + 1 + n → st.goals < 1024
      → PartRead ws (w + 1) c l m → here ≡ pos_of (w + 1) + 1 + m → (here ≡ to → ⊥) → 256 ≤ st.choices → r ≡ took_stopped Disjunctions st → TookAs P ws s' cs (take_disj p cs base gs st.steps) r.way r.state
  disj_many (one g) {to = to} s' t i is-to fits j is-here e full q =
      absurd (e (is-here ∙ ap (λ z. pos_of (w + 1) + 1 + z) j.is_payload ∙ (task_one ws (w + 1) to base g (first_goals t i is-to)).0))
  disj_many (more g us) s' t i is-to fits j is-here e full q =
      let f : leb (suc p.put) 1024 ≡ true = le-leb (suc p.put) 1024 (omega (arith, fits, put_is t)) in
      let h : leb (suc (length cs)) 256 ≡ false = lt-leb (suc (length cs)) 256 (omega (arith, t.stored.choices_are)) in
      took_at p q (rw (f, h) refl)

  -- more than one, and room for a choice point
  pub disj_goes : (gs : Goals) {b k n to c l m here : ℕ} {pushed r : State} {s₁ s₂ : List ℕ} → Taking P ws s₀ st w p cs (base, disj gs) → PartRead ws w b k n → to ≡ pos_of w + 1 + n → st.goals < 1024
      → PartRead ws (w + 1) c l m → here ≡ pos_of (w + 1) + 1 + m → (here ≡ to → ⊥) → st.choices < 256
      → pushed ≡ one_choice_more st → s₁ ≡ point s₀ st.choices (w + 1 + 1 + m) to (registers st)
      → r ≡ one_goal_more pushed → s₂ ≡ cell s₁ (pushed.goals + 1) (w + 1) pushed.head → TookAs P ws s₂ cs (take_disj p cs base gs st.steps) Goes r
  disj_goes (one g) {to = to} t i is-to fits j is-here e few q z a b =
      absurd (e (is-here ∙ ap (λ z. pos_of (w + 1) + 1 + z) j.is_payload ∙ (task_one ws (w + 1) to base g (first_goals t i is-to)).0))
  disj_goes (more g us) {to = to} t i is-to fits j is-here e few q z a b =
      let f : leb (suc p.put) 1024 ≡ true = le-leb (suc p.put) 1024 (omega (arith, fits, put_is t)) in
      let h : leb (suc (length cs)) 256 ≡ true = le-leb (suc (length cs)) 256 (omega (arith, few, t.stored.choices_are)) in
      rw (b, a, z, q, j.is_payload) (took_goes (disj_more base g us (w + 1) to (omega (arith, fits)) (omega (arith, few)) (first_goals t i is-to) t.stored) (rw (f, h) refl))
