-- Taking a conjunction, as the code does it: one law for each way in which `take_conj` returns or goes on.
use Prim.Native.Nat.{ℕ, ◌+◌, ◌≤◌, ◌<◌}
use mathlib.Core.Path.{◌≡◌, refl, sym, ap, subst, ◌∙◌}
use mathlib.Core.Bool.{true, false}
use mathlib.Core.List.{List}
use native.Mathlib.Omega.{arith}
use lib.Dec.{leb}
use lib.ListN.{set}
use borrow.Author.Tests.{le-leb, lt-leb}
use Rattle.rules.specs.Syntax.{Goals, conj, Program}
use Rattle.semantics.specs.Path.{Path, ChoicePoint, goals_count, take_conj, waiting_on, wait_all}
use Rattle.engine.specs.Reference.{pos_of, RestAt}
use Rattle.engine.specs.Memory.{goal_at, Stored, cell}
use Rattle.engine.specs.Walk.{PartRead}
use Rattle.engine.specs.Take.{Taking, TookAs, took_stopped}
use Rattle.engine.specs.declared.search.state.State.{State}
use Rattle.engine.specs.declared.search.state.Took.{Took}
use Rattle.engine.specs.declared.report.Bound.TheVariants.{Goals as GoalsBound}
use Rattle.engine.specs.declared.search.state.Way.TheVariants.{Goes}
use Rattle.engine.proofs.TookLaws.{took_goes, took_at}
use Rattle.engine.proofs.GoalLaws.{conj_rest}
use Rattle.engine.proofs.ConjLaws.{Lining, lining_start, lining_full, lining_last, lining_more, conj_all, Rowed}

-- the two stores of a cell as the code writes them
pub cell_stores : (s : List ℕ) (h w next : ℕ) → set (set s (goal_at h) w) (goal_at h + 1) next ≡ cell s h w next
cell_stores s h w next = ap (λ i. set (set s (goal_at h) w) i next) (omega arith)

module _ {P : Program} {ws s₀ : List ℕ} {st : State} {w : ℕ} {p : Path} {cs : List ChoicePoint} {base : ℕ} {gs : Goals} (t : Taking P ws s₀ st w p cs (base, conj gs)) where
  conj_goals : {b k n to : ℕ} → PartRead ws w b k n → to ≡ pos_of w + 1 + n → RestAt ws (w + 1) to base gs
  conj_goals i is-to = subst (λ z. RestAt ws (w + 1) z base gs) (sym (is-to ∙ ap (λ z. pos_of w + 1 + z) i.is_payload)) (conj_rest ws w base gs t.task_at).1

  pub conj_starts : {b k n to : ℕ} → PartRead ws w b k n → to ≡ pos_of w + 1 + n → Lining ws s₀ s₀ st.goals st.head (w + 1) to base gs (w + 1) st.goals
  conj_starts i is-to = lining_start ws s₀ st.goals st.head (w + 1) _ base gs (conj_goals i is-to) t.stored.roomy.put t.stored.roomy.long

  pub conj_stops : {s : List ℕ} {to goal filled : ℕ} {r : Took} (s' : List ℕ) → Lining ws s₀ s st.goals st.head (w + 1) to base gs goal filled → 1024 ≤ filled → r ≡ took_stopped GoalsBound st
      → TookAs P ws s' cs (take_conj p cs base gs st.steps) r.way r.state
  conj_stops {s} {to} {goal} {filled} s' l full q =
      let e : st.goals ≡ p.put = t.stored.path_in.put in
      let f : leb (p.put + goals_count gs) 1024 ≡ false = lt-leb (p.put + goals_count gs) 1024 (omega (arith, lining_full ws s₀ s st.goals st.head (w + 1) to base gs goal filled l full)) in
      took_at p q (rw f refl)

  pub conj_goes : {s : List ℕ} {b k n to goal filled c l m here : ℕ} → PartRead ws w b k n → to ≡ pos_of w + 1 + n → Lining ws s₀ s st.goals st.head (w + 1) to base gs goal filled → filled < 1024
      → PartRead ws goal c l m → here ≡ pos_of goal + 1 + m → here ≡ to
      → TookAs P ws (set (set s (goal_at (filled + 1)) goal) (goal_at (filled + 1) + 1) st.head) cs (take_conj p cs base gs st.steps)
      Goes (record { head = st.goals + 1; trail = st.trail; variables = st.variables; goals = filled + 1; constraints = st.constraints; calls = st.calls; choices = st.choices; steps = st.steps })
  conj_goes {s} {to = to} {goal = goal} {filled = filled} i is-to li lt j is-here e =
      let put_is : st.goals ≡ p.put = t.stored.path_in.put in
      let r = lining_last ws s₀ s st.goals st.head (w + 1) to base gs goal filled li lt (omega (arith, e, is-here, j.is_payload)) in
      let few : st.goals + goals_count gs ≤ 1024 = omega (arith, r.1) in
      let f : leb (p.put + goals_count gs) 1024 ≡ true = le-leb (p.put + goals_count gs) 1024 (omega arith) in
      let rowed : Rowed ws s₀ (cell s (filled + 1) goal st.head) st.goals (w + 1) st.head gs = r.0 in
      let h = conj_all base gs (w + 1) to (cell s (filled + 1) goal st.head) few (conj_goals i is-to) rowed t.stored in
      let g : Stored P ws (cell s (filled + 1) goal st.head) (record { head = st.goals + 1; trail = st.trail; variables = st.variables; goals = filled + 1; constraints = st.constraints; calls = st.calls }) st.choices (waiting_on p (wait_all base gs p.stack) (p.put + goals_count gs)) cs
      = subst (λ q. Stored P ws (cell s (filled + 1) goal st.head) (record { head = st.goals + 1; trail = st.trail; variables = st.variables; goals = q; constraints = st.constraints; calls = st.calls }) st.choices (waiting_on p (wait_all base gs p.stack) (p.put + goals_count gs)) cs) (sym r.1) h in
      rw (cell_stores s (filled + 1) goal st.head) (took_goes g (rw f refl))

  pub conj_on : {s : List ℕ} {to goal filled c l m here : ℕ} → Lining ws s₀ s st.goals st.head (w + 1) to base gs goal filled → filled < 1024 → PartRead ws goal c l m → here ≡ pos_of goal + 1 + m → (here ≡ to → ⊥)
      → Lining ws s₀ (set (set s (goal_at (filled + 1)) goal) (goal_at (filled + 1) + 1) (filled + 2)) st.goals st.head (w + 1) to base gs (goal + 1 + m) (filled + 1)
  conj_on {s} {to} {goal} {filled} {m = m} li lt j is-here n =
      let size : m ≡ _ = j.is_payload in
      subst (λ z. Lining ws s₀ (set (set s (goal_at (filled + 1)) goal) (goal_at (filled + 1) + 1) (filled + 2)) st.goals st.head (w + 1) to base gs (goal + 1 + z) (filled + 1)) (sym size)
      (rw (cell_stores s (filled + 1) goal (filled + 2)) (lining_more ws s₀ s st.goals st.head (w + 1) to base gs goal filled li lt (λ q. n (is-here ∙ ap (λ z. pos_of goal + 1 + z) size ∙ q))))
