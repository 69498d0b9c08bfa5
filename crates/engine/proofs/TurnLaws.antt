-- A turn, as the code does it: one law for each way in which `leave_path`, `go_on` and `turn` return.
use Rattle.std.specs.Prelude.{Option, None, Some}
use Prim.Native.Nat.{ℕ, ◌≤◌}
use mathlib.Core.Path.{◌≡◌, refl, sym, ap, subst, ◌∙◌}
use mathlib.Core.Bool.{Bool, true, false}
use mathlib.Core.List.{List, [], ◌∷◌}
use native.Mathlib.Omega.{arith}
use lib.Dec.{eqb}
use borrow.Author.Tests.{eq-eqb, ne_eqb}
use Rattle.rules.specs.Syntax.{Program}
use Rattle.semantics.specs.Steps.{Outcome, done}
use Rattle.semantics.specs.Path.{Task, Path, ChoicePoint, Taken, goes, waiting_on}
use Rattle.semantics.specs.Answer.{answer}
use Rattle.semantics.specs.Substitution.{argument}
use Rattle.semantics.specs.Round as round
use Rattle.semantics.specs.Round.{Next, Tally, after, backtrack, give, go_on, once, spend, turn}
use Rattle.engine.specs.Reference.{at}
use Rattle.engine.specs.Memory.{goal_at, next_at, StackIn, Stored}
use Rattle.engine.specs.Take.{registers, PathHeld, took_says, TookHolds, TookAs, OverAs, ResumedAs, BacktrackAs}
use Rattle.engine.specs.Turn.{took_goal, tallied, NextAs, TurnedAs}
use Rattle.engine.specs.declared.search.state.State.{State}
use Rattle.engine.specs.declared.steps.Stopped.{Stopped}
use Rattle.engine.specs.declared.search.state.Way.{Way}
use Rattle.engine.specs.declared.search.state.Way.TheVariants as way
use Rattle.engine.specs.declared.search.state.Lead.{Lead}
use Rattle.engine.specs.declared.search.state.Lead.TheVariants.{Goal, Over, Answer, Stops}
use Rattle.engine.specs.declared.search.state.Turned.{Turned}
use Rattle.engine.proofs.ClaimLaws.{pop}

-- The path is left.

-- backtracking keeps the steps left, so the tally is the one that it was given
tally_left : (t : Tally) (l m : ℕ) (c : Bool) → m ≡ l → tallied t l c ≡ tallied t m c
tally_left t l m c e = ap (λ x. tallied t x c) (sym e)

module _ (P : Program) (n k : ℕ) (ws s : List ℕ) (st : State) (t : Tally) (o : Outcome Taken) (c : Bool) where
  pub left_over : (x : Next) {r : Option (State × ℕ)} → r ≡ None → BacktrackAs P ws s st (tallied t st.steps c) x r → NextAs P n k ws s t o x Over st c
  unfolding BacktrackAs NextAs
  left_over x e b = let q : OverAs P ws s st (tallied t st.steps c) x = rw e at b in (q.says, (q.path, q.held))

  pub left_goal : (x : Next) {r : Option (State × ℕ)} {next : State} {w : ℕ} → r ≡ Some (next, w) → BacktrackAs P ws s st (tallied t st.steps c) x r → NextAs P n k ws s t o x (Goal w) next c
  unfolding BacktrackAs NextAs
  left_goal x {next = next} {w = w} e b =
      let q : ResumedAs P ws s st (tallied t st.steps c) x next w = rw e at b in
      (record { task = q.task; path = q.path; choices = q.choices; tally = tallied t st.steps c }, q.says, q.task_at, q.held, tally_left t st.steps next.steps c q.left_is)

-- The path goes on.

-- its first cell is in the area
pub cell_there : {P : Program} {ws s : List ℕ} (st : State) {p : Path} {cs : List ChoicePoint} → PathHeld P ws s st p cs → (st.head ≡ 0 → ⊥) → st.head ≤ 1024
cell_there {P} {ws} {s} st {p} h e = go p.stack h.path_in.tasks
  where
    go : (ts : List Task) → StackIn ws s st.goals st.head ts → st.head ≤ 1024
    go [] q = absurd (e q)
    go (x ∷ xs) q = omega (arith, q.0.low, h.roomy.put)

module _ (P : Program) (n k : ℕ) (ws s : List ℕ) (st : State) (p : Path) (cs : List ChoicePoint) (t : Tally) (h : PathHeld P ws s st p cs) where
  abbrev pub goes_to : List ℕ → Lead → State → Bool → Type 0
  goes_to s' lead next c = NextAs P n k ws s' t (done (goes p cs) st.steps) (go_on (once argument) n k p p.stack cs (spend t st.steps)) lead next c

  no_stack : st.head ≡ 0 → p.stack ≡ []
  no_stack e = go p.stack h.path_in.tasks
    where
      go : (ts : List Task) → StackIn ws s st.goals st.head ts → ts ≡ []
      go [] q = refl
      go (x ∷ xs) q = absurd (omega (arith, q.0.is_cell))

  pub goes_answer : st.head ≡ 0 → st.calls ≡ k → goes_to s Answer st false
  unfolding NextAs
  goes_answer e f =
      let calls : p.calls ≡ k = sym h.path_in.calls ∙ f in
      let y : eqb p.calls k ≡ true = eq-eqb p.calls k calls in
      let x : go_on (once argument) n k p [] cs (spend t st.steps) ≡ give (once argument) n k cs (spend t st.steps) (answer p n st.steps) = rw y refl in
      (p, cs, ap (λ ts. go_on (once argument) n k p ts cs (spend t st.steps)) (no_stack e) ∙ x, h, no_stack e, calls, refl)

  pub goes_fewer : (s' : List ℕ) (r : Turned) → st.head ≡ 0 → (st.calls ≡ k → ⊥)
      → ((Q : Program) (m j : ℕ) (q : Path) (ds : List ChoicePoint) (u : Tally) (o : Outcome Taken) → PathHeld Q ws s st q ds → TurnedAs Q m j ws s' u o (backtrack ds (tallied u st.steps false)) r) → goes_to s' r.lead r.state r.cut
  goes_fewer s' r e f left =
      let y : eqb p.calls k ≡ false = ne_eqb p.calls k (λ q. f (h.path_in.calls ∙ q)) in
      let x : go_on (once argument) n k p [] cs (spend t st.steps) ≡ backtrack cs (spend t st.steps) = rw y refl in
      subst (λ z. TurnedAs P n k ws s' t (done (goes p cs) st.steps) z r) (sym (ap (λ ts. go_on (once argument) n k p ts cs (spend t st.steps)) (no_stack e) ∙ x)) (left P n k p cs t (done (goes p cs) st.steps) h)

  pub goes_goal : (st.head ≡ 0 → ⊥)
      → goes_to s (Goal (at s (goal_at st.head))) (record { head = at s (next_at st.head); trail = st.trail; variables = st.variables; goals = st.goals; constraints = st.constraints; calls = st.calls; choices = st.choices; steps = st.steps }) false
  unfolding NextAs
  goes_goal e = go p.stack refl
    where
      go : (ts : List Task) → p.stack ≡ ts → goes_to s (Goal (at s (goal_at st.head))) (record { head = at s (next_at st.head); trail = st.trail; variables = st.variables; goals = st.goals; constraints = st.constraints; calls = st.calls; choices = st.choices; steps = st.steps }) false
      go [] q = absurd (e (subst (StackIn ws s st.goals st.head) q h.path_in.tasks))
      go (x ∷ xs) q =
          let g : Stored P ws s (registers st) st.choices (waiting_on p (x ∷ xs) p.put) cs = subst (λ ts. Stored P ws s (registers st) st.choices (waiting_on p ts p.put) cs) q h in
          let o = pop p x xs g in
          (record { task = x; path = waiting_on p xs p.put; choices = cs; tally = spend t st.steps }, ap (λ ts. go_on (once argument) n k p ts cs (spend t st.steps)) q, o.1, o.2, refl)

-- The turn.

-- what the state holds when the goal was taken
module _ {P : Program} {ws s : List ℕ} {cs : List ChoicePoint} {o : Outcome Taken} {y : Way} {st : State} (b : TookAs P ws s cs o y st) where
  pub held_goes : y ≡ way.Goes → PathHeld P ws s st b.path b.choices
  unfolding TookHolds
  held_goes e = rw e at b.held

  pub held_left : y ≡ way.Leaves → PathHeld P ws s st b.path cs
  unfolding TookHolds
  held_left e = rw e at b.held

  pub held_cut : y ≡ way.Cut → PathHeld P ws s st b.path cs
  unfolding TookHolds
  held_cut e = rw e at b.held

module _ (P : Program) (n k : ℕ) (ws s s' : List ℕ) (state : round.State) (left : ℕ) (same : state.tally.left ≡ left) where
  abbrev pub turns_to : Turned → Type 0
  turns_to r = TurnedAs P n k ws s' state.tally (took_goal k P state left) (turn P n k state) r

  turn_is : {o : Outcome Taken} → (took_goal k P state left) ≡ o → turn P n k state ≡ after (once argument) n k state o
  turn_is e = ap (λ l. after (once argument) n k state (took_goal k P state l)) same ∙ ap (after (once argument) n k state) e

  module _ {y : Way} {st : State} (b : TookAs P ws s state.choices (took_goal k P state left) y st) where
    took_as : {z : Way} → y ≡ z → (took_goal k P state left) ≡ took_says b.path b.choices z st.steps
    took_as e = b.says ∙ ap (λ z. took_says b.path b.choices z st.steps) e

    pub turn_stops : {e : Stopped} (c : Bool) → y ≡ way.Stops e → turns_to (record { lead = Stops e; state = st; cut = c })
    unfolding took_says NextAs
    turn_stops c is = turn_is (took_as is)

    -- and what comes of it
    module _ (said : Turned) where
      abbrev Leaves_as : Bool → Type 0
      Leaves_as c = (Q : Program) (m j : ℕ) (q : Path) (ds : List ChoicePoint) (u : Tally) (o : Outcome Taken) → PathHeld Q ws s st q ds → TurnedAs Q m j ws s' u o (backtrack ds (tallied u st.steps c)) said

      leaves_to : (c : Bool) → turn P n k state ≡ backtrack state.choices (tallied state.tally st.steps c) → PathHeld P ws s st b.path state.choices → Leaves_as c → turns_to said
      leaves_to c q h f = subst (λ x. TurnedAs P n k ws s' state.tally (took_goal k P state left) x said) (sym q) (f P n k b.path state.choices state.tally (took_goal k P state left) h)

      pub turn_leaves : y ≡ way.Leaves → Leaves_as false → turns_to said
      unfolding took_says
      turn_leaves e = leaves_to false (turn_is (took_as e)) (held_left b e)

      pub turn_cuts : y ≡ way.Cut → Leaves_as true → turns_to said
      unfolding took_says
      turn_cuts e = leaves_to true (turn_is (took_as e)) (held_cut b e)

      pub turn_onward : y ≡ way.Goes
          → ((Q : Program) (m : ℕ) (q : Path) (ds : List ChoicePoint) (u : Tally) → PathHeld Q ws s st q ds → TurnedAs Q m k ws s' u (done (goes q ds) st.steps) (go_on (once argument) m k q q.stack ds (spend u st.steps)) said)
          → turns_to said
      unfolding took_says
      turn_onward e f =
          let is : (took_goal k P state left) ≡ done (goes b.path b.choices) st.steps = took_as e in
          subst (λ z. TurnedAs P n k ws s' state.tally (took_goal k P state left) z said) (sym (turn_is is))
          (subst (λ z. TurnedAs P n k ws s' state.tally z (go_on (once argument) n k b.path b.path.stack b.choices (spend state.tally st.steps)) said) (sym is) (f P n b.path b.choices state.tally (held_goes b e)))
