-- What the functions that take a goal promise: the code's state and answers, and what they say of a path.
use Rattle.std.specs.Prelude.{ℕ, ◌+◌, ◌-◌, ◌≤◌, ◌<◌, ◌≡◌, Bool, true, false, List, [], length, Result, Ok, Err, Option, Some, None}
use Rattle.rules.specs.Syntax.{Relation, Program}
use Rattle.rules.specs.Reading.{after}
use Rattle.semantics.specs.Steps.{Outcome, done}
use Rattle.semantics.specs.Path.{Task, Path, ChoicePoint, Taken, leaves, cut, goes}
use Rattle.semantics.specs.Round.{Tally, Next, going, over, completed}
use Rattle.semantics.specs.Invariant.{Sound, ProgramIn, TaskIn}
use Rattle.engine.specs.Reference.{GoalAt, TaskAt}
use Rattle.engine.specs.Memory.{Registers, saved, Stored}
use Rattle.engine.specs.Steps.{at_bound, stops}
use Rattle.rules.specs.Settings.{most_words}
use Rattle.engine.specs.declared.report.Bound.{Bound}
use Rattle.engine.specs.declared.search.state.State.{State}
use Rattle.engine.specs.declared.steps.Stopped.{Stopped}
use Rattle.engine.specs.declared.search.state.Way.{Way}
use Rattle.engine.specs.declared.search.state.Way.TheVariants.{Goes, Leaves, Cut, Stops}
use Rattle.engine.specs.declared.search.state.Took.{Took}

-- the registers of a state, beside which it has the number of choice points and the steps left
abbrev pub registers : State → Registers
registers st = record { head = st.head; trail = st.trail; variables = st.variables; goals = st.goals; constraints = st.constraints; calls = st.calls }

-- the scratch and the state hold a path and its choice points
abbrev pub PathHeld : Program → List ℕ → List ℕ → State → Path → List ChoicePoint → Type 0
PathHeld P ws s st p cs = Stored P ws s (registers st) st.choices p cs

-- a goal is to be taken, by its reference; its own step is counted, so that one more step than those left is a number
pub record Taking (P : Program) (ws s : List ℕ) (st : State) (w : ℕ) (p : Path) (cs : List ChoicePoint) (task : Task) : Type 0 where
  pub stored : PathHeld P ws s st p cs
  pub task_at : TaskAt ws w task
  pub step_taken : st.steps < 4294967295

-- and the path is in order: its bindings are acyclic and of variables made, its constraints hold with them, and so are the goal's variables
pub record GoalReady (P : Program) (ws s : List ℕ) (st : State) (w : ℕ) (p : Path) (cs : List ChoicePoint) (task : Task) : Type 0 where
  pub taking : Taking P ws s st w p cs task
  pub short : length ws ≤ most_words
  pub program_in : ProgramIn P
  pub sound : Sound p.bindings p.kept p.made
  pub task_in : TaskIn P p.made task

-- the same before the goal's own step
pub record Due (P : Program) (ws s : List ℕ) (st : State) (w : ℕ) (p : Path) (cs : List ChoicePoint) (task : Task) : Type 0 where
  pub stored : PathHeld P ws s st p cs
  pub task_at : TaskAt ws w task
  pub short : length ws ≤ most_words
  pub program_in : ProgramIn P
  pub sound : Sound p.bindings p.kept p.made
  pub task_in : TaskIn P p.made task

-- what each case says, with the path and the choice points that go on, and the steps left
unfoldable pub took_says : Path → List ChoicePoint → Way → ℕ → Outcome Taken
took_says p cs Goes l = done (goes p cs) l
took_says p cs Leaves l = done leaves l
took_says p cs Cut l = done cut l
took_says p cs (Stops s) l = stops s

-- What the state holds then, when cs were the choice points before: where the path is left or cut it is some path, because one that fails in the middle has more bindings than the definition's. After a stop it is not used.
unfoldable pub TookHolds : Program → List ℕ → List ℕ → List ChoicePoint → State → Path → List ChoicePoint → Way → Type 0
TookHolds P ws s cs st p cs' Goes = PathHeld P ws s st p cs'
TookHolds P ws s cs st p cs' Leaves = PathHeld P ws s st p cs
TookHolds P ws s cs st p cs' Cut = PathHeld P ws s st p cs
TookHolds P ws s cs st p cs' (Stops e) = Unit {0}

-- a goal has been taken, with this state then
pub record TookAs (P : Program) (ws s : List ℕ) (cs : List ChoicePoint) (o : Outcome Taken) (y : Way) (st : State) : Type 0 where
  pub path : Path
  pub choices : List ChoicePoint
  pub says : o ≡ took_says path choices y st.steps
  pub held : TookHolds P ws s cs st path choices y

-- one goal more waits, in the next cell
abbrev pub one_goal_more : State → State
one_goal_more st = record { head = st.goals + 1; trail = st.trail; variables = st.variables; goals = st.goals + 1; constraints = st.constraints; calls = st.calls; choices = st.choices; steps = st.steps }

-- one choice point more
abbrev pub one_choice_more : State → State
one_choice_more st = record { head = st.head; trail = st.trail; variables = st.variables; goals = st.goals; constraints = st.constraints; calls = st.calls; choices = st.choices + 1; steps = st.steps }

-- Backtracking, with a tally t: the round is over ..
pub record OverAs (P : Program) (ws s : List ℕ) (st : State) (t : Tally) (x : Next) : Type 0 where
  pub path : Path
  pub says : x ≡ over (completed t)
  pub held : PathHeld P ws s st path []

-- .. or the next alternative is to be taken on the path as it was when its disjunction was taken
pub record ResumedAs (P : Program) (ws s : List ℕ) (st : State) (t : Tally) (x : Next) (next : State) (w : ℕ) : Type 0 where
  pub task : Task
  pub path : Path
  pub choices : List ChoicePoint
  pub says : x ≡ going (record { task = task; path = path; choices = choices; tally = t })
  pub task_at : TaskAt ws w task
  pub held : PathHeld P ws s next path choices
  pub left_is : next.steps ≡ st.steps

unfoldable pub BacktrackAs : Program → List ℕ → List ℕ → State → Tally → Next → Option (State × ℕ) → Type 0
BacktrackAs P ws s st t x None = OverAs P ws s st t x
BacktrackAs P ws s st t x (Some (next, w)) = ResumedAs P ws s st t x next w

-- the state of the newest choice point, with one goal more put to wait, and so many choice points
abbrev pub resumed : List ℕ → State → ℕ → State
resumed s st n =
    let r : Registers = saved s (st.choices - 1) in
    record { head = r.head; trail = r.trail; variables = r.variables; goals = r.goals + 1; constraints = r.constraints; calls = r.calls; choices = n; steps = st.steps }

-- a relation as the table has it
pub record RelationIs (ws : List ℕ) (params vars body : ℕ) (R : Relation) : Type 0 where
  pub params_is : params ≡ R.params
  pub vars_is : vars ≡ R.vars
  pub body_at : GoalAt ws body R.body
  pub inside : after ws body ≤ length ws
  pub small : after ws body ≤ most_words

-- so many entries on the trail, so many constraints, so many steps left
abbrev pub with_counts : State → ℕ → ℕ → ℕ → State
with_counts st n k l = record { head = st.head; trail = n; variables = st.variables; goals = st.goals; constraints = k; calls = st.calls; choices = st.choices; steps = l }

-- the case and the state beside it
abbrev pub took_as : Way → State → Took
took_as y st = record { way = y; state = st }

-- a bound is met, and the goal's own step is given back
abbrev pub took_stopped : Bound → State → Took
took_stopped b st = took_as (Stops (at_bound b (st.steps + 1))) st

-- what a review comes to for its path
abbrev pub review_took : State → Result (Bool × ℕ) Stopped → Took
review_took st (Ok (true, l)) = took_as Leaves (with_counts st st.trail st.constraints l)
review_took st (Ok (false, l)) = took_as Goes (with_counts st st.trail st.constraints l)
review_took st (Err s) = took_as (Stops s) st
