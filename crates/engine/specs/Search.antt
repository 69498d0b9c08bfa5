-- What turn after turn promises.
use Rattle.std.specs.Prelude.{ℕ, suc, ◌+◌, ◌≤◌, ◌<◌, ◌≡◌, Bool, true, false, List, [], length, Result, Ok, Err}
use Rattle.rules.specs.Syntax.{Program}
use Rattle.semantics.specs.Substitution.{argument}
use Rattle.semantics.specs.Path.{Path, ChoicePoint}
use Rattle.semantics.specs.Answer.{answer}
use Rattle.semantics.specs.Round as round
use Rattle.semantics.specs.Round.{Tally, broken, completed, end_of, give, going, once, onward, search}
use Rattle.semantics.specs.Invariant.{ProgramIn, Fine, StateFine}
use Rattle.engine.specs.Reference.{TaskAt}
use Rattle.engine.specs.Steps.{stop_of}
use Rattle.engine.specs.Take.{PathHeld}
use Rattle.rules.specs.Settings.{most_words}
use Rattle.engine.specs.declared.search.state.State.{State}
use Rattle.engine.specs.declared.search.state.Searched.{Searched}
use Rattle.engine.specs.declared.search.state.Searched.TheVariants.{Answer, Over}
use Rattle.engine.specs.declared.steps.Stopped.{Stopped}

-- one more if a branch was cut
abbrev pub count_cuts : ℕ → Bool → ℕ
count_cuts c false = c
count_cuts c true = suc c

-- a round under way, with a goal to be taken
pub record Searching (P : Program) (wf : ProgramIn P) (n k : ℕ) (ws s : List ℕ) (st : State) (w cuts : ℕ) (state : round.State) : Type 0 where
  pub held : PathHeld P ws s st state.path state.choices
  pub task_at : TaskAt ws w state.task
  pub short : length ws ≤ most_words
  pub left_is : state.tally.left ≡ st.steps
  pub cuts_are : state.tally.cuts ≡ cuts
  pub fits : cuts + st.steps ≤ 4294967295
  pub fine : StateFine P wf n k state

-- the tally with so many steps left and so many branches cut
abbrev pub counted_to : Tally → ℕ → ℕ → Tally
counted_to t l c = record { left = l; room = t.room; cuts = c; written = t.written }

-- a path that gives an answer: all that the writer needs, and how the round goes on with what it writes
pub record Answers (P : Program) (wf : ProgramIn P) (n k : ℕ) (ws s : List ℕ) (st : State) (cuts : ℕ) (state : round.State) (fuel : ℕ) : Type 0 where
  pub path : Path
  pub choices : List ChoicePoint
  pub rest : ℕ
  pub same : search P n k fuel state ≡ onward (give (once argument) n k choices (counted_to state.tally st.steps cuts) (answer path n st.steps)) (λ next. search P n k rest next)
  pub enough : st.steps < rest
  pub fewer : st.steps < state.tally.left
  pub held : PathHeld P ws s st path choices
  pub fine : Fine P wf n k path []
  pub next_fine : (next : round.State) → give (once argument) n k choices (counted_to state.tally st.steps cuts) (answer path n st.steps) ≡ going next → StateFine P wf n k next
  pub fits : cuts + st.steps ≤ 4294967295

unfoldable pub SearchedAs : (P : Program) → ProgramIn P → ℕ → ℕ → List ℕ → List ℕ → round.State → ℕ → Result Searched Stopped → Type 0
SearchedAs P wf n k ws s state fuel (Ok (Answer st c)) = Answers P wf n k ws s st c state fuel
SearchedAs P wf n k ws s state fuel (Ok (Over st c)) = (search P n k fuel state ≡ completed (counted_to state.tally st.steps c)) × ((p : Path) × PathHeld P ws s st p [])
SearchedAs P wf n k ws s state fuel (Err e) = (c : ℕ) × (search P n k fuel state ≡ broken (end_of (stop_of e.why)) (counted_to state.tally e.left c))
