-- What a turn promises.
use Rattle.std.specs.Prelude.{ℕ, ◌≡◌, Bool, true, false, List, []}
use Rattle.rules.specs.Syntax.{Program}
use Rattle.semantics.specs.Steps.{Outcome, done}
use Rattle.semantics.specs.Substitution.{argument}
use Rattle.semantics.specs.Path.{Path, ChoicePoint, Taken, goes, take_goal}
use Rattle.semantics.specs.Answer.{answer}
use Rattle.semantics.specs.Round as round
use Rattle.semantics.specs.Round.{Next, Tally, broken, completed, count_cut, end_of, give, going, once, over, spend}
use Rattle.engine.specs.Reference.{TaskAt}
use Rattle.engine.specs.Steps.{stop_of}
use Rattle.engine.specs.Take.{PathHeld, Due}
use Rattle.engine.specs.declared.search.state.State.{State}
use Rattle.engine.specs.declared.search.state.Turned.{Turned}
use Rattle.engine.specs.declared.search.state.Lead.{Lead}
use Rattle.engine.specs.declared.search.state.Lead.TheVariants.{Goal, Over, Answer, Stops}

-- a turn is due: its goal is, and the tally has the steps left
pub record Turning (P : Program) (ws s : List ℕ) (st : State) (w : ℕ) (state : round.State) : Type 0 where
  pub due : Due P ws s st w state.path state.choices state.task
  pub left_is : state.tally.left ≡ st.steps

-- what taking its goal comes to in round k, with so many steps left
abbrev pub took_goal : ℕ → Program → round.State → ℕ → Outcome Taken
took_goal k P state l = take_goal k P state.path state.choices state.task.0 state.task.1 l

-- the tally with so many steps left, after a turn that cut a branch or did not
abbrev pub tallied : Tally → ℕ → Bool → Tally
tallied t l false = spend t l
tallied t l true = count_cut t l

-- A turn with n query terms in round k, when the tally was t and taking the goal came to o: the next state with its goal, the round's end, an answer to be written, or a stop. It cut a branch or did not.
unfoldable pub NextAs : Program → ℕ → ℕ → List ℕ → List ℕ → Tally → Outcome Taken → Next → Lead → State → Bool → Type 0
NextAs P n k ws s t o x (Goal w) st c = (state : round.State) × (x ≡ going state) × TaskAt ws w state.task × PathHeld P ws s st state.path state.choices × (state.tally ≡ tallied t st.steps c)
NextAs P n k ws s t o x Over st c = (x ≡ over (completed (tallied t st.steps c))) × ((p : Path) × PathHeld P ws s st p [])
NextAs P n k ws s t o x Answer st c = (p : Path) × (cs : List ChoicePoint) × (x ≡ give (once argument) n k cs (spend t st.steps) (answer p n st.steps)) × PathHeld P ws s st p cs × (p.stack ≡ []) × (p.calls ≡ k) × (o ≡ done (goes p cs) st.steps)
NextAs P n k ws s t o x (Stops e) st c = x ≡ over (broken (end_of (stop_of e.why)) (spend t e.left))

-- of what the code returns
abbrev pub TurnedAs : Program → ℕ → ℕ → List ℕ → List ℕ → Tally → Outcome Taken → Next → Turned → Type 0
TurnedAs P n k ws s t o x r = NextAs P n k ws s t o x r.lead r.state r.cut
