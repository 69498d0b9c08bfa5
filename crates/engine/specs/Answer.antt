-- What writing an answer promises.
use Rattle.std.specs.Prelude.{ℕ, ◌+◌, ◌≤◌, ◌<◌, ◌≡◌, true, List, ◌++◌, ltb, length, take, Result, Ok, Err, Option, Some, None}
use Rattle.rules.specs.Reading.{choose}
use Rattle.rules.specs.Written.{part}
use Rattle.rules.specs.Syntax.{Program}
use Rattle.semantics.specs.Steps.{Outcome, done}
use Rattle.semantics.specs.Path.{Path, ChoicePoint}
use Rattle.semantics.specs.Run.{usable}
use Rattle.semantics.specs.Invariant.{Sound}
use Rattle.engine.specs.Take.{PathHeld}
use Rattle.engine.specs.Reference.{at}
use Rattle.engine.specs.Term.{Touched, Laid}
use Rattle.engine.specs.Lines.{Whole}
use Rattle.rules.specs.Settings.{most_words}
use Rattle.engine.specs.declared.search.state.State.{State}
use Rattle.engine.specs.declared.steps.Stopped.{Stopped}
use Rattle.engine.specs.Steps.{stops}

-- the words of an answer but its own, from the word after `start` on, if they fit
abbrev pub Ends : List ℕ → List ℕ → ℕ → ℕ → List ℕ → ℕ → Type 0
Ends o₀ o start end v place = place ≤ end → Laid o₀ o (start + 1) end true v place

-- the words used then, if all of it fits
abbrev pub answer_end : ℕ → ℕ → Option ℕ
answer_end end place = choose (ltb end place) (λ _. None) (λ _. Some place)

-- with its own word, where all of it fits
pub record EndedAs (o₀ o o' : List ℕ) (start end : ℕ) (v : List ℕ) (place : ℕ) (r : Option ℕ) : Type 0 where
  pub says : r ≡ answer_end end place
  pub written : (n : ℕ) → r ≡ Some n → Laid o₀ o' start end true (part 15 v) n
  pub touched : Touched o₀ o (start + 1) end → Touched o₀ o' start end

-- a path at its end, whose answer is to be written behind the `used` words of the output
pub record Answering (P : Program) (ws s output : List ℕ) (st : State) (p : Path) (cs : List ChoicePoint) (params used : ℕ) : Type 0 where
  pub stored : PathHeld P ws s st p cs
  pub short : length ws ≤ most_words
  pub sound : Sound p.bindings p.kept p.made
  pub few_params : params ≤ p.made
  pub used_fits : used ≤ usable (length output)

-- how an answer leaves what is lent: the path is held as before, and the words before `used` stay
pub record AnswerLeft (P : Program) (ws s output s' output' : List ℕ) (st : State) (p : Path) (cs : List ChoicePoint) (used : ℕ) : Type 0 where
  pub stored : PathHeld P ws s' st p cs
  pub scratch_length : length s' ≡ length s
  pub output_length : length output' ≡ length output
  pub before : take used output' ≡ take used output

-- what each case says of the answer's words
abbrev pub answer_says : List ℕ → Result (Option ℕ × ℕ) Stopped → Outcome (List ℕ)
answer_says ws (Ok (n, left)) = done ws left
answer_says ws (Err s) = stops s

-- the words stand behind those used, n are used now, and what is behind them is as it was
pub record AnswerStands (output output' : List ℕ) (used : ℕ) (ws : List ℕ) (n : ℕ) : Type 0 where
  pub used_now : n ≡ used + length ws
  pub fits : n ≤ usable (length output)
  pub stands : take n output' ≡ take used output ++ ws
  pub whole : Whole ws
  pub behind : (i : ℕ) → n ≤ i → at output' i ≡ at output i

-- as the definition says, and written where there is room
pub record AnsweredAs (P : Program) (ws s output s' output' : List ℕ) (st : State) (p : Path) (cs : List ChoicePoint) (used : ℕ) (o : Outcome (List ℕ)) (r : Result (Option ℕ × ℕ) Stopped) : Type 0 where
  pub leaves_lent : AnswerLeft P ws s output s' output' st p cs used
  pub words : List ℕ
  pub says : o ≡ answer_says words r
  pub written : (n left : ℕ) → r ≡ Ok (Some n, left) → AnswerStands output output' used words n
  pub full : (left : ℕ) → r ≡ Ok (None, left) → usable (length output) < used + length words
