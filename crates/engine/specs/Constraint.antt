-- The lines of a path's constraints, added to an answer under way.
use Rattle.std.specs.Prelude.{ℕ, ◌≡◌, List, length, Result, Ok, Err}
use Rattle.rules.specs.Syntax.{Term, Constraint}
use Rattle.semantics.specs.Substitution.{Substitution}
use Rattle.semantics.specs.Steps.{Outcome, done}
use Rattle.semantics.specs.Answer.{Line}
use Rattle.semantics.specs.Invariant.{Unforced, Passes}
use Rattle.engine.specs.Reference.{KeepsAt}
use Rattle.engine.specs.Memory.{BindingsIn}
use Rattle.engine.specs.Walk.{Binds}
use Rattle.engine.specs.Unify.{TwoTerms}
use Rattle.engine.specs.Trail.{Apart}
use Rattle.engine.specs.Term.{Touched}
use Rattle.engine.specs.Lines.{Writing, Extended}
use Rattle.engine.specs.declared.steps.Stopped.{Stopped}
use Rattle.engine.specs.Steps.{stops}

-- what each case says of the lines
abbrev pub added_says : List Line → Result (ℕ × ℕ) Stopped → Outcome (List Line)
added_says ls (Ok (next, left)) = done ls left
added_says ls (Err s) = stops s

-- as the definition says; lines that are done stand on the page, and a trial's bindings are taken back, also where it stops
pub record AddedAs (ws s s' : List ℕ) {out : List ℕ} {first end place : ℕ} (g : Writing s out first end place) (out' : List ℕ) (bs : Substitution) (o : Outcome (List Line)) (r : Result (ℕ × ℕ) Stopped) : Type 0 where
  pub lines : List Line
  pub says : o ≡ added_says lines r
  pub page : (next left : ℕ) → r ≡ Ok (next, left) → Extended g out' next lines
  pub bindings_in : BindingsIn ws s' bs
  pub apart : Apart s s'
  pub touched : Touched g.before out' g.begin end

-- A disequality whose line is to be added: not every assignment of the path makes the two equal, so a trial that succeeds binds something.
pub record Differs (ws s : List ℕ) (bs : Substitution) (a : ℕ) (u : Term) (b : ℕ) (v : Term) (trail : ℕ) : Type 0 where
  pub meets : TwoTerms ws s bs a u b v trail
  pub unforced : Unforced bs u v

-- a constraint of those kept, whose lines are to be added; its review has passed
pub record Lists (ws s : List ℕ) (bs : Substitution) (cs : List Constraint) (w : ℕ) (c : Constraint) (trail : ℕ) : Type 0 where
  pub held : Binds ws s bs
  pub keeps : KeepsAt ws w c
  pub trail_is : trail ≡ length bs
  pub passes : Passes bs cs c
