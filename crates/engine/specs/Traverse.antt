-- What a traversal of a followed term promises, of whatever it is asked.
use Rattle.std.specs.Prelude.{ℕ, suc, ◌≡◌, ◌⊎◌, Bool, true, false, List, ◌∷◌, length, ltb, Result, Ok, Err, Option}
use Rattle.rules.specs.Reading.{choose}
use Rattle.rules.specs.Syntax.{Term, pair}
use Rattle.semantics.specs.Substitution.{Substitution, walk}
use Rattle.semantics.specs.Steps.{Outcome, done}
use Rattle.semantics.specs.Unify.{scan_next, way_end}
use Rattle.engine.specs.Occurs.{Led}
use Rattle.engine.specs.Scan.{TestAs, scan_says}
use Rattle.engine.specs.Steps.{stops, no_steps, at_bound}
use Rattle.engine.specs.declared.report.Bound.TheVariants.{Waiting}
use Rattle.engine.specs.declared.steps.Stopped.{Stopped}

-- A traversal of the definitions: `run`, by what is asked and what was entered, and what it comes to at a node of each kind. `Holds` ties what was entered to the code's state, by which `GaveUp` tells that the traversal gave up.
pub record Traversal (S : Type 0) (sought : ℕ) (bs : Substitution) : Type 1 where
  pub Asked : Type 0
  pub Entered : Type 0
  pub Holds : S → Entered → Type 0
  pub GaveUp : S → Type 0
  pub test : Asked → Term → Bool
  pub run : Asked → Entered → List Term → Term → ℕ → Outcome Bool
  pub agrees : (i : Asked) → TestAs sought (test i)
  pub without_step : (i : Asked) (es : Entered) (vs : List Term) (u : Term) → run i es vs u 0 ≡ stops no_steps
  pub at_find : (i : Asked) (es : Entered) (vs : List Term) (u : Term) (left : ℕ) → test i (walk bs u) ≡ true → run i es vs u (suc left) ≡ done true left
  pub at_leaf : (i : Asked) (es : Entered) (vs : List Term) (u : Term) (left : ℕ) → ((a b : Term) → ¬ (walk bs u ≡ pair a b)) → test i (walk bs u) ≡ false → run i es vs u (suc left) ≡ scan_next vs left (λ us v. run i es us v left)

-- a term is followed to a pair, the last variable on the way being this one
pub record Met (bs : Substitution) (through : Option ℕ) (u : Term) : Type 0 where
  pub led : Led through (way_end bs u)
  pub left : Term
  pub right : Term
  pub is : walk bs u ≡ pair left right

module _ {S : Type 0} {sought : ℕ} {bs : Substitution} (T : Traversal S sought bs) (s' : S) where
  -- the pair is entered, as it is where it stands
  pub record EnteredNow (u a b : Term) (es : T.Entered) : Type 0 where
    pub entered : T.Entered
    pub holds : T.Holds s' entered
    pub same : (i : T.Asked) (vs : List Term) (left : ℕ) → T.run i es vs u (suc left) ≡ choose (ltb (length vs) 512) (λ _. T.run i entered (b ∷ vs) a left) (λ _. stops (at_bound Waiting (suc left)))
    pub in_place : (i : T.Asked) (vs : List Term) (left : ℕ) → T.run i es vs u (suc left) ≡ T.run i entered vs (walk bs u) (suc left)

  -- it is passed
  pub record PassedNow (u : Term) (es : T.Entered) : Type 0 where
    pub entered : T.Entered
    pub holds : T.Holds s' entered
    pub same : (i : T.Asked) (vs : List Term) (left : ℕ) → T.run i es vs u (suc left) ≡ scan_next vs left (λ us v. T.run i entered us v left)

  -- what `enters` says
  abbrev pub EntersAs : Term → Term → Term → T.Entered → Result Bool Stopped → Type 0
  EntersAs u a b es (Ok true) = EnteredNow u a b es
  EntersAs u a b es (Ok false) = PassedNow u es
  EntersAs u a b es (Err stopped) = T.GaveUp s'

  -- what it says of t, whatever the nodes that wait, as many as the code counts
  pub record SaysAs (es : T.Entered) (t : Term) (n steps : ℕ) (r : Result (Bool × ℕ) Stopped) : Type 0 where
    pub entered : T.Entered
    pub holds : T.Holds s' entered
    pub same : (i : T.Asked) (vs : List Term) → length vs ≡ n → T.run i es vs t steps ≡ scan_says r vs (T.run i entered)

  -- the same, or that it gave up
  abbrev pub TraversedAs : T.Entered → Term → ℕ → ℕ → Result (Bool × ℕ) Stopped → Type 0
  TraversedAs es t n steps (Ok told) = SaysAs es t n steps (Ok told)
  TraversedAs es t n steps (Err stopped) = SaysAs es t n steps (Err stopped) ⊎ T.GaveUp s'
