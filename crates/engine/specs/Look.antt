-- What looking at all nodes of a term, or of several, promises.
use Rattle.std.specs.Prelude.{ℕ, ◌+◌, ◌≤◌, ◌≡◌, false, List, [], map, length, Result}
use Rattle.rules.specs.Syntax.{Term}
use Rattle.semantics.specs.Substitution.{Substitution}
use Rattle.semantics.specs.Unify.{scan, never}
use Rattle.semantics.specs.Answer.{look_through}
use Rattle.engine.specs.Layout.{most_variables}
use Rattle.engine.specs.Walk.{Binds}
use Rattle.engine.specs.Trial.{EquationsKept}
use Rattle.engine.specs.declared.steps.Stopped.{Stopped}
use Rattle.engine.specs.Steps.{outcome_of}

-- one term: nothing is found
unfoldable pub LookedThroughAs : Substitution → Term → ℕ → Result ℕ Stopped → Type 0
LookedThroughAs bs t steps r = scan never bs [] t steps ≡ outcome_of false r

-- a trial's equations, all of them kept
pub record Looks (ws s : List ℕ) (bs : Substitution) (cs : List (ℕ × Term)) (mark count : ℕ) : Type 0 where
  pub held : Binds ws s bs
  pub kept : EquationsKept ws s mark 0 cs
  pub count_is : count ≡ length cs
  pub few : mark + count ≤ most_variables

-- the right sides one after the other
abbrev pub rights : List (ℕ × Term) → List Term
rights cs = map (λ (b : ℕ × Term). b.1) cs

-- terms one after the other
unfoldable pub ThroughAs : Substitution → List Term → ℕ → Result ℕ Stopped → Type 0
ThroughAs bs ts steps r = look_through bs ts steps ≡ outcome_of tt r
