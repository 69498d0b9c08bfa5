-- What a trial bound, kept once the trial is undone: right sides in its entries of the trail, variables in the pairs' area.
use Rattle.std.specs.Prelude.{ℕ, ◌+◌, ◌≤◌, ◌<◌, ◌≡◌, List, [], ◌∷◌, reverse, length}
use Rattle.rules.specs.Syntax.{Term}
use Rattle.semantics.specs.Substitution.{Substitution}
use Rattle.engine.specs.Layout.{most_variables, trail_area, pairs_area, relations_area}
use Rattle.engine.specs.Reference.{at, Stands}
use Rattle.engine.specs.Memory.{BindingsIn}
use Rattle.engine.specs.Trail.{Apart}
use Rattle.engine.specs.Line.{half}

-- the variable of equation i is set, and no other
pub record HalfSet (s s' : List ℕ) (i x : ℕ) : Type 0 where
  pub here : half s' i ≡ x
  pub other : (j : ℕ) → ¬ (j ≡ i) → half s' j ≡ half s j
  pub below : (k : ℕ) → k < pairs_area → at s' k ≡ at s k
  pub above : (k : ℕ) → relations_area ≤ k → at s' k ≡ at s k
  pub long : length s' ≡ length s

-- equation i is kept, its right side as it stood
pub record Keeps (ws s : List ℕ) (mark i : ℕ) (b : ℕ × Term) : Type 0 where
  pub variable : half s i ≡ b.0
  pub low : b.0 < most_variables
  pub right : Stands ws (at s (trail_area + mark + i)) b.1

-- from equation i on
unfoldable pub EquationsKept : List ℕ → List ℕ → ℕ → ℕ → List (ℕ × Term) → Type 0
EquationsKept ws s mark i [] = Unit {0}
EquationsKept ws s mark i (b ∷ cs) = Keeps ws s mark i b × EquationsKept ws s mark (i + 1) cs

-- the path's bindings alone are left, and what was new is kept, oldest first
pub record AllKept (ws s s' : List ℕ) (new bs : Substitution) (mark : ℕ) : Type 0 where
  pub bindings_in : BindingsIn ws s' bs
  pub kept : EquationsKept ws s' mark 0 (reverse new)
  pub apart : Apart s s'
