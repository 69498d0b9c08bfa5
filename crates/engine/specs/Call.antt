-- What passing a call's arguments promises.
use Rattle.std.specs.Prelude.{ℕ, ◌+◌, ◌≤◌, ◌≡◌, List, length}
use Rattle.rules.specs.Syntax.{Term, Constraint}
use Rattle.rules.specs.Lists.{Each}
use Rattle.semantics.specs.Substitution.{shift, Substitution}
use Rattle.semantics.specs.Path.{bind_params}
use Rattle.semantics.specs.Invariant.{TermIn, Sound}
use Rattle.engine.specs.Layout.{most_variables}
use Rattle.engine.specs.Reference.{TermsAt, refer}
use Rattle.engine.specs.Memory.{BindingsIn}
use Rattle.engine.specs.Trail.{Apart}
use Rattle.rules.specs.Settings.{most_words, scratch_words}

-- Parameters under way: `count` arguments from the reference w on are left for the variables from x on, the trail has n entries, and what is left leads to the substitution `whole`.
pub record BindingParameters (ws s₀ s : List ℕ) (base to : ℕ) (whole : Substitution) (x n w count : ℕ) : Type 0 where
  pub from : ℕ
  pub is_w : w ≡ refer from base
  pub args : List Term
  pub now_bound : Substitution
  pub kept : List Constraint
  pub leads : bind_params x base args now_bound ≡ whole
  pub many : length args ≡ count
  pub terms : TermsAt ws 0 from to args
  pub inside : to ≤ length ws
  pub short : length ws ≤ most_words
  pub low : base ≤ most_variables
  pub is_n : n ≡ length now_bound
  pub sound : Sound now_bound kept x
  pub in_range : Each (λ t. TermIn x (shift base t)) args
  pub fits : x + count ≤ most_variables
  pub long : scratch_words ≤ length s
  pub bindings_in : BindingsIn ws s now_bound
  pub apart : Apart s₀ s

-- all are passed
pub record ParametersBound (ws s₀ s : List ℕ) (whole : Substitution) (n : ℕ) : Type 0 where
  pub bindings_in : BindingsIn ws s whole
  pub apart : Apart s₀ s
  pub is_n : n ≡ length whole
