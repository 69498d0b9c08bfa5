-- What `leaf_word` and `scan` promise.
use Rattle.std.specs.Prelude.{ℕ, ◌+◌, ◌<◌, ◌≡◌, Bool, true, false, List, [], eqb, Result, Ok, Err}
use Rattle.rules.specs.Syntax.{Atom, Term, var, atom, pair}
use Rattle.semantics.specs.Substitution.{Substitution}
use Rattle.semantics.specs.Steps.{Outcome, done}
use Rattle.semantics.specs.Unify.{scan, scan_next}
use Rattle.engine.specs.Layout.{most_variables}
use Rattle.engine.specs.Reference.{AtomIs, base_of}
use Rattle.engine.specs.Steps.{outcome, stops}
use Rattle.engine.specs.declared.steps.Stopped.{Stopped}

-- the word by which a leaf is sought, from what stands at its reference
pub record LeafWord (w bits k p r : ℕ) : Type 0 where
  pub of_var : k ≡ 0 → r ≡ base_of w + p
  pub of_atom : ¬ (k ≡ 0) → r ≡ bits

-- The word sought and the definition's test agree: an open variable has its number for a word, an atom its own word; no pair is sought.
pub record TestAs (sought : ℕ) (test : Term → Bool) : Type 0 where
  pub on_var : (x : ℕ) → x < most_variables → test (var x) ≡ eqb x sought
  pub on_atom : (a : Atom) (w : ℕ) → AtomIs w a → test (atom a) ≡ eqb w sought
  pub on_pair : (s t : Term) → test (pair s t) ≡ false

-- What each case says of a scan with the nodes vs waiting: found, cleared so that the next that waits is looked at, or stopped.
unfoldable pub scan_says : Result (Bool × ℕ) Stopped → List Term → (List Term → Term → ℕ → Outcome Bool) → Outcome Bool
scan_says (Ok (true, left)) vs go = done true left
scan_says (Ok (false, left)) vs go = scan_next vs left (λ us u. go us u left)
scan_says (Err s) vs go = stops s

-- the scan of t, with no node that waits, whatever test agrees with the word sought
abbrev pub ScanAs : ℕ → Substitution → Term → ℕ → Result (Bool × ℕ) Stopped → Type 0
ScanAs sought bs t steps r = (test : Term → Bool) → TestAs sought test → scan test bs [] t steps ≡ outcome r
