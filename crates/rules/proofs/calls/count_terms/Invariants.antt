-- `count_terms` counts the terms that fill a part.
use mathlib.Core.Path.{◌≡◌}
use mathlib.Core.List.{List}
use Prim.Native.Nat.{◌+◌, ◌-◌, ◌≤◌}
use lib.ListN.{length}
use Rattle.rules.specs.Syntax.{Term}
use Rattle.rules.specs.Inner.{GoodTermsAt}
use Rattle.rules.proofs.calls.count_terms.Given as goal

abbrev pub invariant-loop-at : goal.invariant-loop-at
invariant-loop-at l = (l.count ≤ l.at) × ((ts : List Term) → GoodTermsAt l.program l.start l.end ts → (us : List Term) × GoodTermsAt l.program l.at l.end us × (l.count + length us ≡ length ts))

abbrev pub decreases-loop-at : goal.decreases-loop-at
decreases-loop-at l = l.end - l.at
