-- `skip_term` goes past the term at a place: from second part to second part, then past the last.
use mathlib.Core.Path.{◌≡◌}
use Prim.Native.Nat.{◌+◌, ◌-◌}
use lib.ListN.{length}
use Rattle.rules.specs.Syntax.{Term}
use Rattle.rules.specs.Written.{term_words}
use Rattle.rules.specs.Inner.{GoodTermAt}
use Rattle.rules.proofs.calls.skip_term.Given as goal

abbrev pub invariant-loop-part : goal.invariant-loop-part
invariant-loop-part l = (t : Term) → GoodTermAt l.program l.start t → (u : Term) × GoodTermAt l.program l.at u × (l.at + length (term_words u) ≡ l.start + length (term_words t))

abbrev pub decreases-loop-part : goal.decreases-loop-part
decreases-loop-part l = length l.program - l.at
