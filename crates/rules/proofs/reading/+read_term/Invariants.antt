-- `read_term` reads a term as `read_term` says. Recursion falls by the words left, and the loop goes from second part to second part.
use mathlib.Core.List.{List}
use Prim.Native.Nat.{◌≤◌, ◌-◌}
use Rattle.rules.specs.Inner.{ReadOutcome}
use Rattle.rules.proofs.Readers.{TermTold}
use Prim.Native.Nat.{ℕ}
use Rattle.rules.proofs.reading.+read_term.Given as goal

-- what the rest tells from `at` on is what the whole tells
pub record Going (ws : List ℕ) (vars start end at : ℕ) : Type 0 where
  pub forward : start ≤ at
  pub whole : (o : ReadOutcome) → TermTold ws vars at end o → TermTold ws vars start end o

abbrev pub invariant-loop-at : goal.invariant-loop-at
invariant-loop-at l = Going l.program l.vars l.start l.end l.at

abbrev pub decreases-loop-at : goal.decreases-loop-at
decreases-loop-at l = l.end - l.at

abbrev pub decreases-read_term : goal.decreases-read_term
decreases-read_term l = l.end - l.start
