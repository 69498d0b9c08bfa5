-- `read_terms` reads terms up to the end of their part, as `read_terms` says.
use Prim.Native.Nat.{◌-◌}
use Rattle.rules.specs.Inner.{ReadOutcome}
use Rattle.rules.proofs.Readers.{TermsTold}
use Rattle.rules.proofs.reading.read_terms.Given as goal

abbrev pub invariant-loop-at : goal.invariant-loop-at
invariant-loop-at l = (o : ReadOutcome) → TermsTold l.program l.vars l.at l.end o → TermsTold l.program l.vars l.start l.end o

abbrev pub decreases-loop-at : goal.decreases-loop-at
decreases-loop-at l = l.end - l.at
