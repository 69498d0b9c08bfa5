-- `read_relations` reads all relations, as `read_relations` says.
use Prim.Native.Nat.{◌-◌}
use lib.ListN.{length}
use Rattle.rules.specs.Inner.{ReadOutcome}
use Rattle.rules.proofs.Readers.{RelationsTold}
use Rattle.rules.proofs.reading.read_relations.Given as goal

abbrev pub invariant-loop-at : goal.invariant-loop-at
invariant-loop-at l = (o : ReadOutcome) → RelationsTold l.program l.before l.at o → RelationsTold l.program 0 0 o

abbrev pub decreases-loop-at : goal.decreases-loop-at
decreases-loop-at l = length l.program - l.at
