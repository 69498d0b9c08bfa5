-- `skip` goes from second part to second part: each ends where the whole does.
use Prim.Native.Nat.{◌-◌}
use lib.ListN.{length}
use Rattle.rules.specs.Syntax.{Term}
use Rattle.engine.specs.Reference.{pos_of, Stands}
use Rattle.engine.proofs.ReferenceLaws.{Skipping}
use Rattle.engine.proofs.terms.walk.skip.Given as goal

abbrev pub invariant-loop-part : goal.invariant-loop-part
invariant-loop-part l = (t : Term) (h : Stands l.program l.term t) → Skipping l.program l.term h.to l.at

abbrev pub decreases-loop-part : goal.decreases-loop-part
decreases-loop-part l = length l.program - pos_of l.at
