-- `walk` follows a reference as the definition does: the invariant is that what is left to follow comes to the same term.
use Rattle.engine.specs.Reference.{refer}
use Rattle.engine.proofs.WalkLaws.{hops}
use Rattle.engine.proofs.WalkLoop.{Walking}
use Rattle.engine.proofs.terms.walk.walk.Given as goal

abbrev pub invariant-loop-part : goal.invariant-loop-part
invariant-loop-part l = Walking l.program l.scratch l.term l.position l.base l.through

abbrev pub decreases-loop-part : goal.decreases-loop-part
decreases-loop-part l = hops 2048 l.program l.scratch (refer l.position l.base)
