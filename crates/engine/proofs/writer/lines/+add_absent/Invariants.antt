use Prim.Native.Nat.{◌≤◌}
use Rattle.engine.specs.Lines.{AddsAbsent}
use Rattle.engine.proofs.SizeLaws.{followed_size}
use Rattle.engine.proofs.LinesLaws.{AbsentFor}
use Rattle.engine.proofs.writer.lines.+add_absent.Given as goal

abbrev pub invariant-loop-x : goal.invariant-loop-x
invariant-loop-x l =
    (followed_size l.program l.scratch l.from ≤ followed_size l.program l.scratch l.term) × ((g : AddsAbsent l.program l.scratch l.initial.output l.tag l.term l.first l.end l.at) → AbsentFor l.program l.scratch l.initial.output l.output l.tag l.term l.from l.first l.end l.at l.place g)

abbrev pub decreases-loop-x : goal.decreases-loop-x
decreases-loop-x l = followed_size l.program l.scratch l.from

abbrev pub decreases-add_absent : goal.decreases-add_absent
decreases-add_absent l = followed_size l.program.now l.scratch.now l.term
