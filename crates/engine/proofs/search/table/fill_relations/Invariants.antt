-- `fill_relations` goes from relation to relation: those before the place are in the table.
use Prim.Native.Nat.{◌-◌, ◌≤◌}
use lib.ListN.{length}
use Rattle.rules.specs.Syntax.{Program}
use Rattle.rules.specs.Inner.{RelationsAt}
use Rattle.engine.proofs.TableLaws.{Filling}
use Rattle.engine.proofs.search.table.fill_relations.Given as goal

abbrev pub invariant-loop-at : goal.invariant-loop-at
invariant-loop-at l = (P : Program) → RelationsAt l.program 0 P → length P ≤ 256 → Filling l.program l.initial.scratch l.scratch P l.at l.number

abbrev pub decreases-loop-at : goal.decreases-loop-at
decreases-loop-at l = length l.program - l.at
