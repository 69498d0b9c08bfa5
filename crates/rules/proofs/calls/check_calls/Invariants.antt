-- `check_calls` goes through the items of the program to the first fault of a call.
use mathlib.Core.Path.{◌≡◌}
use mathlib.Core.List.{List}
use Prim.Native.Nat.{◌-◌}
use lib.ListN.{length}
use Rattle.rules.specs.Syntax.{Program}
use Rattle.rules.specs.Calls.{relations_fault}
use Rattle.rules.specs.Inner.{RelationsAt, Item, Rest, items_fault}
use Rattle.rules.proofs.calls.check_calls.Given as goal

abbrev pub invariant-loop-at : goal.invariant-loop-at
invariant-loop-at l = (P : Program) → RelationsAt l.program 0 P → (is : List Item) × Rest l.program P l.at is × (relations_fault P P 0 ≡ items_fault is P l.at)

abbrev pub decreases-loop-at : goal.decreases-loop-at
decreases-loop-at l = length l.program - l.at
