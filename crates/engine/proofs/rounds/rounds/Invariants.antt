-- `rounds` runs round after round, as the definition's `rounds` says.
use Prim.Native.Nat.{◌-◌}
use mathlib.Core.Path.{◌≡◌}
use lib.ListN.{length}
use Rattle.engine.proofs.RoundsLaws.{Going}
use Rattle.engine.proofs.rounds.rounds.Given as goal

abbrev pub invariant-loop-broken : goal.invariant-loop-broken
invariant-loop-broken l =
    (length l.scratch ≡ length l.initial.scratch) × (length l.output ≡ length l.initial.output) × Going l.program l.initial.scratch l.initial.output l.query l.limit l.steps l.scratch l.output l.number l.tally l.cut

abbrev pub decreases-loop-broken : goal.decreases-loop-broken
decreases-loop-broken l = l.limit - l.number
