-- Nothing is promised of the program but that it is safe and ends.
use Rattle.std.proofs.Common.{◌-◌}
use Rattle.gate_refusals.proofs.main.Given as goal

abbrev pub decreases-loop-at : goal.decreases-loop-at
decreases-loop-at l = l.end - l.at
