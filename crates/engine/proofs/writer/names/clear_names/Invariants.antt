use Prim.Native.Nat.{ℕ, ◌%◌}
use mathlib.Core.List.{List}
use Rattle.engine.specs.Names.{Named}
use Rattle.engine.proofs.writer.names.clear_names.Given as goal

abbrev pub invariant-loop-last : goal.invariant-loop-last
invariant-loop-last l = (names : List ℕ) × Named l.initial.scratch l.scratch l.last names

abbrev pub decreases-loop-last : goal.decreases-loop-last
decreases-loop-last l = l.last % 4096
