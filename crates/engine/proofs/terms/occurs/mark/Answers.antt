-- `mark` sets the variable's bit, which was clear.
use Prim.Native.Nat.{◌/◌, ◌<◌}
use native.Mathlib.Omega.{arith}
use Rattle.std.proofs.Common.{rules}
use Rattle.engine.specs.Reference.{at}
use Rattle.engine.proofs.MarkLaws.{mark_fits, one_shifted}
use Rattle.engine.proofs.terms.occurs.mark.Goals as goal

pub overflow_add-marks : goal.overflow_add-marks
overflow_add-marks c =
    let fits : at c.args.marks.now (c.args.variable / 32) < 4294967296 = search rules in
    omega (arith, one_shifted c.args.variable, mark_fits c.args.marks.now c.args.variable c.requires.2 fits)
