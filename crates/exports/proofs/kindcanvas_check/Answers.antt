-- `kindcanvas_check` says as one number what `check` says.
use native.Mathlib.Omega.{arith}
use Rattle.rules.proofs.Checked.{place_small}
use Rattle.exports.proofs.kindcanvas_check.Goals as goal

pub overflow_add-result : goal.overflow_add-result
overflow_add-result c = let small = place_small _ _ _ c.in-Err.ensures in omega (arith, c.number.ensures, small.0, small.1)
