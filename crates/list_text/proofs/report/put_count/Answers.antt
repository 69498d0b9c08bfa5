-- The number behind the name.
use native.Mathlib.Omega.{arith}
use Rattle.list_text.proofs.DecimalLaws.{short_32}
use Rattle.list_text.proofs.TextLaws.{behind}
use Rattle.list_text.proofs.report.put_count.Goals as goal

pub put_number-requires : goal.put_number-requires
put_number-requires c = omega (arith, short_32 c.ranges.count)

pub returns : goal.returns
returns c = (behind c.put_text-next.ensures c.put_number.ensures, omega (arith, short_32 c.ranges.count))
