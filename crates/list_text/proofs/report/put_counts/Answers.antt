-- Each count behind the one before it, and the line's end.
use native.Mathlib.Omega.{arith}
use Rattle.list_text.proofs.TextLaws.{behind}
use Rattle.list_text.proofs.report.put_counts.Goals as goal

pub returns : goal.returns
returns c = (behind c.put_count-next.ensures.0 (behind c.put_count-next-2.ensures.0 (behind c.put_count-next-3.ensures.0 (behind c.put_count-next-4.ensures.0 c.put_text.ensures))), omega (arith, c.put_count-next-4.ensures.1))
