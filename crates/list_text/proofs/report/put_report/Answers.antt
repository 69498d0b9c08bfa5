-- Each text behind the one before it.
use Rattle.list_text.proofs.TextLaws.{behind}
use Rattle.list_text.proofs.report.put_report.Goals as goal

pub returns-in-Ok : goal.returns-in-Ok
returns-in-Ok c = rw c.in-Ok.is (behind c.put_text-next.ensures (behind c.put_end-next.ensures.0 c.put_counts.ensures.0), c.put_counts.ensures.1)
