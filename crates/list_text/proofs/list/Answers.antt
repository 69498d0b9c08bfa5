-- What `run` promises gives the text.
use Rattle.list_text.proofs.ListLaws.{list_text}
use Rattle.list_text.proofs.list.Goals as goal

pub returns : goal.returns
returns c = (list_text c.requires.1 c.run-report.ensures c.put_report-next.ensures.0 c.put_answers.ensures.0, c.put_answers.ensures.1)
