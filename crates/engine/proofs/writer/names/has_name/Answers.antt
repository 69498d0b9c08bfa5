use Rattle.engine.proofs.NameLaws.{name_asked}
use Rattle.engine.proofs.writer.names.has_name.Goals as goal

pub returns : goal.returns
returns c = λ names g. name_asked g.named _ c.requires.1
