use Rattle.engine.proofs.LinesLaws.{typed_as, typed_add, typed_other}
use Rattle.engine.proofs.writer.lines.add_typed.Goals as goal

pub add_line-requires : goal.add_line-requires
add_line-requires c = let g = c.requires in (g.writing, (_, typed_as g c.follow.ensures c.in-Open.is))

pub returns-in-Open : goal.returns-in-Open
returns-in-Open c = λ g. typed_add g c.follow.ensures c.in-Open.is c.add_line.ensures

pub returns : goal.returns
returns c = λ g. typed_other g c.follow.ensures c.in_default.not-Open
