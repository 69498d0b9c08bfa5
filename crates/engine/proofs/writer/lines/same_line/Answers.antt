use mathlib.Core.Path.{◌∙◌}
use Rattle.engine.proofs.AddLineLaws.{same_said, read_back}
use Rattle.engine.proofs.writer.lines.same_line.Goals as goal

pub returns : goal.returns
returns c = let q = c.requires in (read_back (c.put_line.ensures q.0 q.1 q.2 q.3), λ l names w h g s. c.eq.ensures ∙ same_said w (c.put_line.ensures l names h g) s)
