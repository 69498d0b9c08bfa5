use mathlib.Core.Path.{◌∙◌}
use Rattle.engine.proofs.LineLaws.{one_variable}
use Rattle.engine.proofs.writer.line.line_named.Goals as goal

pub returns-in-Typed : goal.returns-in-Typed
returns-in-Typed c = λ l names h g. c.has_name.ensures names g ∙ (one_variable h c.in-Typed.is).named names
