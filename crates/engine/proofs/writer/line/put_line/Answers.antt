use Rattle.engine.proofs.LineLaws.{typed_line, typed_words, typed_member, lacks_line, lacks_words, lacks_member}
use mathlib.Core.Path.{refl}
use Rattle.engine.proofs.TermLaws.{puts_at}
use Rattle.engine.proofs.writer.line.put_line.Goals as goal

pub returns-in-Typed : goal.returns-in-Typed
returns-in-Typed c = λ l names h g. let d = typed_line h c.in-Typed.is in typed_words names d (c.put_typed.ensures names (puts_at g refl g.from (typed_member names d g.known)))

pub returns-in-Lacks : goal.returns-in-Lacks
returns-in-Lacks c = λ l names h g. let d = lacks_line h c.in-Lacks.is in lacks_words names d (c.put_lacks.ensures names (puts_at g refl g.from (lacks_member names d g.known)))
