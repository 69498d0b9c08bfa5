-- The check enters a pair, unless the way led through a variable that was entered before.
use Rattle.std.proofs.Common.{rules}
use Rattle.engine.proofs.OccursSteps.{enters_unbound, enters_told}
use Rattle.engine.proofs.terms.occurs.OnceEntering.enters.Goals as goal

pub returns-in-Some : goal.returns-in-Some
returns-in-Some c = λ sought bs u m es h. enters_told _ sought bs es u m c.in-Some.is c.enters_now.result c.enters_now.ensures (search rules) h

pub returns-in-None : goal.returns-in-None
returns-in-None c = λ sought bs u m es h. enters_unbound _ sought bs es u m c.in-None.is h
