-- Without marks a pair is entered where it stands.
use Rattle.engine.proofs.OccursSteps.{unmarked_enters}
use Rattle.engine.proofs.terms.occurs.UnmarkedEntering.enters.Goals as goal

pub returns-in-None : goal.returns-in-None
returns-in-None c = λ sought bs u m es h. unmarked_enters sought bs u m c.in-None.is
