-- `kinds_of_type` tells the two types apart.
use Rattle.engine.proofs.ReviewSteps.{kinds_of_symbolo, kinds_of_numbero}
use Rattle.engine.proofs.terms.review.kinds_of_type.Goals as goal

pub returns-in-Symbolo : goal.returns-in-Symbolo
returns-in-Symbolo c = λ k e. kinds_of_symbolo c.in-Symbolo.is k e

pub returns-in_default : goal.returns-in_default
returns-in_default c = λ k e. kinds_of_numbero c.in_default.not-Symbolo k e
