-- `check_marking` is the traversal that enters each bound variable once.
use mathlib.Core.List.{[]}
use Rattle.std.proofs.lemmas.Result.{err_from_is_err_and}
use Rattle.engine.proofs.MarkLaws.{fresh_marks}
use Rattle.engine.proofs.OccursSteps.{check_alone, check_stopped}
use Rattle.engine.proofs.terms.occurs.check_marking.Goals as goal

pub traverse-requires : goal.traverse-requires
traverse-requires c = let p = c.requires.1 in (p.0, p.1, [], p.2, fresh_marks)

pub returns-in_err-found : goal.returns-in_err-found
returns-in_err-found c = let p = err_from_is_err_and c.from_residual.result c.from_residual.ensures.1 in
    rw (p.1, p.2) (λ bs t f. check_stopped _ bs t _ _ (c.in_err-found.ensures bs t [] f fresh_marks) c.requires.0)

pub returns : goal.returns
returns c = λ bs t f. check_alone _ bs t _ _ (c.in_ok-found.ensures bs t [] f fresh_marks) c.requires.0
