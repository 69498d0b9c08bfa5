-- `type_lines` looks at the term's nodes, then adds its line if it is an open variable.
use Rattle.std.proofs.lemmas.Result.{err_from_is_err_and}
use Rattle.semantics.specs.Substitution.{walk}
use Rattle.semantics.specs.Answer.{typed_lines}
use Rattle.engine.proofs.ConstraintLaws.{term_stops, term_done, typed_adds, typed_page}
use Rattle.engine.proofs.writer.constraint.type_lines.Goals as goal

pub returns-in_err-rest : goal.returns-in_err-rest
returns-in_err-rest c =
    let p = err_from_is_err_and c.from_residual.result c.from_residual.ensures.1 in
    rw (p.1, p.2) (λ g bs k t f e. term_stops g f.binds t c.args.steps (typed_lines k (walk bs t)) _ (c.in_err-rest.ensures bs t f))

pub add_typed-next-requires : goal.add_typed-next-requires
add_typed-next-requires c = let p = c.requires.1 in typed_adds p.1 c.requires.0 p.3 p.4

pub returns : goal.returns
returns c = λ g bs k t f e. term_done g f.binds t c.args.steps (typed_lines k (walk bs t)) _ (c.in_ok-rest.ensures bs t f) (typed_page k g f e c.add_typed-next.ensures)
