-- `absence_lines` looks at the term's nodes, then adds the lines of its open variables.
use mathlib.Core.List.{[]}
use Rattle.std.proofs.lemmas.Result.{err_from_is_err_and}
use Rattle.semantics.specs.Substitution.{resolve}
use Rattle.semantics.specs.Answer.{appear, lacks_each}
use Rattle.engine.proofs.ConstraintLaws.{term_stops, term_done, absento_follows, absento_adds, absento_page}
use Rattle.engine.proofs.writer.constraint.absence_lines.Goals as goal

pub look_through-requires : goal.look_through-requires
look_through-requires c = let p = c.requires.1 in (p.0, p.2, absento_follows p.3 p.4)

pub returns-in_err-rest : goal.returns-in_err-rest
returns-in_err-rest c =
    let p = err_from_is_err_and c.from_residual.result c.from_residual.ensures.1 in
    rw (p.1, p.2) (λ g bs a t h k. term_stops g h t c.args.steps (lacks_each a (appear [] (resolve bs t))) _ (c.in_err-rest.ensures bs t (absento_follows h k)))

pub add_absent-next-requires : goal.add_absent-next-requires
add_absent-next-requires c = let p = c.requires.1 in absento_adds p.3 p.4 c.requires.0 c.part_at-tag.ensures

pub returns : goal.returns
returns c = λ g bs a t h k. term_done g h t c.args.steps (lacks_each a (appear [] (resolve bs t))) _ (c.in_ok-rest.ensures bs t (absento_follows h k)) (absento_page h k g c.part_at-tag.ensures c.add_absent-next.ensures)
