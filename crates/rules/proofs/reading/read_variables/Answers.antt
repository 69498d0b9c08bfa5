-- `read_variables` reads the variables word and the goal of a relation, as `read_variables` says.
use native.Mathlib.Omega.{arith}
use Rattle.rules.proofs.Readers.{passed_on, word_read, variables_stop, variables_wrong, variables_rest}
use Rattle.rules.proofs.reading.read_variables.Goals as goal

pub returns-in_err-next : goal.returns-in_err-next
returns-in_err-next c = rw (passed_on _ _ c.from_residual.ensures.1) (variables_stop _ _ _ _ _ _ c.in_err-next.ensures)

pub part_at-vars-requires : goal.part_at-vars-requires
part_at-vars-requires c = omega (arith, (word_read _ _ _ _ _ c.in_ok-next.ensures).before_end)

pub returns-then-vars-gt255 : goal.returns-then-vars-gt255
returns-then-vars-gt255 c = rw c.at.ensures (variables_wrong _ _ _ _ _ _ _ c.in_ok-next.ensures c.part_at-vars.ensures c.then-vars-gt255.either)

pub returns : goal.returns
returns c = variables_rest _ _ _ _ _ _ _ c.in_ok-next.ensures c.part_at-vars.ensures c.if-vars-gt255.false c.if-vars-params.false _ c.read_body.ensures
