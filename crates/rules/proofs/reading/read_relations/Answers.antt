-- `read_relations` reads all relations, as `read_relations` says.
use native.Mathlib.Omega.{arith}
use Rattle.rules.proofs.Readers.{passed_on, relations_end, relations_stop, relations_next, relation_ahead}
use Rattle.rules.proofs.reading.read_relations.Goals as goal

pub returns-in_err-at : goal.returns-in_err-at
returns-in_err-at c = rw (passed_on _ _ c.from_residual.ensures.1) (λ f d. c.loop-at.invariant _ (relations_stop _ _ _ _ _ c.loop-at-test.true c.in_err-at.ensures) f (omega arith))

pub overflow_add-before : goal.overflow_add-before
overflow_add-before c = omega (arith, (relation_ahead _ _ _ _ c.loop-at-test.true c.in_ok-at.ensures).1)

pub loop-at-smaller : goal.loop-at-smaller
loop-at-smaller c = omega (arith, (relation_ahead _ _ _ _ c.loop-at-test.true c.in_ok-at.ensures).0.past, c.loop-at-test.true)

pub loop-at-preserved : goal.loop-at-preserved
loop-at-preserved c = λ o h. c.loop-at.invariant o (relations_next _ _ _ _ c.loop-at-test.true c.in_ok-at.ensures o h)

pub returns : goal.returns
returns c = λ f d. c.loop-at.invariant _ (relations_end _ _ _ c.loop-at-test.false) f (omega arith)
