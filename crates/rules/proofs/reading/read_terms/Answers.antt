-- `read_terms` reads terms up to the end of their part, as `read_terms` says.
use native.Mathlib.Omega.{arith}
use Rattle.rules.proofs.Readers.{passed_on, terms_end, terms_stop, terms_next, term_ahead}
use Rattle.rules.proofs.reading.read_terms.Goals as goal

pub returns-in_err-at : goal.returns-in_err-at
returns-in_err-at c = rw (passed_on _ _ c.from_residual.ensures.1) (c.loop-at.invariant _ (terms_stop _ _ _ _ _ _ c.loop-at-test.true c.in_err-at.ensures))

pub loop-at-smaller : goal.loop-at-smaller
loop-at-smaller c = omega (arith, (term_ahead _ _ _ _ _ c.in_ok-at.ensures).past, c.loop-at-test.true)

pub loop-at-preserved : goal.loop-at-preserved
loop-at-preserved c = λ o h. c.loop-at.invariant o (terms_next _ _ _ _ _ c.loop-at-test.true c.in_ok-at.ensures o h)

pub returns : goal.returns
returns c = c.loop-at.invariant _ (terms_end _ _ _ _ c.loop-at-test.false)
