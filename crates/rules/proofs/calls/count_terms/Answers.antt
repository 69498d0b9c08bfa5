-- `count_terms` counts the terms that fill a part.
use native.Mathlib.Omega.{arith}
use Rattle.rules.proofs.Pass.{term_first, term_rest, terms_none}
use Rattle.rules.proofs.calls.count_terms.Goals as goal

pub skip_term-at-requires : goal.skip_term-at-requires
skip_term-at-requires c = term_first _ _ _ _ (c.loop-at.invariant.1 c.requires.0 c.requires.1).1 c.loop-at-test.true

pub loop-at-smaller : goal.loop-at-smaller
loop-at-smaller c = omega (arith, c.loop-at-test.true, (term_rest _ _ _ _ _ (c.loop-at.invariant.1 c.requires.0 c.requires.1).1 c.loop-at-test.true c.skip_term-at.ensures).3)

pub loop-at-preserved : goal.loop-at-preserved
loop-at-preserved c = (
  omega (arith, c.loop-at.invariant.0, (term_rest _ _ _ _ _ (c.loop-at.invariant.1 c.requires.0 c.requires.1).1 c.loop-at-test.true c.skip_term-at.ensures).3),
  λ ts h. let q = c.loop-at.invariant.1 ts h in let r = term_rest _ _ _ _ _ q.1 c.loop-at-test.true c.skip_term-at.ensures in (r.0, r.1, omega (arith, q.2, r.2)),
)

pub returns : goal.returns
returns c = λ ts h. let q = c.loop-at.invariant.1 ts h in omega (arith, q.2, terms_none _ _ _ _ q.1 c.loop-at-test.false)
