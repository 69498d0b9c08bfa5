use native.Mathlib.Omega.{arith}
use Rattle.engine.proofs.LineLaws.{check_next, check_fails, check_on}
use Rattle.engine.proofs.writer.line.equations_named.Goals as goal

pub equation_named-requires : goal.equation_named-requires
equation_named-requires c = let q = c.requires in let g = check_next (c.loop-i.invariant q.0 q.1 q.2 q.3) c.loop-i-test.true in (omega (arith, c.loop-i-test.true, q.2.few), (g.one, q.1, g.here, q.3))

pub returns-then-not-equation_named : goal.returns-then-not-equation_named
returns-then-not-equation_named c = λ cs names h n. let g = check_next (c.loop-i.invariant cs names h n) c.loop-i-test.true in check_fails g (c.equation_named.ensures g.one names g.here n) c.if-not-equation_named.true

pub loop-i-preserved : goal.loop-i-preserved
loop-i-preserved c = λ cs names h n. let g = check_next (c.loop-i.invariant cs names h n) c.loop-i-test.true in check_on g (c.equation_named.ensures g.one names g.here n) c.if-not-equation_named.false
