use native.Mathlib.Omega.{arith}
use mathlib.Core.List.{◌∷◌}
use mathlib.Core.Path.{refl}
use Rattle.engine.proofs.TermLaws.{puts_at, laid_of, laid_room}
use Rattle.engine.proofs.LineLaws.{differ_one, differ_full, differ_missed, differ_put}
use Rattle.engine.proofs.writer.line.put_differ.Goals as goal

pub returns-then-count-eq1 : goal.returns-then-count-eq1
returns-then-count-eq1 c = λ b cs names h g. differ_one names b cs h.count_is c.if-count-eq1.true (c.put_equations.ensures (b ∷ cs) names h g)

pub returns-then-end-start : goal.returns-then-end-start
returns-then-end-start c = λ b cs names h g. differ_full names b cs h.count_is c.if-count-eq1.false c.if-end-start.true

pub returns-in_err-next : goal.returns-in_err-next
returns-in_err-next c = rw c.from_residual.ensures (λ b cs names h g.
    differ_missed names b cs h.count_is c.if-count-eq1.false (c.put_equations-2.ensures (b ∷ cs) names h (puts_at g refl (omega (arith, c.if-end-start.false)) g.known)) c.in_err-next.was)

pub put_head-requires : goal.put_head-requires
put_head-requires c = let q = c.requires in let d = laid_of (c.put_equations-2.ensures (q.0 ∷ q.1) q.2 q.3 (puts_at q.4 refl (omega (arith, c.if-end-start.false)) q.4.known)) c.in_ok-next.was in (omega (arith, d.is), laid_room q.4.room d)

pub returns : goal.returns
returns c = λ b cs names h g. differ_put names b cs h.count_is c.if-count-eq1.false (c.put_head.ensures _ _ _ (laid_of (c.put_equations-2.ensures (b ∷ cs) names h (puts_at g refl (omega (arith, c.if-end-start.false)) g.known)) c.in_ok-next.was))
