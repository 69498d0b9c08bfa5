-- `find_params` goes from relation to relation to the wanted one.
use Prim.Native.Nat.{suc, ◌+◌, ◌-◌}
use mathlib.Core.Path.{◌≡◌}
use native.Mathlib.Omega.{arith}
use Rattle.rules.proofs.Pass.{relation_inside, seek_here, seek_on, seek_none}
use Rattle.rules.proofs.calls.find_params.Goals as goal

pub returns-then-program-at : goal.returns-then-program-at
returns-then-program-at c = λ P h. seek_none _ P _ _ _ (c.loop.invariant P h) c.if-program-at.true

pub loop-preserved : goal.loop-preserved
loop-preserved c = λ P h.
    let ahead : c.args.wanted - c.loop.counter ≡ suc (c.args.wanted - (c.loop.counter + 1)) = omega (arith, c.loop-test.true) in
    seek_on _ P _ _ _ _ _ (rw ahead at (c.loop.invariant P h)) c.if-program-at.false c.part_at.ensures

pub returns-then-program-at-2 : goal.returns-then-program-at-2
returns-then-program-at-2 c = λ P h. seek_none _ P _ _ _ (c.loop.invariant P h) c.if-program-at-2.true

pub part_at-requires-2 : goal.part_at-requires-2
part_at-requires-2 c = relation_inside _ _ _ (c.loop.invariant c.requires.0 c.requires.1).1 c.if-program-at-2.false

pub returns : goal.returns
returns c = λ P h. seek_here _ P _ _ _ _ _ (c.loop.invariant P h) c.if-program-at-2.false (omega (arith, c.loop-test.false)) c.part_at-2.ensures
