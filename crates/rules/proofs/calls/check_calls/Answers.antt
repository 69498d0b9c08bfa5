-- `check_calls` goes through the items of the program to the first fault of a call.
use mathlib.Core.Path.{sym, ap, ◌∙◌}
use native.Mathlib.Omega.{arith}
use Rattle.rules.specs.Accept.{judge}
use Rattle.rules.specs.Verdict.{said}
use Rattle.rules.proofs.Readers.{passed_on}
use Rattle.rules.proofs.Pass.{start_items, next_item, items_none}
use Rattle.rules.proofs.calls.check_calls.Goals as goal

pub loop-at-init : goal.loop-at-init
loop-at-init c = λ P h. start_items _ P h

pub check_item-requires : goal.check_item-requires
check_item-requires c = let r = next_item _ _ _ _ (c.loop-at.invariant c.requires.0 c.requires.1) c.loop-at-test.true in (c.requires.0, r.0, r.1, r.2)

pub returns-in_err-at : goal.returns-in_err-at
returns-in_err-at c = rw (passed_on _ _ c.from_residual.ensures.1) (λ P h.
    let r = next_item _ P _ _ (c.loop-at.invariant P h) c.loop-at-test.true in
    sym (ap (λ f. said (judge P f)) (r.3 ∙ c.in_err-at.ensures P r.0 r.1 r.2)))

pub loop-at-smaller : goal.loop-at-smaller
loop-at-smaller c = let P = c.requires.0 in
    let r = next_item _ P _ _ (c.loop-at.invariant P c.requires.1) c.loop-at-test.true in
    let m = c.in_ok-at.ensures P r.0 r.1 r.2 in
    omega (arith, m.1.to, m.3, c.loop-at-test.true)

pub loop-at-preserved : goal.loop-at-preserved
loop-at-preserved c = λ P h.
    let r = next_item _ P _ _ (c.loop-at.invariant P h) c.loop-at-test.true in
    let m = c.in_ok-at.ensures P r.0 r.1 r.2 in
    (m.0, m.1, r.3 ∙ m.2)

pub returns : goal.returns
returns c = λ P h. let q = c.loop-at.invariant P h in sym (ap (λ f. said (judge P f)) (q.2 ∙ items_none _ P _ _ q.1 c.loop-at-test.false))
