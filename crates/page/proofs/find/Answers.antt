-- `find` finds what the walk past so many answers finds: the walk from here, past those that are left to pass, comes to the same.
use Prim.Native.Nat.{ℕ, suc, ◌+◌, ◌-◌}
use mathlib.Core.Path.{◌≡◌, ◌∙◌, ap, sym}
use native.Mathlib.Omega.{arith}
use Rattle.page.specs.Page.{walk}
use Rattle.page.proofs.WalkLaws.{passes}
use Rattle.page.proofs.find.Goals as goal

pub loop-preserved : goal.loop-preserved
loop-preserved c =
    let page = c.args.page.now in
    let ahead = c.args.answer - (c.loop.counter + 1) in
    let one_more : suc ahead ≡ c.args.answer - c.loop.counter = omega (arith, c.loop-test.true) in
    sym (passes page ahead c.loop.at _ _ (sym (c.in_ok-at.ensures)))
    ∙ ap (λ (n : ℕ). walk page n c.loop.at) one_more ∙ c.loop.invariant
