-- `clear` sets words to 0.
use Prim.Native.Nat.{◌-◌}
use mathlib.Core.Path.{◌≡◌, ap, sym, ◌∙◌}
use native.Mathlib.Omega.{arith}
use borrow.Author.Rules.{rules}
use borrow.Rule.Slice.PartMut.{put_mid}
use lib.ListN.{replicate, length, take, drop, length-drop}
use Rattle.engine.proofs.ClearLaws.{clear_filled, clear_done}
use Rattle.engine.proofs.clear.clear.Goals as goal

pub returns-then-from-end : goal.returns-then-from-end
returns-then-from-end c =
    let ws = c.args.words.now in
    let from = c.args.from in
    let k = c.min-end.result - from in
    let zeros : c.fill.new.self ≡ replicate (length (take k (drop from ws))) 0 = c.fill.ensures.after (search rules) in
    ap (put_mid from k ws) zeros ∙ clear_filled ws from c.args.to k (omega (arith, c.min-end.ensures, length-drop from ws))

pub returns-else-from-end : goal.returns-else-from-end
returns-else-from-end c = sym (clear_done c.args.words.now c.args.from c.args.to (omega (arith, c.min-end.ensures)))
