-- Answer after answer, as the walk over the page finds them.
use Prim.Native.Nat.{◌-◌}
use mathlib.Core.Path.{◌≡◌, ◌∙◌, sym}
use native.Mathlib.Omega.{arith}
use lib.ListN.{length, length-drop, length-take}
use Rattle.page.specs.Page.{answer_at, between, part}
use Rattle.page.proofs.AnswersLaws.{answers_step}
use Rattle.page.proofs.WalkLaws.{Whole, whole_at}
use Rattle.list_text.specs.Listing.{line}
use Rattle.list_text.proofs.TextLaws.{step}
use Rattle.list_text.proofs.answers.put_answers.Goals as goal
use Rattle.list_text.proofs.answers.put_answers.Goals.{In-Ok}

found : (c : In-Ok) → answer_at c.args.page.now c.loop-part.i ≡ part c.in-Ok.part.start c.in-Ok.part.end
found c = sym c.in-Ok.ensures

whole : (c : In-Ok) → Whole c.args.page.now c.loop-part.i c.in-Ok.part.end
whole c = (whole_at c.args.page.now c.loop-part.i c.in-Ok.part.start c.in-Ok.part.end (found c)).1

long : (c : In-Ok) → length (between c.args.page.now c.loop-part.i c.in-Ok.part.end) ≡ c.in-Ok.part.end - c.loop-part.i
long c = simp (length-take, length-drop) (omega (arith, (whole c).fits))

pub loop-part-preserved : goal.loop-part-preserved
loop-part-preserved c =
    let inv = c.loop-part.invariant in (
      (whole (goal.at.loop-part-preserved c).In-Ok).fits,
      omega (arith, (long (goal.at.loop-part-preserved c).In-Ok), (whole (goal.at.loop-part-preserved c).In-Ok).is_end, inv.1, c.put_line-next.ensures.1),
      step (line (between c.args.page.now c.loop-part.i c.in-Ok.part.end)) (rw (answers_step c.args.page.now c.loop-part.i (part c.in-Ok.part.start c.in-Ok.part.end) (found (goal.at.loop-part-preserved c).In-Ok)) at inv.2) c.put_line-next.ensures.0,
      c.put_line-next.auto.out ∙ inv.3,
    )
