-- `view` gives the words of what `find` finds, where they stand; an answer that is found is on the page whole.
use Prim.Native.Nat.{ℕ, ◌+◌, ◌*◌}
use mathlib.Core.Path.{◌≡◌, ◌∙◌, ap, sym}
use native.Mathlib.Omega.{arith}
use Rattle.page.specs.Page.{find, part, part_ptr, part_words}
use Rattle.page.proofs.WalkLaws.{Whole, walked_whole}
use Rattle.page.proofs.view.Goals as goal
use Rattle.page.proofs.view.Goals.{In-Ok}

found : (c : In-Ok) → find c.args.page.now c.args.answer ≡ part c.in-Ok.part.start c.in-Ok.part.end
found c = sym (rw c.in-Ok.is at c.find.ensures)

whole : (c : In-Ok) → Whole c.args.page.now c.in-Ok.part.start c.in-Ok.part.end
whole c = (walked_whole c.args.page.now c.args.answer 0 c.in-Ok.part.start c.in-Ok.part.end (found c)).1

pub offset_bounds-page-part : goal.offset_bounds-page-part
offset_bounds-page-part c = omega (arith, (whole (goal.at.offset_bounds-page-part c).In-Ok).on_page)

pub slice_bounds-result-count : goal.slice_bounds-result-count
slice_bounds-result-count c = omega (arith, (whole (goal.at.slice_bounds-result-count c).In-Ok).is_end)

pub slice_bounds-result-start : goal.slice_bounds-result-start
slice_bounds-result-start c = omega (arith, (whole (goal.at.slice_bounds-result-start c).In-Ok).is_end)

pub slice_bounds-result-end : goal.slice_bounds-result-end
slice_bounds-result-end c = omega (arith, (whole (goal.at.slice_bounds-result-end c).In-Ok).fits)

pub returns-in-Ok : goal.returns-in-Ok
returns-in-Ok c =
    let page = c.args.page.ref_ptr in
    let bytes : c.in-Ok.part.start * 4 + page.1 ≡ page.1 + 4 * c.in-Ok.part.start = omega arith in
    (ap (part_words c.args.page.now) (sym (found (goal.at.returns-in-Ok c).In-Ok)), ap (λ (n : ℕ). (page.0, n)) bytes ∙ ap (part_ptr page) (sym (found (goal.at.returns-in-Ok c).In-Ok)))

pub returns-in-Err : goal.returns-in-Err
returns-in-Err c = let page = c.args.page in
    let none = rw c.in-Err.is at c.find.ensures in
    (ap (part_words page.now) none, ap (part_ptr page.ref_ptr) none)
