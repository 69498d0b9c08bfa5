-- `enter`: answers with the same words are led to from the slot where the search is, and what is entered there is led to from the home slot.
use mathlib.Core.Path.{refl, ap, ◌∙◌}
use native.Mathlib.Omega.{arith}
use lib.ListN.{length}
use Rattle.engine.specs.Index.{home}
use Rattle.engine.proofs.SameLaws.{stretch_taken, standing_stretch}
use Rattle.engine.proofs.IndexLaws.{sought_start, sought_next, sought_found, sought_empty, entry_before, seeking_inside, entered_from}
use Rattle.engine.proofs.repeats.index.enter.Goals as goal

pub loop-init : goal.loop-init
loop-init c = let a = c.args in (refl, λ ws v g. (g, sought_start g (c.home-slot.ensures.1 ∙ ap (home a.size) (stretch_taken g.words (seeking_inside g)))))

pub returns-then-entry-eq0 : goal.returns-then-entry-eq0
returns-then-entry-eq0 c = λ ws v g. let l = c.loop in let h = l.invariant.1 ws v g in entered_from l.invariant.0 (sought_empty h.0 h.1 c.if-entry-eq0.true)

pub same-requires : goal.same-requires
same-requires c =
    let q = c.requires in
    let h = c.loop.invariant.1 q.0 q.1 q.2 in
    omega (arith, ap length (stretch_taken h.0.words (seeking_inside h.0)), h.0.words.ends, seeking_inside h.0, entry_before h.0 h.1 c.if-entry-eq0.false)

pub returns-then-same : goal.returns-then-same
returns-then-same c = λ ws v g. let l = c.loop in let h = l.invariant.1 ws v g in entered_from l.invariant.0 (sought_found h.0 h.1 c.if-entry-eq0.false (standing_stretch h.0.words (seeking_inside h.0) c.same.ensures) c.if-same.true)

pub loop-preserved : goal.loop-preserved
loop-preserved c = let l = c.loop in (l.invariant.0, λ ws v g. let h = l.invariant.1 ws v g in (h.0, sought_next h.0 h.1 c.if-entry-eq0.false (standing_stretch h.0.words (seeking_inside h.0) c.same.ensures) c.if-same.false c.next_slot-slot.ensures))
