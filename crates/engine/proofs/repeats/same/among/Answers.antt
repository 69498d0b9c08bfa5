-- `among` goes from header to header: of the answers that are left the same is to be told.
use Prim.Native.Nat.{◌+◌}
use mathlib.Core.Path.{ap, ◌∙◌}
use Rattle.word.specs.Word.{payload}
use Rattle.engine.proofs.RowLaws.{row_end}
use Rattle.engine.proofs.SameLaws.{standing_stretch, among_found, among_next}
use Rattle.engine.proofs.repeats.same.among.Goals as goal

pub returns-then-same : goal.returns-then-same
returns-then-same c = λ ws v h i k. among_found (c.loop-place.invariant ws v h i k) c.loop-place-test.true k (standing_stretch i c.requires.5.inside c.same.ensures) c.if-same.true

pub loop-place-preserved : goal.loop-place-preserved
loop-place-preserved c = λ ws v h i k. among_next (c.loop-place.invariant ws v h i k) c.loop-place-test.true k (standing_stretch i c.requires.5.inside c.same.ensures) c.if-same.false
    (ap (λ x. c.loop-place.place + (1 + x)) (c.payload.ensures ∙ ap payload c.from_bits.ensures))

pub returns : goal.returns
returns c = λ ws v h i k. row_end (c.loop-place.invariant ws v h i k) c.loop-place-test.false
