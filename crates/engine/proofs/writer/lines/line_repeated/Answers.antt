use mathlib.Core.Path.{ap, ◌∙◌}
use lib.ListN.{length}
use Rattle.engine.proofs.RowLaws.{row_next, row_end, row_found, row_on, row_moved}
use Rattle.engine.proofs.AddLineLaws.{puts_between}
use Rattle.engine.proofs.writer.lines.line_repeated.Goals as goal

pub same_line-requires : goal.same_line-requires
same_line-requires c =
    let q = c.requires in let r = row_next (c.loop-place.invariant.1 q.0 q.1 q.2 q.3 q.4 q.5) c.loop-place-test.true c.from_bits.ensures c.payload-size.ensures in
    (q.1, q.2, q.4, puts_between q.5 (ap length c.loop-place.invariant.0) r.here r.inside)

pub returns-then-same_line : goal.returns-then-same_line
returns-then-same_line c = (
  c.same_line.ensures.0 ∙ c.loop-place.invariant.0,
  λ ws l names h i g.
      let r = row_next (c.loop-place.invariant.1 ws l names h i g) c.loop-place-test.true c.from_bits.ensures c.payload-size.ensures in
      row_found r (c.same_line.ensures.1 l names r.one i (puts_between g (ap length c.loop-place.invariant.0) r.here r.inside) r.here) c.if-same_line.true,
)

pub loop-place-preserved : goal.loop-place-preserved
loop-place-preserved c = (
  c.same_line.ensures.0 ∙ c.loop-place.invariant.0,
  λ ws l names h i g.
      let r = row_next (c.loop-place.invariant.1 ws l names h i g) c.loop-place-test.true c.from_bits.ensures c.payload-size.ensures in
      row_moved c.same_line.ensures.0 (row_on r (c.same_line.ensures.1 l names r.one i (puts_between g (ap length c.loop-place.invariant.0) r.here r.inside) r.here) c.if-same_line.false),
)

pub returns : goal.returns
returns c = (c.loop-place.invariant.0, λ ws l names h i g. row_end (c.loop-place.invariant.1 ws l names h i g) c.loop-place-test.false)
