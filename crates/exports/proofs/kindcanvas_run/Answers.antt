-- `kindcanvas_run` is `run`, with its result in numbers.
use mathlib.Core.List.{[]}
use Rattle.exports.proofs.NumberLaws.{place_fits, called_short, called_run}
use Rattle.exports.proofs.kindcanvas_run.Goals as goal

pub returns-then-numbers-lt8 : goal.returns-then-numbers-lt8
returns-then-numbers-lt8 c = called_short _ _ _ _ _ _ c.if-numbers-lt8.true

pub numbered-requires : goal.numbered-requires
numbered-requires c = place_fits _ _ _ _ _ [] _ _ _ c.run-returned.ensures

pub returns : goal.returns
returns c = rw (c.copy_from_slice.ensures.after, c.numbered.ensures) (called_run _ _ _ _ _ _ _ _ _ c.if-numbers-lt8.false c.run-returned.ensures)
