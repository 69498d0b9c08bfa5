-- `same` compares the words that stand there.
use native.Mathlib.Omega.{arith}
use Rattle.engine.proofs.SameLaws.{standing_each, standing_differs}
use Rattle.engine.proofs.repeats.same.same.Goals as goal

pub returns-then-words-place : goal.returns-then-words-place
returns-then-words-place c = let a = c.args in standing_differs a.words.now a.place a.answer.now c.loop-i.i (omega (arith, c.loop-i-test.true)) c.if-words-place.true

pub returns : goal.returns
returns c = let a = c.args in standing_each a.words.now a.place a.answer.now c.loop-i.i (omega (arith, c.loop-i-test.false)) c.loop-i.invariant
