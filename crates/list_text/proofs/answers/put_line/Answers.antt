-- Word after word.
use mathlib.Core.Path.{◌∙◌}
use native.Mathlib.Omega.{arith}
use lib.ListN.{length, drop, take}
use Prim.Native.Nat.{◌-◌}
use Rattle.list_text.specs.Listing.{codes, word_text}
use Rattle.std.proofs.lemmas.List.{take_rest}
use Rattle.list_text.proofs.LineLaws.{line_first, line_last, line_next}
use Rattle.list_text.proofs.TextLaws.{behind, last, step}
use Rattle.list_text.proofs.answers.put_line.Goals as goal

pub loop-word-preserved : goal.loop-word-preserved
loop-word-preserved c = (omega (arith, c.put_word-next-in-loop-word.ensures.1, c.put_byte-next.ensures.is_next), step (word_text _) (step (codes " ") (rw (line_next _ _ c.loop-word-test.true) at c.loop-word.invariant.1) c.put_byte-next.ensures) c.put_word-next-in-loop-word.ensures.0, c.put_word-next-in-loop-word.auto.out ∙ c.put_byte-next.auto.out ∙ c.loop-word.invariant.2)

pub returns : goal.returns
returns c =
    let words = c.args.words.now in
    let rest = take (length words - 1) (drop 1 words) in
    let left = rw (line_last rest c.loop-word.word-index c.loop-word-test.false) at c.loop-word.invariant.1 in (
      rw (line_first words c.requires.0) (behind c.put_word-next.ensures.0 (last (codes "\n") (rw (take_rest words 1) at left) c.put_byte.ensures)),
      omega (arith, c.put_word-next.ensures.1, c.loop-word.invariant.0, c.put_byte.ensures.is_next, c.requires.0),
    )
