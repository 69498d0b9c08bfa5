-- `read_word` reads a word of one kind as `read_word` says.
use Rattle.std.proofs.Common.{ap, rules}
use Rattle.word.specs.Kind.{kind_number}
use Rattle.word.proofs.KindLaws.{kind_number_other}
use Rattle.rules.proofs.Readers.{word_missing, word_wrong, word_right}
use Rattle.rules.proofs.reading.read_word.Goals as goal

pub returns-then-end-at : goal.returns-then-end-at
returns-then-end-at c = rw c.at.ensures (word_missing _ _ _ _ c.if-end-at.true)

pub returns-then-ne : goal.returns-then-ne
returns-then-ne c = rw c.at-then-ne.ensures (word_wrong _ _ _ _ _ _ c.if-end-at.false c.part_at.ensures (kind_number_other _ c.args.kind (search rules)))

pub returns : goal.returns
returns c = word_right _ _ _ _ _ _ c.if-end-at.false c.part_at.ensures (ap kind_number {y = c.args.kind} (search rules))
