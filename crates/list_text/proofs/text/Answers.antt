-- The words that are read, on an output of zeros, list as the file does.
use Prim.Native.Nat.{min}
use lib.ListN.{replicate}
use Rattle.list_text.proofs.ListLaws.{file_text}
use Rattle.list_text.proofs.PartLaws.{zeros_lent}
use Rattle.list_text.proofs.WordLaws.{read_program}
use Rattle.rules.specs.Settings.{scratch_words}
use Rattle.list_text.proofs.text.Goals as goal

pub list-requires : goal.list-requires
list-requires c = let z = zeros_lent c.args.room 4096 c.min-lent.ensures in (z.short, z.again)

pub returns : goal.returns
returns c = file_text c.args.bytes.now c.args.rounds c.args.steps (min c.args.room 4096) (replicate scratch_words 0) (read_program c.args.bytes.now c.read_words.new.words c.word_count-count.ensures.0 c.read_words.ensures) (zeros_lent c.args.room 4096 c.min-lent.ensures).are c.list.ensures.0 c.list.ensures.1
