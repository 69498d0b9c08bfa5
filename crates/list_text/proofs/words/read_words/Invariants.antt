-- Word after word, as the definition has them.
use mathlib.Core.Path.{◌≡◌}
use lib.ListN.{length, take}
use Rattle.list_text.specs.Listing.{whole_words}
use Rattle.list_text.proofs.words.read_words.Given as goal

abbrev pub invariant-loop-i : goal.invariant-loop-i
invariant-loop-i l = (length l.words ≡ length l.initial.words) × (take l.i l.words ≡ take l.i (whole_words l.bytes))
