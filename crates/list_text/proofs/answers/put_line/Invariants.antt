-- Word after word.
use Prim.Native.Nat.{◌+◌, ◌*◌, ◌≤◌}
use mathlib.Core.Path.{◌≡◌}
use lib.ListN.{length, drop}
use Rattle.list_text.specs.Listing.{line_behind}
use Rattle.list_text.proofs.TextLaws.{Left}
use Rattle.list_text.proofs.answers.put_line.Given as goal

abbrev pub invariant-loop-word : goal.invariant-loop-word
invariant-loop-word l = (l.next ≤ l.initial.next + 13 * l.word-index) × Left (line_behind l.word-items) l.initial.next l.initial.out (line_behind (drop l.word-index l.word-items)) l.next l.out × (length l.out ≡ length l.initial.out)
