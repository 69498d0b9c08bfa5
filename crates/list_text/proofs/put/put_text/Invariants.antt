-- Byte after byte.
use Prim.Native.Nat.{◌+◌}
use mathlib.Core.Path.{◌≡◌}
use lib.ListN.{length, drop}
use Rattle.list_text.proofs.TextLaws.{Left}
use Rattle.list_text.proofs.put.put_text.Given as goal

abbrev pub invariant-loop-byte : goal.invariant-loop-byte
invariant-loop-byte l = (l.next ≡ l.at + l.byte-index) × Left l.text l.at l.initial.out (drop l.byte-index l.text) l.next l.out × (length l.out ≡ length l.initial.out)
