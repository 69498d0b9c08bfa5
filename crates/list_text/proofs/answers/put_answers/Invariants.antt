-- Answer after answer, as the walk over the page finds them.
use Prim.Native.Nat.{◌+◌, ◌*◌, ◌-◌, ◌≤◌}
use mathlib.Core.List.{map}
use mathlib.Core.Path.{◌≡◌}
use lib.ListN.{length}
use Rattle.page.specs.Page.{answers_left, answers_on}
use Rattle.rules.specs.Lists.{joined}
use Rattle.list_text.specs.Listing.{line}
use Rattle.list_text.proofs.TextLaws.{Left}
use Rattle.list_text.proofs.answers.put_answers.Given as goal

abbrev pub invariant-loop-part : goal.invariant-loop-part
invariant-loop-part l = (l.i ≤ length l.page) × (l.next ≤ l.at + 13 * l.i) × Left (joined (map line (answers_on l.page))) l.at l.initial.out (joined (map line (answers_left l.page l.i))) l.next l.out × (length l.out ≡ length l.initial.out)

abbrev pub decreases-loop-part : goal.decreases-loop-part
decreases-loop-part l = length l.page - l.i
