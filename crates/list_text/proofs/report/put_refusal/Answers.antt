-- Each text behind the one before it.
use Prim.Native.Nat.{◌≤◌}
use native.Mathlib.Omega.{arith}
use lib.ListN.{length}
use Rattle.list_text.specs.Listing.{decimal}
use Rattle.list_text.proofs.DecimalLaws.{decimal_short}
use Rattle.list_text.proofs.TextLaws.{behind}
use Rattle.list_text.proofs.report.put_refusal.Goals as goal
use Rattle.list_text.proofs.report.put_refusal.Goals.{After-number, After-place}

number_short : (c : After-number) → length (decimal c.number.result) ≤ 10
number_short c = decimal_short 9 c.number.result (omega (arith, c.number.type_inv))

place_short : (c : After-place) → length (decimal c.place.result) ≤ 20
place_short c = decimal_short 19 c.place.result (omega (arith, c.place.type_inv))

pub put_number-next-requires : goal.put_number-next-requires
put_number-next-requires c = omega (arith, number_short (goal.at.put_number-next-requires c).After-number)

pub put_text-next-requires-2 : goal.put_text-next-requires-2
put_text-next-requires-2 c = omega (arith, number_short (goal.at.put_text-next-requires-2 c).After-number)

pub put_number-next-requires-2 : goal.put_number-next-requires-2
put_number-next-requires-2 c = omega (arith, number_short (goal.at.put_number-next-requires-2 c).After-number, place_short (goal.at.put_number-next-requires-2 c).After-place)

pub put_text-requires : goal.put_text-requires
put_text-requires c = omega (arith, number_short (goal.at.put_text-requires c).After-number, place_short (goal.at.put_text-requires c).After-place)

pub returns : goal.returns
returns c = (
  rw (← c.number.ensures, ← c.place.ensures) (behind c.put_text-next.ensures (behind c.put_number-next.ensures (behind c.put_text-next-2.ensures (behind c.put_number-next-2.ensures c.put_text.ensures)))),
  omega (arith, number_short (goal.at.returns c).After-number, place_short (goal.at.returns c).After-place),
)
