-- Kind, colon, payload.
use Prim.Native.Nat.{◌≤◌}
use mathlib.Core.Path.{◌≡◌, ◌∙◌, ap}
use native.Mathlib.Omega.{arith}
use lib.ListN.{length}
use Rattle.word.specs.Word.{kind, payload}
use Rattle.list_text.specs.Listing.{decimal}
use Rattle.list_text.proofs.DecimalLaws.{decimal_short}
use Rattle.list_text.proofs.TextLaws.{behind}
use Rattle.list_text.proofs.answers.put_word.Goals as goal
use Rattle.list_text.proofs.answers.put_word.Goals.{After-payload-payload}

kind_is : (c : After-payload-payload) → c.number-kind.result ≡ kind c.args.bits
kind_is c = c.number-kind.ensures ∙ c.kind.ensures ∙ ap kind c.from_bits-word.ensures

kind_short : (c : After-payload-payload) → length (decimal c.number-kind.result) ≤ 2
kind_short c = decimal_short 1 _ (omega (arith, (kind_is c), c.ranges.bits))

payload_is : (c : After-payload-payload) → c.payload-payload.result ≡ payload c.args.bits
payload_is c = c.payload-payload.ensures ∙ ap payload c.from_bits-word.ensures

payload_short : (c : After-payload-payload) → length (decimal c.payload-payload.result) ≤ 9
payload_short c = decimal_short 8 _ (omega (arith, (payload_is c)))

pub put_number-next-requires : goal.put_number-next-requires
put_number-next-requires c =
    omega (arith, (kind_short (goal.at.put_number-next-requires c).After-payload-payload))

pub put_byte-next-requires : goal.put_byte-next-requires
put_byte-next-requires c =
    omega (arith, c.put_number-next.ensures.is_next, (kind_short (goal.at.put_byte-next-requires c).After-payload-payload))

pub put_number-requires : goal.put_number-requires
put_number-requires c =
    omega (arith, c.put_number-next.ensures.is_next, c.put_byte-next.ensures.is_next, (kind_short (goal.at.put_number-requires c).After-payload-payload), (payload_short (goal.at.put_number-requires c).After-payload-payload))

pub returns : goal.returns
returns c =
    (behind (rw (kind_is (goal.at.returns c).After-payload-payload) at c.put_number-next.ensures) (behind c.put_byte-next.ensures (rw (payload_is (goal.at.returns c).After-payload-payload) at c.put_number.ensures)), omega (arith, c.put_number-next.ensures.is_next, c.put_byte-next.ensures.is_next, c.put_number.ensures.is_next, (kind_short (goal.at.returns c).After-payload-payload), (payload_short (goal.at.returns c).After-payload-payload)))
