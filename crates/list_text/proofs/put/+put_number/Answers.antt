-- The digits before the last, then the last.
use Prim.Native.Nat.{ℕ, ◌+◌, ◌/◌, ◌%◌, ◌<◌}
use mathlib.Core.List.{[], ◌∷◌}
use native.Mathlib.Omega.{arith}
use lib.ListN.{length, length-append}
use Rattle.list_text.specs.Listing.{decimal, digit}
use Rattle.list_text.proofs.DecimalLaws.{one_digit, more_digits}
use Rattle.list_text.proofs.TextLaws.{behind}
use Rattle.list_text.proofs.put.+put_number.Goals as goal
use Rattle.list_text.proofs.put.+put_number.Goals.{Else-n-lt10}

-- there is room for the digits before the last, and for the last
room_at : (t : ℕ) (c : Else-n-lt10 t) → c.args.at + length (decimal (c.args.n / 10)) < 65536
room_at t c = let n = c.args.n in
    let room = rw (more_digits n c.if-n-lt10.false) at c.requires in
    omega (arith, length-append (decimal (n / 10)) (digit (n % 10) ∷ []))

pub put_byte-requires : goal.put_byte-requires
put_byte-requires t c = let room = rw (one_digit c.args.n c.if-n-lt10.true) at c.requires in omega arith

pub returns-then-n-lt10 : goal.returns-then-n-lt10
returns-then-n-lt10 t c = rw (one_digit _ c.if-n-lt10.true) c.put_byte.ensures

pub put_number-last-requires : goal.put_number-last-requires
put_number-last-requires t c =
    (omega (arith, c.decreases), omega (arith, (room_at t (goal.at.put_number-last-requires t c).Else-n-lt10)))

pub put_byte-requires-2 : goal.put_byte-requires-2
put_byte-requires-2 t c =
    omega (arith, (room_at t (goal.at.put_byte-requires-2 t c).Else-n-lt10), c.put_number-last.ensures.is_next)

pub returns : goal.returns
returns t c = rw (more_digits _ c.if-n-lt10.false) (behind c.put_number-last.ensures c.put_byte-2.ensures)
