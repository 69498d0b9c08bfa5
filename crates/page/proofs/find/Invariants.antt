-- `find` finds what the walk past so many answers finds: the walk from here, past those that are left to pass, comes to the same.
use Prim.Native.Nat.{◌-◌}
use mathlib.Core.Path.{◌≡◌}
use Rattle.page.specs.Page.{find, walk}
use Rattle.page.proofs.find.Given as goal

abbrev pub invariant-loop : goal.invariant-loop
invariant-loop l = walk l.page (l.answer - l.counter) l.at ≡ find l.page l.answer
