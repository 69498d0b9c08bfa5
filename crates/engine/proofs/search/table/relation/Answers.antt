-- `relation` reads a relation's counts where the table has it.
use Prim.Native.Nat.{◌+◌, ◌≤◌, ◌<◌}
use native.Mathlib.Omega.{arith}
use lib.ListN.{length}
use Rattle.rules.specs.Settings.{most_words}
use Rattle.engine.specs.Reference.{at}
use Rattle.engine.proofs.TableLaws.{row_fits, row_read}
use Rattle.engine.proofs.search.table.relation.Goals as goal
use Rattle.engine.proofs.search.table.relation.Goals.{Start}

-- the relation that the caller knows of
row : (c : Start) → (let a = c.args in let pos = at a.scratch.now (11776 + a.number) in (a.number < 256) × (pos + 4 ≤ length a.program.now) × (pos + 4 ≤ most_words))
row c = let q = c.requires in row_fits q.0 _ _ _ q.1 q.2 q.3

pub bounds-scratch-number : goal.bounds-scratch-number
bounds-scratch-number c = omega (arith, row (goal.at.bounds-scratch-number c).Start)

pub overflow_add-at-2 : goal.overflow_add-at-2
overflow_add-at-2 c = omega (arith, row (goal.at.overflow_add-at-2 c).Start)

pub part_at-requires : goal.part_at-requires
part_at-requires c = omega (arith, row (goal.at.part_at-requires c).Start)

pub overflow_add-at-3 : goal.overflow_add-at-3
overflow_add-at-3 c = omega (arith, row (goal.at.overflow_add-at-3 c).Start)

pub part_at-requires-2 : goal.part_at-requires-2
part_at-requires-2 c = omega (arith, row (goal.at.part_at-requires-2 c).Start)

pub overflow_add-result : goal.overflow_add-result
overflow_add-result c = omega (arith, row (goal.at.overflow_add-result c).Start)

pub returns : goal.returns
returns c = λ P R table is. row_read P _ _ _ R table is c.part_at.ensures c.part_at-2.ensures
