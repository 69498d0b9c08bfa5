-- `last_variable` goes on while a variable is bound to a variable: the invariant is that what is left leads to the same one.
use mathlib.Core.Path.{◌≡◌, ap, subst}
use native.Mathlib.Omega.{arith}
use Rattle.std.proofs.Common.{rules}
use Rattle.word.specs.Kind.{kind_number}
use Rattle.word.specs.declared.kind.Kind.TheVariants.{Variable}
use Rattle.engine.specs.Reference.{Stands}
use Rattle.engine.proofs.ReferenceLaws.{stands_inside}
use Rattle.engine.proofs.WalkLaws.{walk_variable, walk_hop}
use Rattle.engine.proofs.ArgumentLaws.{last_open, last_stop, last_onward}
use Rattle.engine.proofs.search.call.last_variable.Goals as goal
use Rattle.engine.proofs.search.call.last_variable.Goals.{Else-ne, Else-entry-eq0}

is_variable : (c : Else-ne) → c.part_at-part.result.kind ≡ Variable
is_variable c = search rules

pub part_at-part-requires : goal.part_at-part-requires
part_at-part-requires c = let q = c.requires in stands_inside (c.loop-part.invariant q.0 q.1 q.2).1.stands

pub variable_at-requires : goal.variable_at-requires
variable_at-requires c = let q = c.requires in omega (arith, walk_variable (c.loop-part.invariant q.0 q.1 q.2).1 c.part_at-part.ensures (ap kind_number (is_variable (goal.at.variable_at-requires c).Else-ne)))

pub bounds-scratch-variable_at : goal.bounds-scratch-variable_at
bounds-scratch-variable_at c =
    let q = c.requires in
    let f = (c.loop-part.invariant q.0 q.1 q.2).1 in
    omega (arith, c.variable_at.ensures, walk_variable f c.part_at-part.ensures (ap kind_number (is_variable (goal.at.bounds-scratch-variable_at c).Else-ne)), f.binds.long)

pub returns-then-entry-eq0 : goal.returns-then-entry-eq0
returns-then-entry-eq0 c = λ bs t f. let q = c.loop-part.invariant bs t f in subst (Stands _ _) q.2 (last_open q.1 c.part_at-part.ensures c.variable_at.ensures c.if-entry-eq0.true)

pub part_at-requires : goal.part_at-requires
part_at-requires c =
    let q = c.requires in
    stands_inside (walk_hop (c.loop-part.invariant q.0 q.1 q.2).1 c.part_at-part.ensures c.variable_at.ensures (ap kind_number (is_variable (goal.at.part_at-requires c).Else-ne)) c.if-entry-eq0.false).follows.stands

pub returns-then-ne-2 : goal.returns-then-ne-2
returns-then-ne-2 c = λ bs t f. let q = c.loop-part.invariant bs t f in subst (Stands _ _) q.2 (last_stop _ q.1 c.part_at-part.ensures c.variable_at.ensures c.if-entry-eq0.false c.part_at.ensures (search rules))

pub loop-part-smaller : goal.loop-part-smaller
loop-part-smaller c =
    let q = c.requires in
    (walk_hop (c.loop-part.invariant q.0 q.1 q.2).1 c.part_at-part.ensures c.variable_at.ensures (ap kind_number (is_variable (goal.at.loop-part-smaller c).Else-ne)) c.if-entry-eq0.false).falls

pub loop-part-preserved : goal.loop-part-preserved
loop-part-preserved c = λ bs t f. let q = c.loop-part.invariant bs t f in last_onward _ _ q.1 q.2 c.part_at-part.ensures (search rules) c.variable_at.ensures c.if-entry-eq0.false c.part_at.ensures (search rules)
