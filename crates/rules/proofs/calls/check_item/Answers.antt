-- `check_item` goes into a relation or a sequence, checks a call, and passes any other goal.
use mathlib.Core.Path.{ap}
use Rattle.std.proofs.Common.{rules}
use Rattle.word.specs.Kind.{kind_number}
use Rattle.rules.proofs.Pass.{item_inside, move_relation, move_nested, move_plain, is_call}
use Rattle.rules.proofs.calls.check_item.Goals as goal

pub part_at-part-requires : goal.part_at-part-requires
part_at-part-requires c = item_inside _ _ _ _ _ c.requires.3

pub returns-in-Relation : goal.returns-in-Relation
returns-in-Relation c = λ P i is h. move_relation _ P _ _ _ is c.part_at-part.ensures i h (ap kind_number c.in-Relation.is)

pub returns-in-Conjunction : goal.returns-in-Conjunction
returns-in-Conjunction c = λ P i is h. move_nested _ P _ _ _ is c.part_at-part.ensures i h (search rules) (search rules)

pub check_call-requires : goal.check_call-requires
check_call-requires c = let q = is_call _ _ _ _ _ _ c.part_at-part.ensures _ c.requires.3 (ap kind_number c.in-Call.is) in
    (c.requires.0, q.0, q.1, q.2, c.requires.2, rw q.3 at c.requires.3)

pub returns-in-Call : goal.returns-in-Call
returns-in-Call c = λ P i is h. let q = is_call _ P _ _ _ is c.part_at-part.ensures i h (ap kind_number c.in-Call.is) in
    rw q.3 (c.check_call.ensures P q.0 q.1 q.2 is (rw q.3 at h))

pub returns-in_default : goal.returns-in_default
returns-in_default c = λ P i is h. move_plain _ P _ _ _ is c.part_at-part.ensures i h (search rules) (search rules) (search rules) (search rules)
