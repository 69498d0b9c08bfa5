use native.Mathlib.Omega.{arith}
use Rattle.std.proofs.Common.{ap}
use Rattle.word.specs.Kind.{kind_number}
use Rattle.word.specs.declared.kind.Kind.TheVariants.{Variable, Pair}
use Rattle.word.proofs.KindLaws.{kind_number_other}
use Rattle.engine.proofs.FollowLaws.{walked_below, shaped_open, shaped_pair, shaped_leaf}
use Rattle.engine.proofs.terms.walk.follow.Goals as goal

pub returns-in-Variable : goal.returns-in-Variable
returns-in-Variable c = λ t h. shaped_open h c.walk-node.ensures.stands c.walk-node.ensures.node c.variable_at.ensures (ap kind_number c.in-Variable.is)

pub overflow_add-result : goal.overflow_add-result
overflow_add-result c = omega (arith, walked_below c.requires.1 c.walk-node.ensures.stands)

pub overflow_add-result-in-Pair : goal.overflow_add-result-in-Pair
overflow_add-result-in-Pair c = omega (arith, walked_below c.requires.1 c.walk-node.ensures.stands)

pub overflow_add-result-in-Pair-2 : goal.overflow_add-result-in-Pair-2
overflow_add-result-in-Pair-2 c = omega (arith, walked_below c.requires.1 c.walk-node.ensures.stands, c.walk-node.ensures.node.is_payload)

pub returns-in-Pair : goal.returns-in-Pair
returns-in-Pair c = λ t h. shaped_pair h c.walk-node.ensures.stands c.walk-node.ensures.node (ap kind_number c.in-Pair.is)

pub returns-in_default : goal.returns-in_default
returns-in_default c = λ t h. shaped_leaf h c.walk-node.ensures.stands c.walk-node.ensures.node (kind_number_other _ Variable c.in_default.not-Variable) (kind_number_other _ Pair c.in_default.not-Pair)
