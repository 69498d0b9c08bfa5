-- `look` looks at two followed terms as the definition does, by the kinds of their words.
use Rattle.std.proofs.Common.{rules}
use Rattle.engine.proofs.UnifySteps.{look_left, look_right, look_same, look_other, look_parts, look_pair, look_words, look_equal}
use Rattle.engine.proofs.terms.unify.look.Goals as goal
use Rattle.engine.proofs.terms.unify.look.Goals.{else-eq-2-via-then-eq-2+else-variable_at-x, else-eq-2-via-else-eq-2}

pub returns-then-variable_at-x : goal.returns-then-variable_at-x
returns-then-variable_at-x c = λ ws u v i j h k. look_same i j u v h k c.variable_at-x.ensures c.variable_at.ensures (search rules) (search rules) c.if-variable_at-x.true

pub returns-then-eq : goal.returns-then-eq
returns-then-eq c = λ ws u v i j h k. elim c.else-eq-2.branch [
  | else-eq-2-via-then-eq-2+else-variable_at-x w ↦ look_other i j u v h k c.variable_at-x.ensures w.variable_at.ensures (search rules) (search rules) w.if-variable_at-x.false
  | else-eq-2-via-else-eq-2 w ↦ look_left i j u v h k c.variable_at-x.ensures (search rules) (search rules)
]

pub returns-then-eq-3 : goal.returns-then-eq-3
returns-then-eq-3 c = λ ws u v i j h k. look_right i j u v h k c.variable_at-then-eq-3.ensures (search rules) (search rules)

pub returns-then-ne : goal.returns-then-ne
returns-then-ne c = λ ws u v i j h k. look_pair i j u v h k (search rules) (search rules) (search rules)

pub returns-then-eq-4 : goal.returns-then-eq-4
returns-then-eq-4 c = λ ws u v i j h k. look_parts i j u v h k (search rules) (search rules)

pub returns-then-a-b : goal.returns-then-a-b
returns-then-a-b c = λ ws u v i j h k. look_words i j u v h k (search rules) (search rules) (search rules) c.if-a-b.true

pub returns : goal.returns
returns c = λ ws u v i j h k. look_equal i j u v h k (search rules) (search rules) (search rules) c.if-a-b.false
