-- `reaches` looks at one constraint as the definition does.
use mathlib.Core.Path.{◌≡◌, ◌∙◌}
use Rattle.std.proofs.Common.{rules}
use Rattle.engine.proofs.ReviewSteps.{reached, reaches_no_variable, reaches_open}
use Rattle.engine.proofs.terms.review.reaches.Goals as goal
use Rattle.engine.proofs.terms.review.reaches.Goals.{Else-ne}

-- it is a type of this kind
kind_is : (c : Else-ne) → c.part_at.result.kind ≡ c.args.kind
kind_is c = search rules

pub walk-node-requires : goal.walk-node-requires
walk-node-requires c = let p = c.requires in let q = reached c.part_at.ensures p.0 p.1 p.2 0 p.3.keeps p.4 (kind_is (goal.at.walk-node-requires c).Else-ne) in (p.0, q.term, record { binds = p.3.held; stands = q.stands })

pub returns-then-eq : goal.returns-then-eq
returns-then-eq c = λ bs d k h e. reaches_open c.part_at.ensures bs d k _ h.keeps e (kind_is (goal.at.returns-then-eq c).Else-ne) h.held c.walk-node.ensures c.variable_at.ensures (search rules)

pub returns-else-eq : goal.returns-else-eq
returns-else-eq c = λ bs d k h e. c.if-eq.false ∙ reaches_no_variable c.part_at.ensures bs d k _ h.keeps e (kind_is (goal.at.returns-else-eq c).Else-ne) h.held c.walk-node.ensures (search rules)
