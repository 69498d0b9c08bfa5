-- `traverse` looks at the nodes as the definition does. Recursion and loop fall by the size of the resolved term, read off the words.
use Rattle.rules.specs.Syntax.{Term}
use Rattle.semantics.specs.Substitution.{Substitution}
use Rattle.engine.specs.Walk.{Follows}
use Rattle.engine.proofs.SizeLaws.{followed_size}
use Rattle.engine.proofs.TraverseSteps.{Scanning}
use Rattle.engine.proofs.terms.traverse.+traverse.Given as goal

abbrev pub invariant-loop-left : goal.invariant-loop-left
invariant-loop-left g l =
    let E = g.E.Entering in
    (bs : Substitution) (u : Term) (es : (E.traversal l.sought bs).Entered) → Follows l.program l.scratch bs l.term u → (E.traversal l.sought bs).Holds l.initial.entering es
    → Scanning (E.traversal l.sought bs) l.program l.scratch l.entering es l.waiting l.steps u l.at l.left

abbrev pub decreases-loop-left : goal.decreases-loop-left
decreases-loop-left g l = followed_size l.program l.scratch l.at

abbrev pub decreases-traverse : goal.decreases-traverse
decreases-traverse g l = followed_size l.program.now l.scratch.now l.term
