use Prim.Native.Nat.{◌≤◌}
use mathlib.Core.List.{List}
use Rattle.rules.specs.Syntax.{Term}
use Rattle.rules.specs.Written.{term_words}
use Rattle.semantics.specs.Answer.{reify, vars_in}
use Rattle.engine.specs.Walk.{Resolves}
use Rattle.engine.specs.Term.{Puts}
use Rattle.engine.proofs.SizeLaws.{followed_size}
use Rattle.engine.proofs.TermLaws.{Putting}
use Prim.Native.Nat.{ℕ}
use Rattle.engine.proofs.writer.term.+put_term.Given as goal

abbrev pub invariant-loop-at : goal.invariant-loop-at
invariant-loop-at l =
    (followed_size l.program l.scratch l.from ≤ followed_size l.program l.scratch l.term) × ((t : Term) (names : List ℕ) → Resolves l.program l.scratch l.term t → Puts l.scratch l.initial.output l.start l.end names (vars_in names t)
    → Putting l.program l.scratch l.initial.output l.output l.from l.start l.at l.end l.write names (term_words (reify names t)))

abbrev pub decreases-loop-at : goal.decreases-loop-at
decreases-loop-at l = followed_size l.program l.scratch l.from

abbrev pub decreases-put_term : goal.decreases-put_term
decreases-put_term l = followed_size l.program.now l.scratch.now l.term
