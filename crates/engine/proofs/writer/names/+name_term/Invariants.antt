use Prim.Native.Nat.{◌≤◌}
use mathlib.Core.List.{List}
use Rattle.rules.specs.Syntax.{Term}
use Rattle.semantics.specs.Answer.{appear}
use Rattle.engine.specs.Walk.{Resolves}
use Rattle.engine.specs.Names.{Names}
use Rattle.engine.proofs.SizeLaws.{followed_size}
use Rattle.engine.proofs.NamingLaws.{Naming}
use Prim.Native.Nat.{ℕ}
use Rattle.engine.proofs.writer.names.+name_term.Given as goal

abbrev pub invariant-loop-x : goal.invariant-loop-x
invariant-loop-x l = (followed_size l.program l.scratch l.at ≤ followed_size l.program l.initial.scratch l.term) × ((t : Term) (names : List ℕ) → Resolves l.program l.initial.scratch l.term t → Names l.initial.scratch l.top names → Naming l.program l.initial.scratch l.scratch l.at l.given (appear names t))

abbrev pub decreases-loop-x : goal.decreases-loop-x
decreases-loop-x l = followed_size l.program l.scratch l.at

abbrev pub decreases-name_term : goal.decreases-name_term
decreases-name_term l = followed_size l.program.now l.scratch.now l.term
