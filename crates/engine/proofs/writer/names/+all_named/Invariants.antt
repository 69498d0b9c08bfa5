use Prim.Native.Nat.{◌≤◌}
use mathlib.Core.List.{List}
use Rattle.rules.specs.Syntax.{Term}
use Rattle.semantics.specs.Answer.{vars_in}
use Rattle.engine.specs.Walk.{Resolves}
use Rattle.engine.specs.Names.{NamesGiven}
use Rattle.engine.proofs.SizeLaws.{followed_size}
use Rattle.engine.proofs.NamingLaws.{Asking}
use Prim.Native.Nat.{ℕ}
use Rattle.engine.proofs.writer.names.+all_named.Given as goal

abbrev pub invariant-loop-x : goal.invariant-loop-x
invariant-loop-x l = (followed_size l.program l.scratch l.at ≤ followed_size l.program l.scratch l.term) × ((t : Term) (names : List ℕ) → Resolves l.program l.scratch l.term t → NamesGiven l.scratch names → Asking l.program l.scratch l.at names (vars_in names t))

abbrev pub decreases-loop-x : goal.decreases-loop-x
decreases-loop-x l = followed_size l.program l.scratch l.at

abbrev pub decreases-all_named : goal.decreases-all_named
decreases-all_named l = followed_size l.program.now l.scratch.now l.term
