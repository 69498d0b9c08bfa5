-- `look_equations` looks at the right sides in order, as the definition does.
use Prim.Native.Nat.{ℕ}
use mathlib.Core.List.{List}
use Rattle.rules.specs.Syntax.{Term}
use Rattle.semantics.specs.Substitution.{Substitution}
use Rattle.engine.specs.Look.{Looks}
use Rattle.engine.proofs.LookLaws.{LookingRights}
use Rattle.engine.proofs.writer.look.look_equations.Given as goal

abbrev pub invariant-loop-i : goal.invariant-loop-i
invariant-loop-i l = (bs : Substitution) (cs : List (ℕ × Term)) → Looks l.program l.scratch bs cs l.mark l.count → LookingRights l.program l.scratch bs cs l.mark l.count l.steps l.i l.left
