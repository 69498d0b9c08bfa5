use Prim.Native.Nat.{ℕ}
use mathlib.Core.List.{List}
use Rattle.rules.specs.Syntax.{Term}
use Rattle.semantics.specs.Answer.{bindings_in}
use Rattle.engine.specs.Names.{NamesGiven}
use Rattle.engine.specs.Line.{EquationsIn}
use Rattle.engine.proofs.LineLaws.{Checking}
use Rattle.engine.proofs.writer.line.equations_named.Given as goal

abbrev pub invariant-loop-i : goal.invariant-loop-i
invariant-loop-i l = (cs : List (ℕ × Term)) (names : List ℕ) → EquationsIn l.program l.scratch l.mark l.count cs → NamesGiven l.scratch names → Checking l.program l.scratch l.mark l.count l.i names (bindings_in names cs)
