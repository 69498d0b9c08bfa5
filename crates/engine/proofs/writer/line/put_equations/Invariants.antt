use Prim.Native.Nat.{ℕ}
use mathlib.Core.List.{List}
use Rattle.rules.specs.Syntax.{Term}
use Rattle.semantics.specs.Answer.{bindings_in}
use Rattle.engine.specs.Term.{Puts}
use Rattle.engine.specs.Line.{EquationsIn, equations_words}
use Rattle.engine.proofs.LineLaws.{Going}
use Rattle.engine.proofs.writer.line.put_equations.Given as goal

abbrev pub invariant-loop-i : goal.invariant-loop-i
invariant-loop-i l = (cs : List (ℕ × Term)) (names : List ℕ) → EquationsIn l.program l.scratch l.mark l.count cs → Puts l.scratch l.initial.output l.start l.end names (bindings_in names cs)
    → Going l.program l.scratch l.initial.output l.output l.mark l.count l.i l.start l.at l.end l.write names (equations_words names cs)
