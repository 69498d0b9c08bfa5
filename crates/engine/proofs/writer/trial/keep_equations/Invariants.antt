use Prim.Native.Nat.{ℕ}
use mathlib.Core.List.{List}
use Rattle.semantics.specs.Substitution.{Substitution}
use Rattle.engine.specs.Trail.{Trailed}
use Rattle.engine.proofs.TrialLaws.{Keeping}
use Rattle.engine.proofs.writer.trial.keep_equations.Given as goal

abbrev pub invariant-loop-top : goal.invariant-loop-top
invariant-loop-top l = (ws : List ℕ) (new bs : Substitution) → Trailed ws l.initial.scratch new bs l.mark l.trail → Keeping ws l.initial.scratch l.scratch new bs l.mark l.top
