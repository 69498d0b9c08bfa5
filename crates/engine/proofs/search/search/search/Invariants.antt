-- `search` takes turn after turn: the state under way leads to where the first one does.
use Prim.Native.Nat.{ℕ, ◌<◌}
use Rattle.rules.specs.Syntax.{Program}
use Rattle.semantics.specs.Round as definition
use Rattle.semantics.specs.Invariant.{ProgramIn}
use Rattle.engine.specs.Search.{Searching}
use Rattle.engine.proofs.SearchLaws.{Going}
use Rattle.engine.proofs.search.search.search.Given as goal

abbrev pub invariant-loop-next : goal.invariant-loop-next
invariant-loop-next l = (P : Program) (wf : ProgramIn P) (n : ℕ) (state : definition.State) (fuel : ℕ) → Searching P wf n l.round l.program l.initial.scratch l.initial.st l.task l.before state → state.tally.left < fuel
    → Going P wf n l.round l.program l.scratch l.st l.goal l.cuts state fuel

abbrev pub decreases-loop-next : goal.decreases-loop-next
decreases-loop-next l = l.st.steps
