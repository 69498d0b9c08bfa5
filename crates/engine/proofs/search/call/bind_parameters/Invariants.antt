-- `bind_parameters` binds the parameters one after the other: the invariant is that the arguments left lead to the same substitution.
use Prim.Native.Nat.{ℕ, ◌+◌, ◌-◌}
use Rattle.semantics.specs.Substitution.{Substitution}
use Rattle.engine.specs.Call.{BindingParameters}
use Rattle.engine.proofs.search.call.bind_parameters.Given as goal

abbrev pub invariant-loop-i : goal.invariant-loop-i
invariant-loop-i l =
    (base to : ℕ) (whole : Substitution) → BindingParameters l.program l.initial.scratch l.initial.scratch base to whole l.first l.trail l.arguments l.count → BindingParameters l.program l.initial.scratch l.scratch base to whole (l.first + l.i) l.bound l.at (l.count - l.i)
