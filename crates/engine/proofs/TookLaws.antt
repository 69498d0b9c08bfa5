-- A goal has been taken: what is to be shown in each case.
use Prim.Native.Nat.{ℕ, suc, ◌+◌}
use mathlib.Core.Path.{◌≡◌, ap, ◌∙◌}
use mathlib.Core.List.{List}
use native.Mathlib.Omega.{arith}
use Rattle.rules.specs.Syntax.{Program}
use Rattle.semantics.specs.Steps as steps
use Rattle.semantics.specs.Steps.{Outcome, done, stop}
use Rattle.semantics.specs.Path.{Path, ChoicePoint, Taken, leaves, cut, goes}
use Rattle.engine.specs.Report.{bound_of}
use Rattle.engine.specs.Steps.{stops}
use Rattle.engine.specs.Take.{PathHeld, took_says, took_stopped, TookHolds, TookAs}
use Rattle.engine.specs.declared.report.Bound.{Bound}
use Rattle.engine.specs.declared.search.state.State.{State}
use Rattle.engine.specs.declared.search.state.Took.{Took}
use Rattle.engine.specs.declared.steps.Stopped.{Stopped}
use Rattle.engine.specs.declared.search.state.Way.TheVariants.{Goes, Leaves, Cut, Stops}

module _ {P : Program} {ws s : List ℕ} {p : Path} {cs : List ChoicePoint} {o : Outcome Taken} {st : State} where
  pub took_goes : {cs' : List ChoicePoint} → PathHeld P ws s st p cs' → o ≡ done (goes p cs') st.steps → TookAs P ws s cs o Goes st
  unfolding took_says TookHolds
  took_goes {cs'} h e = record { path = p; choices = cs'; says = e; held = h }

  pub took_leaves : PathHeld P ws s st p cs → o ≡ done leaves st.steps → TookAs P ws s cs o Leaves st
  unfolding took_says TookHolds
  took_leaves h e = record { path = p; choices = cs; says = e; held = h }

  pub took_cut : PathHeld P ws s st p cs → o ≡ done cut st.steps → TookAs P ws s cs o Cut st
  unfolding took_says TookHolds
  took_cut h e = record { path = p; choices = cs; says = e; held = h }

module _ {P : Program} {ws s : List ℕ} (p : Path) {cs : List ChoicePoint} {o : Outcome Taken} {st : State} where
  pub took_stops : {e : Stopped} → o ≡ stops e → TookAs P ws s cs o (Stops e) st
  unfolding took_says TookHolds
  took_stops e = record { path = p; choices = cs; says = e; held = tt }

  -- where a bound is met, the goal's own step is given back
  pub took_at : {b : Bound} {r : Took} → r ≡ took_stopped b st → o ≡ stop (steps.at_bound (bound_of b)) (suc st.steps) → TookAs P ws s cs o r.way r.state
  took_at {b} q e = let n : suc st.steps ≡ st.steps + 1 = omega arith in rw q (took_stops (e ∙ ap (stop (steps.at_bound (bound_of b))) n))
