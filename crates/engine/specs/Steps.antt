-- What the code's results with the steps left say, in the definition's words.
use Rattle.std.specs.Prelude.{ℕ, Result, Ok, Err}
use Rattle.semantics.specs.Steps as steps
use Rattle.semantics.specs.Steps.{Outcome, done, stop}
use Rattle.engine.specs.Report.{bound_of}
use Rattle.engine.specs.declared.report.Bound.{Bound}
use Rattle.engine.specs.declared.steps.Stop.{Stop}
use Rattle.engine.specs.declared.steps.Stop.TheVariants.{Steps, Path}
use Rattle.engine.specs.declared.steps.Stopped.{Stopped}

-- why a run stops
abbrev pub stop_of : Stop → steps.Stop
stop_of Steps = steps.no_steps
stop_of (Path b) = steps.at_bound (bound_of b)

-- a stop with the steps left
abbrev pub stops : {A : Type 0} → Stopped → Outcome A
stops s = stop (stop_of s.why) s.left

-- the stop where the steps are used up, and at a bound
abbrev pub no_steps : Stopped
no_steps = record { why = Steps; left = 0 }

abbrev pub at_bound : Bound → ℕ → Stopped
at_bound b left = record { why = Path b; left = left }

-- a value with the steps left, or a stop
abbrev pub outcome : {A : Type 0} → Result (A × ℕ) Stopped → Outcome A
outcome (Ok (a, left)) = done a left
outcome (Err s) = stops s

-- the same of a result that tells the steps left alone, of what comes to `a`
abbrev pub outcome_of : {A : Type 0} → A → Result ℕ Stopped → Outcome A
outcome_of a (Ok left) = done a left
outcome_of a (Err s) = stops s
