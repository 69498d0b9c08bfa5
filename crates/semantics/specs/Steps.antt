-- Steps: every function that takes steps is given those that are left and hands on those that are left after it.
use Rattle.std.specs.Prelude.{ℕ, zero, suc}

-- "On one path: 2,048 variables, 1,024 goals put to wait .., 256 disjunctions with alternatives left, 512 constraints, 512 waiting term pairs, or as many
-- waiting nodes, the two counted apart": at most means that so many fit
pub data Bound : Type 0 where
  variables goals disjunctions constraints waiting : Bound

-- how many of each fit
abbrev pub most : Bound → ℕ
most variables = 2048
most goals = 1024
most disjunctions = 256
most constraints = 512
most waiting = 512

-- its place in that list
abbrev pub bound_number : Bound → ℕ
bound_number variables = 1
bound_number goals = 2
bound_number disjunctions = 3
bound_number constraints = 4
bound_number waiting = 5

-- "Steps used up: the next step would exceed the limit. Path limit: the next step would exceed that bound"
pub data Stop : Type 0 where
  no_steps : Stop
  at_bound : Bound → Stop

-- A value with the steps left, or a stop with the steps left. A step that would exceed the limit or a bound is not taken, and not counted: where a bound is met, the step
-- that was paid for is given back (`stop (at_bound b) (suc left)`).
pub data Outcome (A : Type 0) : Type 0 where
  done : A → ℕ → Outcome A
  stop : Stop → ℕ → Outcome A

-- goes on with the value, unless there was a stop
abbrev pub and_then : {A B : Type 0} → Outcome A → (A → ℕ → Outcome B) → Outcome B
and_then (done a left) go = go a left
and_then (stop why left) go = stop why left

-- one step, if one is left: "steps are tested before" the bounds
abbrev pub step : {A : Type 0} → ℕ → (ℕ → Outcome A) → Outcome A
step zero go = stop no_steps zero
step (suc left) go = go left
