-- `read_goal` and `read_goals` read a goal and a sequence of goals, as `read_goal` and `read_goals` say. They call each other with fewer words left.
use mathlib.Core.List.{List}
use Prim.Native.Nat.{◌≤◌, ◌+◌, ◌*◌, ◌-◌}
use Rattle.rules.specs.Inner.{ReadOutcome}
use Rattle.rules.proofs.Readers.{GoalsTold}
use Prim.Native.Nat.{ℕ}
use Rattle.rules.proofs.reading.+read_goal_read_goals.Given as goal

-- what the goals from `at` on tell is what all of them tell
pub record Going (ws : List ℕ) (vars start end at : ℕ) : Type 0 where
  pub forward : start ≤ at
  pub whole : (o : ReadOutcome) → GoalsTold ws vars at end o → GoalsTold ws vars start end o

abbrev pub invariant-read_goals-loop-at : goal.invariant-read_goals-loop-at
invariant-read_goals-loop-at l = Going l.program l.vars l.start l.end l.at

abbrev pub decreases-read_goals-loop-at : goal.decreases-read_goals-loop-at
decreases-read_goals-loop-at l = l.end - l.at

abbrev pub decreases-read_goal : goal.decreases-read_goal
decreases-read_goal l = 2 * (l.end - l.at)

abbrev pub decreases-read_goals : goal.decreases-read_goals
decreases-read_goals l = 2 * (l.end - l.start) + 1
