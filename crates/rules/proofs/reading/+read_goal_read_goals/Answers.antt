-- `read_goal` and `read_goals` read a goal and a sequence of goals, as `read_goal` and `read_goals` say. They call each other with fewer words left.
use mathlib.Core.Path.{sym, ◌∙◌, ap}
use native.Mathlib.Omega.{arith}
use Rattle.std.proofs.Common.{rules}
use Rattle.word.specs.Kind.{kind_number}
use Rattle.rules.proofs.Readers.{passed_on, goal_missing, goal_other, goal_overrun, goal_two, goal_one, goal_absento, goal_call, goal_nested, goal_ahead, goals_stop, goals_last, goals_next}
use Rattle.rules.proofs.reading.+read_goal_read_goals.Goals as goal

pub read_goal-returns-then-end-at : goal.read_goal-returns-then-end-at
read_goal-returns-then-end-at t c = rw c.at.ensures (goal_missing _ _ _ _ c.if-end-at.true)

pub read_goal-returns-then-not-begins_goal : goal.read_goal-returns-then-not-begins_goal
read_goal-returns-then-not-begins_goal t c = rw c.at-then-not-begins_goal.ensures
    (goal_other _ _ _ _ _ _ c.if-end-at.false c.part_at-part.ensures (sym c.begins_goal.ensures ∙ c.if-not-begins_goal.true))

pub read_goal-returns-then-end-at-2 : goal.read_goal-returns-then-end-at-2
read_goal-returns-then-end-at-2 t c = rw c.at-then-end-at-2.ensures
    (goal_overrun _ _ _ _ _ _ c.if-end-at.false c.part_at-part.ensures (sym c.begins_goal.ensures ∙ c.if-not-begins_goal.false) c.if-end-at-2.true)

pub read_goal-returns-in-Equal : goal.read_goal-returns-in-Equal
read_goal-returns-in-Equal t c =
    goal_two _ _ _ _ _ _ c.if-end-at.false c.part_at-part.ensures (sym c.begins_goal.ensures ∙ c.if-not-begins_goal.false) c.if-end-at-2.false (search rules) _ c.read_two.ensures

pub read_goal-returns-in-Symbolo : goal.read_goal-returns-in-Symbolo
read_goal-returns-in-Symbolo t c =
    goal_one _ _ _ _ _ _ c.if-end-at.false c.part_at-part.ensures (sym c.begins_goal.ensures ∙ c.if-not-begins_goal.false) c.if-end-at-2.false (search rules) (search rules) _ c.read_one.ensures

pub read_goal-returns-in-Absento : goal.read_goal-returns-in-Absento
read_goal-returns-in-Absento t c =
    goal_absento _ _ _ _ _ _ c.if-end-at.false c.part_at-part.ensures (sym c.begins_goal.ensures ∙ c.if-not-begins_goal.false) c.if-end-at-2.false (ap kind_number c.in-Absento.is) _ c.read_absento.ensures

pub read_goal-returns-in-Call : goal.read_goal-returns-in-Call
read_goal-returns-in-Call t c =
    goal_call _ _ _ _ _ _ c.if-end-at.false c.part_at-part.ensures (sym c.begins_goal.ensures ∙ c.if-not-begins_goal.false) c.if-end-at-2.false (ap kind_number c.in-Call.is) _ c.read_call.ensures

pub read_goal-returns-in_default : goal.read_goal-returns-in_default
read_goal-returns-in_default t c =
    goal_nested _ _ _ _ _ _ c.if-end-at.false c.part_at-part.ensures (sym c.begins_goal.ensures ∙ c.if-not-begins_goal.false) c.if-end-at-2.false (search rules) (search rules) _ c.read_goals.ensures

pub read_goals-returns-in_err-at : goal.read_goals-returns-in_err-at
read_goals-returns-in_err-at t c = rw (passed_on _ _ c.from_residual.ensures.1) (c.loop-at.invariant.whole _ (goals_stop _ _ _ _ _ _ c.in_err-at.ensures))

pub read_goals-returns-then-end-at : goal.read_goals-returns-then-end-at
read_goals-returns-then-end-at t c = c.loop-at.invariant.whole _ (goals_last _ _ _ _ _ c.in_ok-at.ensures c.if-end-at.true)

pub read_goals-loop-at-smaller : goal.read_goals-loop-at-smaller
read_goals-loop-at-smaller t c = omega (arith, (goal_ahead _ _ _ _ _ c.in_ok-at.ensures).past, c.if-end-at.false)

pub read_goals-loop-at-preserved : goal.read_goals-loop-at-preserved
read_goals-loop-at-preserved t c = record {
  forward = omega (arith, c.loop-at.invariant.forward, (goal_ahead _ _ _ _ _ c.in_ok-at.ensures).past);
  whole = λ o h. c.loop-at.invariant.whole o (goals_next _ _ _ _ _ c.in_ok-at.ensures c.if-end-at.false o h);
}
