-- The calls of a program have no fault exactly when each is of a relation that is there, with as many arguments as it has parameters.
use mathlib.Core.Path.{◌≡◌, refl}
use mathlib.Core.Bool.{Bool, true, false}
use mathlib.Core.Option.{Option, some, none}
use mathlib.Core.List.{List, [], ◌∷◌}
use Prim.Native.Nat.{ℕ, ◌+◌}
use lib.Dec.{eqb}
use lib.ListN.{length, get_elem?}
use borrow.Author.Tests.{eqb-true, eq-eqb}
use Rattle.rules.specs.Syntax.{Goal, Goals, equal, constrain, conj, disj, call, one, more, Relation, Program}
use Rattle.rules.specs.Written.{goal_words, relation_words}
use Rattle.rules.specs.Calls.{Fault, sound, fault, or_else, counted, call_fault, goal_fault, goals_fault, relations_fault}
use Rattle.rules.specs.WellFormed.{CallGood, GoalCalls, GoalsCalls, RelationsCalls}

pub not_sound : {C : Type 0} (c p : ℕ) → fault c p ≡ sound → C
not_sound c p e = cc

pub or_else_sound : (a b : Fault) → or_else a b ≡ sound → (a ≡ sound) × (b ≡ sound)
or_else_sound sound b e = (refl, e)
or_else_sound (fault c p) b e = not_sound _ _ e

counted_sound : (t : Bool) (at : ℕ) → counted t at ≡ sound → t ≡ true
counted_sound true at e = refl
counted_sound false at e = not_sound _ _ e

call_good : (o : Option Relation) (args at : ℕ) → call_fault o args at ≡ sound → CallGood o args
call_good none args at e = not_sound _ _ e
call_good (some R) args at e = eqb-true args R.params (counted_sound (eqb args R.params) at e)

good_call : (o : Option Relation) (args at : ℕ) → CallGood o args → call_fault o args at ≡ sound
good_call none args at g = absurd g
good_call (some R) args at g = simp (eq-eqb args R.params g)

mutual
  unfolding goal_fault goals_fault GoalCalls GoalsCalls

  goal_calls : (g : Goal) (P : Program) (at : ℕ) → goal_fault g P at ≡ sound → GoalCalls g P
  goal_calls (equal s t) P at e = tt
  goal_calls (constrain c) P at e = tt
  goal_calls (conj gs) P at e = goals_calls gs P (at + 1) e
  goal_calls (disj gs) P at e = goals_calls gs P (at + 1) e
  goal_calls (call r ts) P at e = call_good (get_elem? P r) (length ts) at e

  goals_calls : (gs : Goals) (P : Program) (at : ℕ) → goals_fault gs P at ≡ sound → GoalsCalls gs P
  goals_calls (one g) P at e = goal_calls g P at e
  goals_calls (more g gs) P at e =
      let q = or_else_sound (goal_fault g P at) (goals_fault gs P (at + length (goal_words g))) e in
      (goal_calls g P at q.0, goals_calls gs P (at + length (goal_words g)) q.1)

mutual
  unfolding goal_fault goals_fault GoalCalls GoalsCalls

  calls_goal : (g : Goal) (P : Program) (at : ℕ) → GoalCalls g P → goal_fault g P at ≡ sound
  calls_goal (equal s t) P at q = refl
  calls_goal (constrain c) P at q = refl
  calls_goal (conj gs) P at q = calls_goals gs P (at + 1) q
  calls_goal (disj gs) P at q = calls_goals gs P (at + 1) q
  calls_goal (call r ts) P at q = good_call (get_elem? P r) (length ts) at q

  calls_goals : (gs : Goals) (P : Program) (at : ℕ) → GoalsCalls gs P → goals_fault gs P at ≡ sound
  calls_goals (one g) P at q = calls_goal g P at q
  calls_goals (more g gs) P at q = rw (calls_goal g P at q.0) (calls_goals gs P (at + length (goal_words g)) q.1)

pub relations_calls : (Rs : List Relation) (P : Program) (at : ℕ) → relations_fault Rs P at ≡ sound → RelationsCalls Rs P
unfolding relations_fault RelationsCalls
relations_calls [] P at e = tt
relations_calls (R ∷ Rs) P at e =
    let q = or_else_sound (goal_fault R.body P (at + 3)) (relations_fault Rs P (at + length (relation_words R))) e in
    (goal_calls R.body P (at + 3) q.0, relations_calls Rs P (at + length (relation_words R)) q.1)

pub calls_relations : (Rs : List Relation) (P : Program) (at : ℕ) → RelationsCalls Rs P → relations_fault Rs P at ≡ sound
unfolding relations_fault RelationsCalls
calls_relations [] P at q = refl
calls_relations (R ∷ Rs) P at q = rw (calls_goal R.body P (at + 3) q.0) (calls_relations Rs P (at + length (relation_words R)) q.1)
