-- Conditions 7 and 8 of document 01: "then 7 and 8 in the same way", one pass over the calls in the order of their words.
use Rattle.std.specs.Prelude.{ℕ, ◌+◌, Bool, true, false, List, [], ◌∷◌, eqb, length}
use Rattle.std.proofs.Math.Option.{Option, some, none}
use Rattle.std.proofs.Math.ListN.{get_elem?}
use Rattle.rules.specs.Syntax.{Goal, Goals, equal, constrain, conj, disj, call, one, more, Relation, Program}
use Rattle.rules.specs.Written.{goal_words, relation_words}

-- the number and the place of a call's fault, or that there is none
pub data Fault : Type 0 where
  sound : Fault
  fault : ℕ → ℕ → Fault

-- the first of two
abbrev pub or_else : Fault → Fault → Fault
or_else sound f = f
or_else (fault c p) f = fault c p

abbrev pub counted : Bool → ℕ → Fault
counted true at = sound
counted false at = fault 8 at

-- 7 "call of a relation that isn't there", then 8 "argument count differs from the parameters": "the call word"
abbrev pub call_fault : Option Relation → ℕ → ℕ → Fault
call_fault none args at = fault 7 at
call_fault (some R) args at = counted (eqb args R.params) at

-- The first fault of the calls in a goal that is written from `at` on. Places are counted in the written form, which is what was read (proofs, `structure_written`).
unfoldable mutual
  pub goal_fault : Goal → Program → ℕ → Fault
  goal_fault (equal s t) P at = sound
  goal_fault (constrain c) P at = sound
  goal_fault (conj gs) P at = goals_fault gs P (at + 1)
  goal_fault (disj gs) P at = goals_fault gs P (at + 1)
  goal_fault (call r ts) P at = call_fault (get_elem? P r) (length ts) at

  pub goals_fault : Goals → Program → ℕ → Fault
  goals_fault (one g) P at = goal_fault g P at
  goals_fault (more g gs) P at = or_else (goal_fault g P at) (goals_fault gs P (at + length (goal_words g)))

-- the first fault of the calls in relations that are written from `at` on; a relation's goal stands three words after its first
unfoldable pub relations_fault : List Relation → Program → ℕ → Fault
relations_fault [] P at = sound
relations_fault (R ∷ Rs) P at = or_else (goal_fault R.body P (at + 3)) (relations_fault Rs P (at + length (relation_words R)))
