-- The programs whose written form is accepted, if it has 1 to 16,384 words: document 01, "Words", "Bounds" and the conditions of "Turning a program away", over the syntax.
use Rattle.std.specs.Prelude.{ℕ, ◌<◌, ◌≤◌, ◌≡◌, List, [], ◌∷◌, length}
use Rattle.std.proofs.Math.Option.{Option, some, none}
use Rattle.std.proofs.Math.ListN.{get_elem?}
use Rattle.rules.specs.Syntax.{Atom, symbol, number, empty, Term, var, atom, pair, Constraint, differ, typed, absento, Goal, Goals, equal, constrain, conj, disj, call, one, more, Relation, Program}
use Rattle.rules.specs.Written.{written}
use Rattle.rules.specs.Settings.{most_relations, most_words}

-- payloads are below 2^28
abbrev pub AtomGood : Atom → Type 0
AtomGood (symbol p) = p < 268435456
AtomGood (number p) = p < 268435456
AtomGood empty = Unit {0}

-- variable numbers are below the relation's count
unfoldable pub TermGood : ℕ → Term → Type 0
TermGood vars (var x) = x < vars
TermGood vars (atom a) = AtomGood a
TermGood vars (pair s t) = TermGood vars s × TermGood vars t

unfoldable pub TermsGood : ℕ → List Term → Type 0
TermsGood vars [] = Unit {0}
TermsGood vars (t ∷ ts) = TermGood vars t × TermsGood vars ts

-- "The tag of absento may be a symbol or a number" (document 02, Note 3), but not the empty list
abbrev pub TagGood : Atom → Type 0
TagGood (symbol p) = p < 268435456
TagGood (number p) = p < 268435456
TagGood empty = ⊥

abbrev pub ConstraintGood : ℕ → Constraint → Type 0
ConstraintGood vars (differ s t) = TermGood vars s × TermGood vars t
ConstraintGood vars (typed k t) = TermGood vars t
ConstraintGood vars (absento a t) = TagGood a × TermGood vars t

unfoldable mutual
  pub GoalGood : ℕ → Goal → Type 0
  GoalGood vars (equal s t) = TermGood vars s × TermGood vars t
  GoalGood vars (constrain c) = ConstraintGood vars c
  GoalGood vars (conj gs) = GoalsGood vars gs
  GoalGood vars (disj gs) = GoalsGood vars gs
  GoalGood vars (call r ts) = (r < 268435456) × TermsGood vars ts

  pub GoalsGood : ℕ → Goals → Type 0
  GoalsGood vars (one g) = GoalGood vars g
  GoalsGood vars (more g gs) = GoalGood vars g × GoalsGood vars gs

-- "variables per relation 0 to 255", not "more parameters than variables"
pub record RelationGood (R : Relation) : Type 0 where
  pub vars_bound : R.vars ≤ 255
  pub params_bound : R.params ≤ R.vars
  pub body_good : GoalGood R.vars R.body

unfoldable pub RelationsGood : List Relation → Type 0
RelationsGood [] = Unit {0}
RelationsGood (R ∷ Rs) = RelationGood R × RelationsGood Rs

-- a call of a relation that is there, with as many arguments as parameters
abbrev pub CallGood : Option Relation → ℕ → Type 0
CallGood none args = ⊥
CallGood (some R) args = args ≡ R.params

unfoldable mutual
  pub GoalCalls : Goal → Program → Type 0
  GoalCalls (equal s t) P = Unit {0}
  GoalCalls (constrain c) P = Unit {0}
  GoalCalls (conj gs) P = GoalsCalls gs P
  GoalCalls (disj gs) P = GoalsCalls gs P
  GoalCalls (call r ts) P = CallGood (get_elem? P r) (length ts)

  pub GoalsCalls : Goals → Program → Type 0
  GoalsCalls (one g) P = GoalCalls g P
  GoalsCalls (more g gs) P = GoalCalls g P × GoalsCalls gs P

unfoldable pub RelationsCalls : List Relation → Program → Type 0
RelationsCalls [] P = Unit {0}
RelationsCalls (R ∷ Rs) P = GoalCalls R.body P × RelationsCalls Rs P

-- "at most 256 relations", each with its variables in range, and every call met
pub record WellFormed (P : Program) : Type 0 where
  pub few : length P ≤ most_relations
  pub relations : RelationsGood P
  pub calls : RelationsCalls P P

-- the written form of a well-formed program, of 1 to 16,384 words
pub record WrittenForm (ws : List ℕ) (P : Program) : Type 0 where
  pub is_written : ws ≡ written P
  pub well_formed : WellFormed P
  pub some_words : 1 ≤ length ws
  pub few_words : length ws ≤ most_words
