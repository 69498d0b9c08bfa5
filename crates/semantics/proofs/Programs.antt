-- Well-formed programs: what the search uses of them.
use Prim.Native.Nat.{suc, zero, ℕ}
use mathlib.Core.List.{List, [], ◌∷◌}
use mathlib.Core.Option.{Option, none, some}
use mathlib.Core.Path.{◌≡◌, refl, subst}
use lib.ListN.{get_elem?, length}
use Rattle.rules.specs.Syntax.{Constraint, Goal, Goals, Program, Relation, Term, absento, atom, call, conj, constrain, differ, disj, equal, more, one, pair, typed, var}
use Rattle.rules.specs.WellFormed.{CallGood, ConstraintGood, GoalCalls, GoalGood, GoalsCalls, GoalsGood, RelationsCalls, RelationsGood, TermGood, TermsGood, WellFormed}
use Rattle.semantics.specs.Invariant.{CallIn, ConstraintIn, GoalIn, GoalsIn, ProgramIn, RelationIn, TermIn, TermsIn}
use Rattle.semantics.proofs.Basics.{clash}

term_in : (v : ℕ) (t : Term) → TermGood v t → TermIn v t
unfolding TermGood
term_in v (var x) h = h
term_in v (atom a) h = h
term_in v (pair s t) h = (term_in v s h.0, term_in v t h.1)

terms_in : (v : ℕ) (ts : List Term) → TermsGood v ts → TermsIn v ts
unfolding TermsGood
terms_in v [] h = tt
terms_in v (t ∷ ts) h = (term_in v t h.0, terms_in v ts h.1)

constraint_in : (v : ℕ) (c : Constraint) → ConstraintGood v c → ConstraintIn v c
constraint_in v (differ s t) h = (term_in v s h.0, term_in v t h.1)
constraint_in v (typed k t) h = term_in v t h
constraint_in v (absento a t) h = (h.0, term_in v t h.1)

call_in : (P : Program) (v r : ℕ) (ts : List Term) (o : Option Relation) → get_elem? P r ≡ o → CallGood o (length ts) → TermsIn v ts → CallIn P v r ts
call_in P v r ts none e h i = absurd h
call_in P v r ts (some R) e h i = record { relation = R; is_there = e; fits = h; terms_in = i }

mutual
  unfolding GoalGood GoalCalls

  goal_in : (P : Program) (v : ℕ) (g : Goal) → GoalGood v g → GoalCalls g P → GoalIn P v g
  goal_in P v (equal s t) h c = (term_in v s h.0, term_in v t h.1)
  goal_in P v (constrain d) h c = constraint_in v d h
  goal_in P v (conj gs) h c = goals_in P v gs h c
  goal_in P v (disj gs) h c = goals_in P v gs h c
  goal_in P v (call r ts) h c = call_in P v r ts (get_elem? P r) refl c (terms_in v ts h.1)

  goals_in : (P : Program) (v : ℕ) (gs : Goals) → GoalsGood v gs → GoalsCalls gs P → GoalsIn P v gs
  goals_in P v (one g) h c = goal_in P v g h c
  goals_in P v (more g gs) h c = (goal_in P v g h.0 c.0, goals_in P v gs h.1 c.1)

relations_in : (P : Program) (Rs : List Relation) → RelationsGood Rs → RelationsCalls Rs P → (r : ℕ) (R : Relation) → get_elem? Rs r ≡ some R → RelationIn P R
unfolding RelationsGood RelationsCalls
relations_in P [] h c r R e = clash (cc)
relations_in P (S ∷ Rs) h c zero R e =
    let q : S ≡ R = cc in
    subst (RelationIn P) q (record { few_vars = h.0.vars_bound; params_vars = h.0.params_bound; body_in = goal_in P S.vars S.body h.0.body_good c.0 })
relations_in P (S ∷ Rs) h c (suc r) R e = relations_in P Rs h.1 c.1 r R e

pub program_in : (P : Program) → WellFormed P → ProgramIn P
program_in P w = relations_in P P w.relations w.calls
