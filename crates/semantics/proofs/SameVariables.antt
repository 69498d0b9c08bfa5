-- Programs alike with the same variables on both sides: one world, in which a variable is paired with itself, and no bound is waived. So rounds and runs are the same.
use Prim.Native.Nat.{◌+◌, ◌≤◌, ℕ}
use mathlib.Core.List.{List, [], ◌∷◌}
use mathlib.Core.Option.{Option, some}
use mathlib.Core.Path.{◌≡◌, ap, refl}
use lib.Dec.{leb}
use lib.ListN.{length}
use Rattle.rules.specs.Syntax.{Constraint, Goal, Goals, Program, Relation, Term, absento, atom, call, conj, constrain, differ, disj, equal, more, one, pair, typed, var}
use Rattle.semantics.specs.Path.{Passing}
use Rattle.semantics.specs.Round.{Answer, once, one_round_by, rounds_by}
use Rattle.semantics.specs.Steps.{most, variables}
use Rattle.semantics.proofs.Alike.{ConstraintLike, Equivariant, OneToOne, Renaming, TermLike, TermsLike, absento_like, atom_like, differ_like, made_from, pair_like, typed_like, var_like}
use Rattle.semantics.proofs.AlikeRuns.{Enters, GoalLike, GoalsLike, ProgramLike, QueryLike, call_like, conj_like, constrain_like, disj_like, entered, equal_like, more_like, one_like, round_like, run_like}
use Rattle.semantics.proofs.Liftings.{cons_like, nil_like, none_waived}
use Rattle.semantics.proofs.Lockstep.{result_same, rounded_same}

abbrev pub same_number : Unit {0} → Renaming
same_number w x y = x ≡ y

pub same_pairs : (w : Unit {0}) → OneToOne (same_number w)
same_pairs w x y u v e f = rw (e, f) refl

-- each is like itself
module _ (N : Renaming) (f : (x : ℕ) → N x x) where
  pub term_self : (t : Term) → TermLike N t t
  term_self (var x) = var_like (f x)
  term_self (atom a) = atom_like
  term_self (pair s t) = pair_like (term_self s) (term_self t)

  pub terms_self : (ts : List Term) → TermsLike N ts ts
  terms_self [] = nil_like
  terms_self (t ∷ ts) = cons_like (term_self t) (terms_self ts)

  pub constraint_self : (c : Constraint) → ConstraintLike N c c
  constraint_self (differ s t) = differ_like (term_self s) (term_self t)
  constraint_self (typed k t) = typed_like (term_self t)
  constraint_self (absento a t) = absento_like (term_self t)

-- every relation that a goal calls is such
abbrev mutual
  pub CallsOnly : (ℕ → Type 0) → Goal → Type 0
  CallsOnly K (equal s t) = Unit {0}
  CallsOnly K (constrain c) = Unit {0}
  CallsOnly K (conj gs) = AllCallOnly K gs
  CallsOnly K (disj gs) = AllCallOnly K gs
  CallsOnly K (call r ts) = K r

  pub AllCallOnly : (ℕ → Type 0) → Goals → Type 0
  AllCallOnly K (one g) = CallsOnly K g
  AllCallOnly K (more g gs) = CallsOnly K g × AllCallOnly K gs

-- then it is like itself, if calls of these are
module _ (N : Renaming) (f : (x : ℕ) → N x x) (H : ℕ → ℕ → ℕ → Type 0) (K : ℕ → Type 0) (k : (r a : ℕ) → K r → H r r a) where
  mutual
    pub goal_self : (g : Goal) → CallsOnly K g → GoalLike N H g g
    goal_self (equal s t) c = equal_like (term_self N f s) (term_self N f t)
    goal_self (constrain d) c = constrain_like (constraint_self N f d)
    goal_self (conj gs) c = conj_like (goals_self gs c)
    goal_self (disj gs) c = disj_like (goals_self gs c)
    goal_self (call r ts) c = call_like (k r (length ts) c) (terms_self N f ts)

    pub goals_self : (gs : Goals) → AllCallOnly K gs → GoalsLike N H gs gs
    goals_self (one g) c = one_like (goal_self g c)
    goals_self (more g gs) c = more_like (goal_self g c.0) (goals_self gs c.1)

-- With j calls left on a path, `CallLike j r q a` says that calls of r and of q with a arguments are alike.
module _ (CallLike : ℕ → ℕ → ℕ → ℕ → Type 0) where
  abbrev pub SameEnters : ℕ → ℕ → ℕ → Option Relation → Option Relation → Type 0
  SameEnters j made a = Enters none_waived (Unit {0}) same_number same_number CallLike tt j made made a

  abbrev pub SameBodies : ℕ → ℕ → Goal → Goal → Type 0
  SameBodies j made = GoalLike (made_from (same_number tt) made made) (CallLike j)

  abbrev pub SameProgram : Program → Program → Type 0
  SameProgram = ProgramLike none_waived (Unit {0}) same_number same_number CallLike

  abbrev pub SameQuery : ℕ → Relation → Relation → Type 0
  SameQuery = QueryLike none_waived (Unit {0}) same_number same_number CallLike

  pub same_entered : (j made a : ℕ) (R S : Relation) → R.vars ≡ S.vars → SameBodies j made R.body S.body → SameEnters j made a (some R) (some S)
  same_entered j made a R S e h = entered (ap (λ v. leb (made + v) (most variables)) e) (record { inner = tt; before = λ x y n. n; made_too = ap (λ v. made + v) e; params = λ i l. refl; bodies = h })

  pub same_query : (k : ℕ) (R S : Relation) → R.params ≡ S.params → R.vars ≡ S.vars → SameBodies k 0 R.body S.body → SameQuery k R S
  same_query k R S e f h = record { same_params = e; world = tt; made = f; query = λ x l. refl; bodies = h }

  module _ (pass : Passing) (equivariant : Equivariant pass) (P Q : Program) (L : SameProgram P Q) (R S : Relation) where
    pub round_same : (k room left : ℕ) (written : List Answer) → SameQuery k R S → one_round_by (once pass) P R k room left written ≡ one_round_by (once pass) Q S k room left written
    round_same k room left written h = rounded_same (round_like none_waived (Unit {0}) same_number same_number CallLike pass equivariant P Q L R S k room left written h)

    pub rounds_same : (limit later k room left last_cut : ℕ) (written : List Answer) → ((j : ℕ) → j ≤ k + later → SameQuery j R S) → rounds_by limit (once pass) P R later k room left last_cut written ≡ rounds_by limit (once pass) Q S later k room left last_cut written
    rounds_same limit later k room left last_cut written h = result_same (run_like none_waived (Unit {0}) same_number same_number CallLike pass equivariant P Q L R S limit later k room left last_cut written h)
