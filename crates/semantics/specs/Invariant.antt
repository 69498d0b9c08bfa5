-- What holds of terms, bindings, programs and states throughout a run. No public promise needs it: the contracts of the engine's private functions ask for it, and proofs/ shows that every turn keeps it.
use Rattle.std.specs.Prelude.{◌+◌, ◌<◌, ◌≤◌, ℕ, Bool, ◌||◌, false, true, List, [], ◌∷◌, ◌≡◌, length}
use Rattle.std.proofs.Math.Option.{none, some}
use Rattle.std.proofs.Math.ListN.{get_elem?}
use Rattle.rules.specs.Lists.{Each, Some}
use Rattle.rules.specs.Syntax.{Constraint, Goal, Goals, Program, Relation, Sort, Term, absento, atom, call, conj, constrain, differ, disj, equal, more, one, pair, typed, var}
use Rattle.rules.specs.WellFormed.{AtomGood, TagGood}
use Rattle.semantics.specs.Logic.{Assignment, value}
use Rattle.semantics.specs.Path.{ChoicePoint, Path, Task}
use Rattle.semantics.specs.Review.{other_sort, sort_of}
use Rattle.semantics.specs.Round.{State}
use Rattle.semantics.specs.Steps.{constraints, most, variables}
use Rattle.semantics.specs.Substitution.{Substitution, lookup, resolve}
use Rattle.semantics.specs.Unify.{is_atom}

-- Terms

-- every variable of the term is one of those
abbrev pub Vars : (ℕ → Type 0) → Term → Type 0
Vars P (var x) = P x
Vars P (atom a) = Unit {0}
Vars P (pair s t) = Vars P s × Vars P t

-- x is not in the term: what the occurs check is for
abbrev pub Without : ℕ → Term → Type 0
Without x t = Vars (λ y. ¬ (x ≡ y)) t

-- some node of the term, which has no bindings to follow, passes the test
abbrev pub some_node : (Term → Bool) → Term → Bool
some_node p (var x) = p (var x)
some_node p (atom a) = p (atom a)
some_node p (pair s t) = p (pair s t) || (some_node p s || some_node p t)

-- the term is over the variables below v, and its payloads fit a word
abbrev pub TermIn : ℕ → Term → Type 0
TermIn v (var x) = x < v
TermIn v (atom a) = AtomGood a
TermIn v (pair s t) = TermIn v s × TermIn v t

-- arguments are
abbrev pub TermsIn : ℕ → List Term → Type 0
TermsIn v ts = Each (TermIn v) ts

-- a constraint is, and its tag is a symbol or a number that fits a word
abbrev pub ConstraintIn : ℕ → Constraint → Type 0
ConstraintIn v (differ s t) = TermIn v s × TermIn v t
ConstraintIn v (typed k t) = TermIn v t
ConstraintIn v (absento a t) = TagGood a × TermIn v t

-- Bindings

-- every binding is such
abbrev pub Throughout : (ℕ → Term → Type 0) → Substitution → Type 0
Throughout P bs = Each (λ (b : ℕ × Term). P b.0 b.1) bs

-- an assignment keeps to the bindings
abbrev pub Sat : Assignment → Substitution → Type 0
Sat α bs = Throughout (λ x t. α x ≡ value α t) bs

-- x is not bound
abbrev pub Open : Substitution → ℕ → Type 0
Open bs x = lookup bs x ≡ none

-- x may be bound to t, on top of bs
pub record Fits (bs : Substitution) (x : ℕ) (t : Term) : Type 0 where
  pub opens : Open bs x
  pub acyclic : Without x (resolve bs t)

-- each variable is bound once, and none leads back to itself: so following it ends
abbrev pub Good : Substitution → Type 0
Good [] = Unit {0}
Good (b ∷ bs) = Good bs × Fits bs b.0 b.1

-- every variable of the bindings is below `top`, so it has been made, and every payload fits
abbrev pub In : ℕ → Substitution → Type 0
In top bs = Throughout (λ x t. (x < top) × TermIn top t) bs

-- Constraints

-- not every assignment that keeps to the bindings makes the two terms equal: so a trial that succeeds binds something
abbrev pub Unforced : Substitution → Term → Term → Type 0
Unforced bs s t = ¬ ((α : Assignment) → Sat α bs → value α s ≡ value α t)

-- a type of another sort than k reaches the open variable x
abbrev pub Reaches : Substitution → Sort → ℕ → Constraint → Type 0
Reaches bs k x (differ s t) = ⊥
Reaches bs k x (typed l t) = (other_sort k l ≡ true) × (resolve bs t ≡ var x)
Reaches bs k x (absento a t) = ⊥

-- a resolved term passes a type of sort k, among the constraints cs of its path
abbrev pub SortPasses : Substitution → List Constraint → Sort → Term → Type 0
SortPasses bs cs k (var x) = ¬ Some (Reaches bs k x) cs
SortPasses bs cs k (atom a) = sort_of k a ≡ true
SortPasses bs cs k (pair s t) = ⊥

-- a constraint passes its review, among the constraints cs of its path: so it has a line that some tree meets, or none
abbrev pub Passes : Substitution → List Constraint → Constraint → Type 0
Passes bs cs (differ s t) = Unforced bs s t
Passes bs cs (typed k t) = SortPasses bs cs k (resolve bs t)
Passes bs cs (absento a t) = some_node (is_atom a) (resolve bs t) ≡ false

-- what is asked of a path's bindings, its constraints and the number of its variables: it is so at the start, and every goal that is taken keeps it
pub record Sound (bs : Substitution) (kept : List Constraint) (made : ℕ) : Type 0 where
  pub good : Good bs
  pub scope : In made bs
  pub few_made : made ≤ most variables
  pub few_kept : length kept ≤ most constraints
  pub kept_in : Each (ConstraintIn made) kept
  pub passes : Each (Passes bs kept) kept

-- Programs

-- a call names a relation that is there, with as many arguments as it has parameters
pub record CallIn (P : Program) (v r : ℕ) (ts : List Term) : Type 0 where
  pub relation : Relation
  pub is_there : get_elem? P r ≡ some relation
  pub fits : length ts ≡ relation.params
  pub terms_in : TermsIn v ts

-- a goal is over the variables below v, and each of its calls is such
abbrev mutual
  pub GoalIn : Program → ℕ → Goal → Type 0
  GoalIn P v (equal s t) = TermIn v s × TermIn v t
  GoalIn P v (constrain c) = ConstraintIn v c
  GoalIn P v (conj gs) = GoalsIn P v gs
  GoalIn P v (disj gs) = GoalsIn P v gs
  GoalIn P v (call r ts) = CallIn P v r ts

  pub GoalsIn : Program → ℕ → Goals → Type 0
  GoalsIn P v (one g) = GoalIn P v g
  GoalsIn P v (more g gs) = GoalIn P v g × GoalsIn P v gs

-- a relation's goal is over its variables, of which the parameters are the first
pub record RelationIn (P : Program) (R : Relation) : Type 0 where
  pub few_vars : R.vars ≤ 255
  pub params_vars : R.params ≤ R.vars
  pub body_in : GoalIn P R.vars R.body

-- every relation of the program: what the search uses of a program that was accepted
abbrev pub ProgramIn : Program → Type 0
ProgramIn P = (r : ℕ) (R : Relation) → get_elem? P r ≡ some R → RelationIn P R

-- States

-- a task's goal is one of a relation with v variables, made from the task's base on
abbrev pub TaskIn : Program → ℕ → Task → Type 0
TaskIn P made task = (v : ℕ) × (task.0 + v ≤ made) × GoalIn P v task.1

-- the goals waiting are such
abbrev pub TasksIn : Program → ℕ → List Task → Type 0
TasksIn P made [] = Unit {0}
TasksIn P made (task ∷ tasks) = TaskIn P made task × TasksIn P made tasks

-- round k of a program with n query terms
module _ (P : Program) (wf : ProgramIn P) (n k : ℕ) where
  -- a path of the round, with tasks
  pub record FineTasks (bs : Substitution) (kept : List Constraint) (made calls : ℕ) (tasks : List Task) : Type 0 where
    pub sound : Sound bs kept made
    pub query_made : n ≤ made
    pub few_calls : calls ≤ k
    pub tasks_in : TasksIn P made tasks

  -- the same of a path: the tasks are its goals waiting, and before them the one that is to be taken
  abbrev pub Fine : Path → List Task → Type 0
  Fine p tasks = FineTasks p.bindings p.kept p.made p.calls tasks

  -- the alternatives left, each read as the disjunction of those that it has left
  abbrev pub ChoicesFine : List ChoicePoint → Type 0
  ChoicesFine [] = Unit {0}
  ChoicesFine (c ∷ cs) = Fine c.path ((c.base, disj c.rest) ∷ c.path.stack) × ChoicesFine cs

  -- a round under way, from turn to turn
  pub record StateFine (s : State) : Type 0 where
    pub fine : Fine s.path (s.task ∷ s.path.stack)
    pub fine_choices : ChoicesFine s.choices
    pub small_room : s.tally.room < 268435456
