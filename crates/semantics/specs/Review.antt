-- Constraints and their review: document 01, "Search", "Differ".
use Rattle.std.specs.Prelude.{ℕ, List, [], ◌∷◌, Bool, true, false, ◌||◌, ◌&&◌, not, eqb, length}
use Rattle.std.proofs.Math.Option.{Option, none, some}
use Rattle.rules.specs.Syntax.{Atom, symbol, number, empty, Term, var, atom, pair, Sort, symbols, numbers, Constraint, differ, typed, absento}
use Rattle.rules.specs.Reading.{choose}
use Rattle.semantics.specs.Substitution.{Substitution, walk}
use Rattle.semantics.specs.Steps.{Outcome, done, and_then, step}
use Rattle.semantics.specs.Unify.{scan, is_var, is_atom, unify_terms}

-- are these two different sorts?
abbrev pub other_sort : Sort → Sort → Bool
other_sort symbols symbols = false
other_sort symbols numbers = true
other_sort numbers symbols = true
other_sort numbers numbers = false

-- "symbolo .. numbero": is the atom of this sort?
abbrev pub sort_of : Sort → Atom → Bool
sort_of symbols (symbol p) = true
sort_of symbols (number p) = false
sort_of symbols empty = false
sort_of numbers (symbol p) = false
sort_of numbers (number p) = true
sort_of numbers empty = false

-- is this constraint a type of another sort than k that reaches the open variable x?
abbrev pub reaches : Substitution → Sort → ℕ → Constraint → Bool
reaches bs k x (differ s t) = false
reaches bs k x (typed l t) = other_sort k l && is_var x (walk bs t)
reaches bs k x (absento a t) = false

-- "an open variable that a numbero of the path also reaches; numbero likewise"
abbrev pub clashes : Substitution → Sort → ℕ → List Constraint → Bool
clashes bs k x [] = false
clashes bs k x (c ∷ cs) = reaches bs k x c || clashes bs k x cs

-- "Symbolo fails on a number, the empty list, a pair, or an open variable that a numbero of the path also reaches; numbero likewise."
abbrev pub sort_fails : Substitution → List Constraint → Sort → Term → Bool
sort_fails bs cs k (var x) = clashes bs k x cs
sort_fails bs cs k (atom a) = not (sort_of k a)
sort_fails bs cs k (pair s t) = true

-- "The constraint fails if the trial needs no binding, and holds if it fails."
abbrev pub trial_fails : Substitution → Option Substitution → Bool
trial_fails bs none = false
trial_fails bs (some bs') = eqb (length bs') (length bs)

-- Does the constraint c fail, among the constraints cs of its path? `true` says that it fails. "Differ: the two terms are unified on trial and the bindings undone. .. Absento fails
-- if the tag occurs anywhere in the term."
abbrev pub reviewed : Substitution → List Constraint → Constraint → ℕ → Outcome Bool
reviewed bs cs (differ s t) left = and_then (unify_terms bs s t left) (λ r l. done (trial_fails bs r) l)
reviewed bs cs (typed k t) left = done (sort_fails bs cs k (walk bs t)) left
reviewed bs cs (absento a t) left = scan (is_atom a) bs [] t left

-- a step for "each constraint reviewed"; `true` says that it fails
abbrev pub review : Substitution → List Constraint → Constraint → ℕ → Outcome Bool
review bs cs c left = step left (λ l. reviewed bs cs c l)

-- "all of its path in order .., up to the first that fails"; `true` says that one fails
abbrev pub review_all : Substitution → List Constraint → List Constraint → ℕ → Outcome Bool
review_all bs cs [] left = done false left
review_all bs cs (c ∷ later) left = and_then (review bs cs c left) (λ broken l. choose broken (λ _. done true l) (λ _. review_all bs cs later l))
