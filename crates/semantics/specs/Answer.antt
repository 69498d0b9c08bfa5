-- The answer of a path: document 01, "One answer", and of "Steps" what the writer looks at.
use Rattle.std.specs.Prelude.{ℕ, zero, suc, ◌-◌, List, [], ◌∷◌, ◌++◌, map, reverse, Bool, true, false, ◌||◌, ◌&&◌, not, eqb, length, take}
use Rattle.std.proofs.Math.Option.{Option, none, some}
use Rattle.rules.specs.Syntax.{Atom, empty, Term, var, atom, pair, Sort, Constraint, differ, typed, absento, Goal, Goals, constrain, disj, one, more}
use Rattle.rules.specs.Lists.{joined}
use Rattle.rules.specs.Reading.{choose}
use Rattle.rules.specs.Written.{part, terms_words, goal_words}
use Rattle.semantics.specs.Substitution.{Substitution, walk, resolve}
use Rattle.semantics.specs.Steps.{Outcome, done, and_then}
use Rattle.semantics.specs.Unify.{scan, never, member, unify_terms}
use Rattle.semantics.specs.Path.{Path}

-- the variables of a term, each "by first appearance", after those seen before
abbrev pub appear : List ℕ → Term → List ℕ
appear seen (var x) = choose (member x seen) (λ _. seen) (λ _. seen ++ (x ∷ []))
appear seen (atom a) = seen
appear seen (pair s t) = appear (appear seen s) t

-- of terms one after the other
abbrev pub appear_all : List ℕ → List Term → List ℕ
appear_all seen [] = seen
appear_all seen (t ∷ ts) = appear_all (appear seen t) ts

-- a variable's place among the names
abbrev pub index : ℕ → List ℕ → ℕ
index x [] = 0
index x (y ∷ ys) = choose (eqb x y) (λ _. 0) (λ _. suc (index x ys))

-- "open variables renumbered 0, 1, 2 by first appearance": the answer's own variables are the places of the names
abbrev pub reify : List ℕ → Term → Term
reify names (var x) = var (index x names)
reify names (atom a) = atom a
reify names (pair s t) = pair (reify names s) (reify names t)

-- What is listed of a constraint, over the path's open variables: "a type on an open variable; absento for each open variable in its term ..;
-- differ as its trial's bindings in order", of which not all are equations that hold.
pub data Line : Type 0 where
  is_sort : Sort → ℕ → Line
  lacks : Atom → ℕ → Line
  not_all : List (ℕ × Term) → Line

-- equations over the answer's own variables
abbrev pub reify_bindings : List ℕ → List (ℕ × Term) → List (ℕ × Term)
reify_bindings names [] = []
reify_bindings names (b ∷ bs) = (index b.0 names, reify names b.1) ∷ reify_bindings names bs

-- and a line
abbrev pub reify_line : List ℕ → Line → Line
reify_line names (is_sort k x) = is_sort k (index x names)
reify_line names (lacks a x) = lacks a (index x names)
reify_line names (not_all bs) = not_all (reify_bindings names bs)

-- one binding of a trial, read as a disequality
abbrev pub differ_goal : ℕ × Term → Goal
differ_goal b = constrain (differ (var b.0) b.1)

-- several
abbrev pub differ_goals : ℕ × Term → List (ℕ × Term) → Goals
differ_goals b [] = one (differ_goal b)
differ_goals b (c ∷ bs) = more (differ_goal b) (differ_goals c bs)

-- A line as a goal: "several put under one 11". A trial that binds nothing has no line, as its constraint fails: that clause is never met, and its goal never holds.
abbrev pub line_goal : Line → Goal
line_goal (is_sort k x) = constrain (typed k (var x))
line_goal (lacks a x) = constrain (absento a (var x))
line_goal (not_all []) = constrain (differ (atom empty) (atom empty))
line_goal (not_all (b ∷ [])) = differ_goal b
line_goal (not_all (b ∷ c ∷ bs)) = disj (differ_goals b (c ∷ bs))

-- are all variables among the names?
abbrev pub vars_in : List ℕ → Term → Bool
vars_in names (var x) = member x names
vars_in names (atom a) = true
vars_in names (pair s t) = vars_in names s && vars_in names t

-- of equations
abbrev pub bindings_in : List ℕ → List (ℕ × Term) → Bool
bindings_in names [] = true
bindings_in names (b ∷ bs) = (member b.0 names && vars_in names b.1) && bindings_in names bs

-- of a line: else it "mentions a variable absent from the query terms"
abbrev pub line_in : List ℕ → Line → Bool
line_in names (is_sort k x) = member x names
line_in names (lacks a x) = member x names
line_in names (not_all bs) = bindings_in names bs

-- are these the same words?
abbrev pub same_words : List ℕ → List ℕ → Bool
same_words [] [] = true
same_words [] (w ∷ ws) = false
same_words (v ∷ vs) [] = false
same_words (v ∷ vs) (w ∷ ws) = eqb v w && same_words vs ws

-- "the same words as an earlier one"
abbrev pub any_same : List ℕ → List (List ℕ) → Bool
any_same v [] = false
any_same v (w ∷ ws) = same_words v w || any_same v ws

-- a line's words in the answer: those of its goal
abbrev pub line_words : List ℕ → Line → List ℕ
line_words names l = goal_words (line_goal (reify_line names l))

-- Does a line stay, after lines of these words? "One that mentions a variable absent from the query terms is dropped (document 000), as is one with the same words as an earlier one."
abbrev pub stays : List ℕ → List (List ℕ) → Line → Bool
stays names before l = line_in names l && not (any_same (line_words names l) before)

-- the lines that stay
abbrev pub listed : List ℕ → List (List ℕ) → List Line → List Line
listed names before [] = []
listed names before (l ∷ ls) = choose (stays names before l) (λ _. l ∷ listed names (line_words names l ∷ before) ls) (λ _. listed names before ls)

-- and of lines, one after the other
abbrev pub lines_words : List ℕ → List Line → List ℕ
lines_words names ls = joined (map (line_words names) ls)

-- the query's parameters: variables i to i + n - 1
abbrev pub parameters : ℕ → ℕ → List Term
parameters i zero = []
parameters i (suc n) = var i ∷ parameters (suc i) n

-- "the query terms with bindings followed"
abbrev pub query_terms : Substitution → ℕ → ℕ → List Term
query_terms bs i n = map (resolve bs) (parameters i n)

-- the open variables of the query terms, "by first appearance"
abbrev pub names_of : Substitution → ℕ → List ℕ
names_of bs n = appear_all [] (query_terms bs 0 n)

-- "15:n, then the query terms .. Then the path's constraints in order"
abbrev pub answer_words : Substitution → ℕ → List Line → List ℕ
answer_words bs n lines = let names = names_of bs n in part 15 (terms_words (map (reify names) (query_terms bs 0 n)) ++ lines_words names (listed names [] lines))

-- a trial's bindings "in order": what unification put in front of bs, oldest first
abbrev pub trial_bindings : Substitution → Substitution → List (ℕ × Term)
trial_bindings bs bs' = reverse (take (length bs' - length bs) bs')

-- "right sides followed through the path's bindings"
abbrev pub resolve_right : Substitution → List (ℕ × Term) → List (ℕ × Term)
resolve_right bs [] = []
resolve_right bs (b ∷ cs) = (b.0, resolve bs b.1) ∷ resolve_right bs cs

-- looks at all nodes of terms, one term after the other
abbrev pub look_through : Substitution → List Term → ℕ → Outcome (Unit {0})
look_through bs [] left = done tt left
look_through bs (t ∷ ts) left = and_then (scan never bs [] t left) (λ _ l. look_through bs ts l)

-- "a type on an open variable .. What holds already is not listed."
abbrev pub typed_lines : Sort → Term → List Line
typed_lines k (var x) = is_sort k x ∷ []
typed_lines k (atom a) = []
typed_lines k (pair s t) = []

-- "absento for each open variable in its term, by first occurrence"
abbrev pub lacks_each : Atom → List ℕ → List Line
lacks_each a [] = []
lacks_each a (x ∷ xs) = lacks a x ∷ lacks_each a xs

-- "a trial's pairs, then, unless it failed, its right sides"
abbrev pub trial_lines : Substitution → Option Substitution → ℕ → Outcome (List Line)
trial_lines bs none left = done [] left
trial_lines bs (some bs') left =
    and_then (look_through bs (map (λ (b : ℕ × Term). b.1) (trial_bindings bs bs')) left) (λ _ l. done (not_all (resolve_right bs (trial_bindings bs bs')) ∷ []) l)

-- "goes once through each constraint: type terms, absento's terms, and a trial's pairs"
abbrev pub lines_of : Substitution → Constraint → ℕ → Outcome (List Line)
lines_of bs (differ s t) left = and_then (unify_terms bs s t left) (λ r l. trial_lines bs r l)
lines_of bs (typed k t) left = and_then (scan never bs [] t left) (λ _ l. done (typed_lines k (walk bs t)) l)
lines_of bs (absento a t) left = and_then (scan never bs [] t left) (λ _ l. done (lacks_each a (appear [] (resolve bs t))) l)

-- "the path's constraints in order"
abbrev pub all_lines : Substitution → List Constraint → ℕ → Outcome (List Line)
all_lines bs [] left = done [] left
all_lines bs (c ∷ cs) left = and_then (lines_of bs c left) (λ ls l. and_then (all_lines bs cs l) (λ ms m. done (ls ++ ms) m))

-- "The writer looks at the query terms, then goes once through each constraint": the words of the answer of a path, with n query terms
abbrev pub answer : Path → ℕ → ℕ → Outcome (List ℕ)
answer p n left =
    and_then (look_through p.bindings (parameters 0 n) left) (λ _ l.
    and_then (all_lines p.bindings p.kept l) (λ lines m.
    done (answer_words p.bindings n lines) m))
