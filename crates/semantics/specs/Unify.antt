-- Nodes, unification and the occurs check: document 01, "Search", "Equal" and "Steps", and document 02, Note 10.
use Rattle.std.specs.Prelude.{ℕ, zero, suc, List, [], ◌∷◌, Bool, true, false, ◌||◌, eqb, ltb, length}
use Rattle.std.proofs.Math.Option.{Option, none, some}
use Rattle.rules.specs.Syntax.{Atom, Term, var, atom, pair}
use Rattle.rules.specs.Reading.{choose}
use Rattle.semantics.specs.Substitution.{same_atom, Substitution, walk, last_variable}
use Rattle.semantics.specs.Steps.{waiting, most, no_steps, at_bound, Outcome, done, stop, and_then}

-- the next node that waits, if one does
abbrev pub scan_next : List Term → ℕ → (List Term → Term → Outcome Bool) → Outcome Bool
scan_next [] left go = done false left
scan_next (v ∷ vs) left go = go vs v

-- "Only the second parts of pairs wait, and the last to wait is looked at first."
abbrev pub scan_parts : Term → List Term → ℕ → (List Term → Term → Outcome Bool) → Outcome Bool
scan_parts (pair a b) ws left go = choose (ltb (length ws) (most waiting)) (λ _. go (b ∷ ws) a) (λ _. stop (at_bound waiting) (suc left))
scan_parts (atom a) ws left go = scan_next ws left go
scan_parts (var x) ws left go = scan_next ws left go

-- a node is looked at: "up to the first find"
abbrev pub scan_node : (Term → Bool) → Term → List Term → ℕ → (List Term → Term → Outcome Bool) → Outcome Bool
scan_node test f ws left go = choose (test f) (λ _. done true left) (λ _. scan_parts f ws left go)

-- "A node is a term with its bindings followed, an open variable too. Nodes go first part before second, up to the first find."
-- The traversal of an absento review and of the writer: does a node of t, or of one that waits, pass the test? Each node looked at is a step.
abbrev pub scan : (Term → Bool) → Substitution → List Term → Term → ℕ → Outcome Bool
scan test bs ws t zero = stop no_steps zero
scan test bs ws t (suc left) = scan_node test (walk bs t) ws left (λ vs v. scan test bs vs v left)

-- is it this variable?
abbrev pub is_var : ℕ → Term → Bool
is_var x (var y) = eqb x y
is_var x (atom a) = false
is_var x (pair s t) = false

-- the tests: of an absento review, this atom
abbrev pub is_atom : Atom → Term → Bool
is_atom a (var y) = false
is_atom a (atom b) = same_atom a b
is_atom a (pair s t) = false

-- of the writer, which looks for nothing
abbrev pub never : Term → Bool
never t = false

-- The occurs check has a traversal of its own: "It should enter each bound variable at most one time: where following leads through a last bound variable whose value this check has
-- already entered, that is one node and nothing below it is looked at."

-- The way of a term is the variables that it is followed through. This is the last of them, if there is one: where the way leads on to a pair, "a last bound variable".
abbrev pub way_end : Substitution → Term → Option ℕ
way_end bs (var x) = some (last_variable (length bs) bs x)
way_end bs (atom a) = none
way_end bs (pair s t) = none

-- is this number in the list?
abbrev pub member : ℕ → List ℕ → Bool
member x [] = false
member x (y ∷ ys) = eqb x y || member x ys

-- "whose value this check has already entered"
abbrev pub was_entered : Option ℕ → List ℕ → Bool
was_entered none entered = false
was_entered (some z) entered = member z entered

-- the variables entered, with this one
abbrev pub enter : Option ℕ → List ℕ → List ℕ
enter none entered = entered
enter (some z) entered = z ∷ entered

-- what looking at a node says: it is the variable sought; nothing is looked at below it; or its two parts are, and these variables have been entered
pub data Node : Type 0 where
  sought passed : Node
  below : List ℕ → Term → Term → Node

-- of a followed term, whose way ends at z: "that is one node and nothing below it is looked at"
abbrev pub node_of : ℕ → List ℕ → Option ℕ → Term → Node
node_of x entered z (var y) = choose (eqb x y) (λ _. sought) (λ _. passed)
node_of x entered z (atom a) = passed
node_of x entered z (pair a b) = choose (was_entered z entered) (λ _. passed) (λ _. below (enter z entered) a b)

abbrev pub node_at : ℕ → Substitution → List ℕ → Term → Node
node_at x bs entered t = node_of x entered (way_end bs t) (walk bs t)

-- how the occurs check goes on: with these variables entered, these nodes waiting, and this node
abbrev pub Checks : Type 0
Checks = List ℕ → List Term → Term → Outcome Bool

-- "up to the first find", and "Only the second parts of pairs wait, and the last to wait is looked at first."
abbrev pub occurs_node : Node → List ℕ → List Term → ℕ → Checks → Outcome Bool
occurs_node sought entered ws left go = done true left
occurs_node passed entered ws left go = scan_next ws left (λ vs v. go entered vs v)
occurs_node (below entered' a b) entered ws left go = choose (ltb (length ws) (most waiting)) (λ _. go entered' (b ∷ ws) a) (λ _. stop (at_bound waiting) (suc left))

-- Does the variable x occur in t, or in a node that waits, where these variables have been entered? Each node looked at is a step, also one that the check came to before.
abbrev pub occurs_check : ℕ → Substitution → List ℕ → List Term → Term → ℕ → Outcome Bool
occurs_check x bs entered ws t zero = stop no_steps zero
occurs_check x bs entered ws t (suc left) = occurs_node (node_at x bs entered t) entered ws left (λ entered' vs v. occurs_check x bs entered' vs v left)

-- x "is bound .., unless it occurs in the other side, which fails"; each check begins with no variable entered
abbrev pub bind : Substitution → ℕ → Term → ℕ → Outcome (Option Substitution)
bind bs x t left = and_then (occurs_check x bs [] [] t left) (λ found l. choose found (λ _. done none l) (λ _. done (some ((x, t) ∷ bs)) l))

-- what looking at a pair of followed terms says
pub data Looked : Type 0 where
  fails agrees : Looked
  binds : ℕ → Term → Looked
  parts : Term → Term → Term → Term → Looked

-- "The same variable: done. A variable on the left is bound to the right, else one on the right to the left .. Atoms must have the same kind and
-- payload. Pairs: first parts next, second parts wait."
abbrev pub look : Term → Term → Looked
look (var x) (var y) = choose (eqb x y) (λ _. agrees) (λ _. binds x (var y))
look (var x) (atom b) = binds x (atom b)
look (var x) (pair s t) = binds x (pair s t)
look (atom a) (var y) = binds y (atom a)
look (atom a) (atom b) = choose (same_atom a b) (λ _. agrees) (λ _. fails)
look (atom a) (pair s t) = fails
look (pair s t) (var y) = binds y (pair s t)
look (pair s t) (atom b) = fails
look (pair s t) (pair u v) = parts s t u v

-- the term pairs that wait
abbrev pub Pairs : Type 0
Pairs = List (Term × Term)

-- how unification goes on: with these bindings and waiting pairs, this pair, and the steps left
abbrev pub Goes : Type 0
Goes = Substitution → Pairs → Term → Term → ℕ → Outcome (Option Substitution)

-- the next pair that waits, if one does
abbrev pub unify_next : Pairs → Substitution → ℕ → Goes → Outcome (Option Substitution)
unify_next [] bs left go = done (some bs) left
unify_next (w ∷ ws) bs left go = go bs ws w.0 w.1 left

-- after a binding, or where the occurs check failed
abbrev pub unify_bound : Option Substitution → Pairs → ℕ → Goes → Outcome (Option Substitution)
unify_bound none ws left go = done none left
unify_bound (some bs) ws left go = unify_next ws bs left go

-- one pair looked at
abbrev pub unify_pair : Looked → Substitution → Pairs → ℕ → Goes → Outcome (Option Substitution)
unify_pair fails bs ws left go = done none left
unify_pair agrees bs ws left go = unify_next ws bs left go
unify_pair (binds x u) bs ws left go = and_then (bind bs x u left) (λ r l. unify_bound r ws l go)
unify_pair (parts a b c d) bs ws left go = choose (ltb (length ws) (most waiting)) (λ _. go bs ((b, d) ∷ ws) a c left) (λ _. stop (at_bound waiting) (suc left))

-- Unification of s with t and of the pairs that wait: the bindings then, or none where it fails. "both sides are followed through bindings", and each pair looked at is a step.
-- `fuel` bounds the pairs; as each takes a step, the steps left are always enough.
abbrev pub unify : ℕ → Substitution → Pairs → Term → Term → ℕ → Outcome (Option Substitution)
unify zero bs ws s t left = stop no_steps zero
unify (suc fuel) bs ws s t zero = stop no_steps zero
unify (suc fuel) bs ws s t (suc left) = unify_pair (look (walk bs s) (walk bs t)) bs ws left (λ bs' vs u v l. unify fuel bs' vs u v l)

-- two terms by themselves
abbrev pub unify_terms : Substitution → Term → Term → ℕ → Outcome (Option Substitution)
unify_terms bs s t left = unify left bs [] s t left
