-- Substitutions: document 01 speaks of "bindings", and of a term "followed through bindings".
-- Here and below, `choose test x y` of crate rules goes on with x where the test holds, else with y; both are functions, so that only one is computed.
use Rattle.std.specs.Prelude.{ℕ, zero, suc, ◌+◌, List, [], ◌∷◌, Bool, true, false, eqb, length}
use Rattle.std.proofs.Math.Option.{Option, none, some}
use Rattle.rules.specs.Syntax.{Atom, symbol, number, empty, Term, var, atom, pair, Constraint, differ, typed, absento}
use Rattle.rules.specs.Reading.{choose}

-- "Atoms must have the same kind and payload."
abbrev pub same_atom : Atom → Atom → Bool
same_atom (symbol a) (symbol b) = eqb a b
same_atom (symbol a) (number b) = false
same_atom (symbol a) empty = false
same_atom (number a) (symbol b) = false
same_atom (number a) (number b) = eqb a b
same_atom (number a) empty = false
same_atom empty (symbol b) = false
same_atom empty (number b) = false
same_atom empty empty = true

-- A relation's variables "made anew" for a call are numbered from `base` on, its environment; this is a term of the relation in that environment.
abbrev pub shift : ℕ → Term → Term
shift base (var p) = var (base + p)
shift base (atom a) = atom a
shift base (pair s t) = pair (shift base s) (shift base t)

-- and a constraint of the relation in that environment
abbrev pub shift_constraint : ℕ → Constraint → Constraint
shift_constraint base (differ s t) = differ (shift base s) (shift base t)
shift_constraint base (typed k t) = typed k (shift base t)
shift_constraint base (absento a t) = absento a (shift base t)

-- the variables bound so far, newest first, each with the term it was bound to as it stood then
abbrev pub Substitution : Type 0
Substitution = List (ℕ × Term)

-- what a variable is bound to, if it is
abbrev pub lookup : Substitution → ℕ → Option Term
lookup [] x = none
lookup (b ∷ bs) x = choose (eqb b.0 x) (λ _. some b.1) (λ _. lookup bs x)

-- an open variable stays; a bound one goes on to its term
abbrev pub hop : Option Term → ℕ → (Term → Term) → Term
hop none x go = var x
hop (some t) x go = go t

-- follows a variable through at most n bindings
abbrev pub walk_for : ℕ → Substitution → Term → Term
walk_for zero bs t = t
walk_for (suc n) bs (atom a) = atom a
walk_for (suc n) bs (pair s t) = pair s t
walk_for (suc n) bs (var x) = hop (lookup bs x) x (λ t. walk_for n bs t)

-- "followed through bindings", up to an atom, a pair or an open variable: the proofs show that it arrives there, as no variable is met twice
abbrev pub walk : Substitution → Term → Term
walk bs t = walk_for (length bs) bs t

-- puts the term u for the variable x
abbrev pub put : ℕ → (Unit {0} → Term) → Term → Term
put x u (var y) = choose (eqb x y) u (λ _. var y)
put x u (atom a) = atom a
put x u (pair s t) = pair (put x u s) (put x u t)

-- The whole term "with bindings followed": all that is bound in it is put in. The newest binding goes in last: an older binding's term may hold its variable, and its own
-- term, once the older ones are in it, holds no bound variable.
abbrev pub resolve : Substitution → Term → Term
resolve [] t = t
resolve (b ∷ bs) t = put b.0 (λ _. resolve bs b.1) (resolve bs t)

-- goes on while a variable is bound to a variable
abbrev pub hop_variable : Option Term → ℕ → (ℕ → ℕ) → ℕ
hop_variable none x go = x
hop_variable (some (var y)) x go = go y
hop_variable (some (atom a)) x go = x
hop_variable (some (pair s t)) x go = x

-- the last variable on the way from x, through at most n bindings
abbrev pub last_variable : ℕ → Substitution → ℕ → ℕ
last_variable zero bs x = x
last_variable (suc n) bs x = hop_variable (lookup bs x) x (λ y. last_variable n bs y)

-- What a parameter is bound to: its argument, but of a variable the last variable on its way. So a variable that is handed down through many calls
-- is one binding away from the last of them, not one for each call; resolved terms are the same.
abbrev pub argument : Substitution → Term → Term
argument bs (var x) = var (last_variable (length bs) bs x)
argument bs (atom a) = atom a
argument bs (pair s t) = pair s t
