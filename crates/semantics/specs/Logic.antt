-- The relations read as plain logic, without a search: document 01, "Logic without a search".
use Rattle.std.specs.Prelude.{ℕ, zero, suc, ◌+◌, ◌≡◌, List, [], ◌∷◌, map}
use Rattle.std.proofs.Math.Option.{some}
use Rattle.std.proofs.Math.ListN.{get_elem?}
use Rattle.rules.specs.Syntax.{Atom, symbol, number, empty, Term, var, atom, pair, Sort, symbols, numbers, Constraint, differ, typed, absento, Goal, Goals, equal, constrain, conj, disj, call, one, more, Relation, Program}
use Rattle.rules.specs.WellFormed.{AtomGood}

-- "A tree, or variable-free term, is an atom .. or a pair of trees, and is finite."
pub data Tree : Type 0 where
  leaf : Atom → Tree
  node : Tree → Tree → Tree

-- "a symbol or a number, payloads below 2^28, or the empty list"
abbrev pub Proper : Tree → Type 0
Proper (leaf a) = AtomGood a
Proper (node s t) = Proper s × Proper t

-- "An assignment gives each variable of a relation a tree": where one is meant, `AllProper` is asked beside it.
abbrev pub Assignment : Type 0
Assignment = ℕ → Tree

-- the trees of an assignment are proper
abbrev pub AllProper : Assignment → Type 0
AllProper ρ = (x : ℕ) → Proper (ρ x)

-- "and so each term"
abbrev pub value : Assignment → Term → Tree
value ρ (var x) = ρ x
value ρ (atom a) = leaf a
value ρ (pair s t) = node (value ρ s) (value ρ t)

-- "symbolo, numbero: the tree is a symbol, a number"
abbrev pub OfSort : Sort → Tree → Type 0
OfSort symbols (leaf (symbol p)) = Unit {0}
OfSort symbols (leaf (number p)) = ⊥
OfSort symbols (leaf empty) = ⊥
OfSort symbols (node s t) = ⊥
OfSort numbers (leaf (symbol p)) = ⊥
OfSort numbers (leaf (number p)) = Unit {0}
OfSort numbers (leaf empty) = ⊥
OfSort numbers (node s t) = ⊥

-- "absento: none of its atoms is the tag"
abbrev pub Lacks : Atom → Tree → Type 0
Lacks a (leaf b) = ¬ (a ≡ b)
Lacks a (node s t) = Lacks a s × Lacks a t

-- "differ: they aren't" the same
abbrev pub Meets : Assignment → Constraint → Type 0
Meets ρ (differ s t) = ¬ (value ρ s ≡ value ρ t)
Meets ρ (typed k t) = OfSort k (value ρ t)
Meets ρ (absento a t) = Lacks a (value ρ t)

-- the trees of variables 0 to n - 1: what an assignment gives a relation's n parameters
abbrev pub firsts : ℕ → Assignment → List Tree
firsts zero ρ = []
firsts (suc n) ρ = ρ zero ∷ firsts n (λ i. ρ (suc i))

module _ (P : Program) where
  mutual
    -- "Under it a goal holds with n calls in just these cases."
    pub data Holds : Assignment → Goal → ℕ → Type 0 where
      -- "Equal: the trees are the same .. with n = 0"
      equal_holds : {ρ : Assignment} {s t : Term} → value ρ s ≡ value ρ t → Holds ρ (equal s t) 0
      constrain_holds : {ρ : Assignment} {c : Constraint} → Meets ρ c → Holds ρ (constrain c) 0
      conj_holds : {ρ : Assignment} {gs : Goals} {n : ℕ} → All ρ gs n → Holds ρ (conj gs) n
      disj_holds : {ρ : Assignment} {gs : Goals} {n : ℕ} → Any ρ gs n → Holds ρ (disj gs) n
      -- "Call: under some assignment that gives the called relation's parameters the arguments' trees, its goal holds, and n is 1 more than that goal's number."
      call_holds : {ρ : Assignment} {r : ℕ} {ts : List Term} {n : ℕ} (R : Relation) (ρ' : Assignment) →
          get_elem? P r ≡ some R → AllProper ρ' → firsts R.params ρ' ≡ map (value ρ) ts → Holds ρ' R.body n → Holds ρ (call r ts) (suc n)

    -- "Conjunction: every goal holds, and n is the sum of their numbers."
    pub data All : Assignment → Goals → ℕ → Type 0 where
      all_one : {ρ : Assignment} {g : Goal} {n : ℕ} → Holds ρ g n → All ρ (one g) n
      all_more : {ρ : Assignment} {g : Goal} {gs : Goals} {m n : ℕ} → Holds ρ g m → All ρ gs n → All ρ (more g gs) (m + n)

    -- "Disjunction: one alternative holds with n."
    pub data Any : Assignment → Goals → ℕ → Type 0 where
      any_one : {ρ : Assignment} {g : Goal} {n : ℕ} → Holds ρ g n → Any ρ (one g) n
      any_first : {ρ : Assignment} {g : Goal} {gs : Goals} {n : ℕ} → Holds ρ g n → Any ρ (more g gs) n
      any_later : {ρ : Assignment} {g : Goal} {gs : Goals} {n : ℕ} → Any ρ gs n → Any ρ (more g gs) n

  -- "The relations give a tuple with n calls if relation 0's goal holds with n under some assignment that gives its parameters the tuple."
  pub record Gives (tuple : List Tree) (n : ℕ) : Type 0 where
    pub query : Relation
    pub is_query : get_elem? P 0 ≡ some query
    pub assignment : Assignment
    pub proper : AllProper assignment
    pub is_tuple : firsts query.params assignment ≡ tuple
    pub holds : Holds assignment query.body n
