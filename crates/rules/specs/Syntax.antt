-- Programs, after document 01, "Words": terms, constraints, goals, relations. What the words of a rule file stand for.
use Rattle.std.specs.Prelude.{ℕ, List}

-- "symbol p, number p, empty list"
pub data Atom : Type 0 where
  symbol number : ℕ → Atom
  empty : Atom

-- "variable p", an atom, or a "pair: the first part, then the second part"
pub data Term : Type 0 where
  var : ℕ → Term
  atom : Atom → Term
  pair : Term → Term → Term

-- what "symbolo, numbero" ask for
pub data Sort : Type 0 where
  symbols numbers : Sort

-- "differ: two terms", "symbolo, numbero: one term", "absento: .. the tag, one term".
-- The tag is an atom here; which atoms it may be is for the reading to say.
pub data Constraint : Type 0 where
  differ : Term → Term → Constraint
  typed : Sort → Term → Constraint
  absento : Atom → Term → Constraint

mutual
  -- "equal: two terms", a constraint, "conjunction, disjunction: one or more goals", "call: a number word (the relation), its argument terms"
  pub data Goal : Type 0 where
    equal : Term → Term → Goal
    constrain : Constraint → Goal
    conj disj : Goals → Goal
    call : ℕ → List Term → Goal

  -- "one or more goals"
  pub data Goals : Type 0 where
    one : Goal → Goals
    more : Goal → Goals → Goals

-- "relation: number word (parameters), number word (all variables), one goal"
pub record Relation : Type 0 where
  pub params : ℕ
  pub vars : ℕ
  pub body : Goal

-- "A program is relations 0, 1, 2 and so on"
abbrev pub Program : Type 0
Program = List Relation
