-- Which term, goal or relation the program's words are from a place on, and references to them: what the engine's private functions say of words.
-- `base` is the environment, the number of the relation's variable 0: a term is read as it stands on a path, so nothing is shifted where the code looks.
use Rattle.std.specs.Prelude.{ℕ, ◌+◌, ◌*◌, ◌/◌, ◌%◌, ◌≤◌, ◌<◌, ◌≡◌, List, [], ◌∷◌, length, get_or}
use Rattle.word.specs.Word.{kind, payload}
use Rattle.rules.specs.Reading.{kind_at, payload_at, after}
use Rattle.rules.specs.Written.{sort_kind}
use Rattle.rules.specs.Syntax.{Atom, symbol, number, empty, Term, var, atom, pair, Constraint, differ, typed, absento, Goal, Goals, equal, constrain, conj, disj, call, one, more, Relation}
use Rattle.semantics.specs.Path.{Task}
use Rattle.semantics.specs.Invariant.{Vars}
use Rattle.rules.specs.Settings.{most_words}
use Rattle.engine.specs.Layout.{most_variables, positions, references}

-- the word at a place of a list
abbrev pub at : List ℕ → ℕ → ℕ
at ws i = get_or ws i 0

-- a word has this kind and this payload
abbrev pub Is : ℕ → ℕ → ℕ → Type 0
Is w k p = (kind w ≡ k) × (payload w ≡ p)

abbrev pub AtomIs : ℕ → Atom → Type 0
AtomIs w (symbol p) = Is w 1 p
AtomIs w (number p) = Is w 2 p
AtomIs w empty = Is w 3 0

-- the words from `from` up to `to` are the term
abbrev pub TermAt : List ℕ → ℕ → ℕ → ℕ → Term → Type 0
TermAt ws base from to (var x) = (kind_at ws from ≡ 0) × (base + payload_at ws from ≡ x) × (to ≡ from + 1)
TermAt ws base from to (atom a) = AtomIs (at ws from) a × (to ≡ from + 1)
TermAt ws base from to (pair s t) = (kind_at ws from ≡ 4) × TermAt ws base (from + 1) (from + 1 + payload_at ws from) s × TermAt ws base (from + 1 + payload_at ws from) to t

-- terms one after the other
abbrev pub TermsAt : List ℕ → ℕ → ℕ → ℕ → List Term → Type 0
TermsAt ws base from to [] = from ≡ to
TermsAt ws base from to (t ∷ ts) = (mid : ℕ) × TermAt ws base from mid t × TermsAt ws base mid to ts

-- the goal at a place is the constraint, as it stands on a path
abbrev pub ConstraintAt : List ℕ → ℕ → ℕ → Constraint → Type 0
ConstraintAt ws base pos (differ s t) = (kind_at ws pos ≡ 6) × TermsAt ws base (pos + 1) (after ws pos) (s ∷ t ∷ [])
ConstraintAt ws base pos (typed k t) = (kind_at ws pos ≡ sort_kind k) × TermsAt ws base (pos + 1) (after ws pos) (t ∷ [])
ConstraintAt ws base pos (absento a t) = (kind_at ws pos ≡ 9) × AtomIs (at ws (pos + 1)) a × TermsAt ws base (pos + 2) (after ws pos) (t ∷ [])

-- goals are read with base 0, as the program holds them
abbrev mutual
  pub GoalAt : List ℕ → ℕ → Goal → Type 0
  GoalAt ws pos (equal s t) = (kind_at ws pos ≡ 5) × TermsAt ws 0 (pos + 1) (after ws pos) (s ∷ t ∷ [])
  GoalAt ws pos (constrain c) = ConstraintAt ws 0 pos c
  GoalAt ws pos (conj gs) = (kind_at ws pos ≡ 10) × GoalsAt ws (pos + 1) (after ws pos) gs
  GoalAt ws pos (disj gs) = (kind_at ws pos ≡ 11) × GoalsAt ws (pos + 1) (after ws pos) gs
  GoalAt ws pos (call r ts) = (kind_at ws pos ≡ 12) × Is (at ws (pos + 1)) 2 r × TermsAt ws 0 (pos + 2) (after ws pos) ts

  pub GoalsAt : List ℕ → ℕ → ℕ → Goals → Type 0
  GoalsAt ws from to (one g) = GoalAt ws from g × (after ws from ≡ to)
  GoalsAt ws from to (more g gs) = GoalAt ws from g × GoalsAt ws (after ws from) to gs

pub record RelationAt (ws : List ℕ) (pos : ℕ) (R : Relation) : Type 0 where
  pub is_kind : kind_at ws pos ≡ 13
  pub params : Is (at ws (pos + 1)) 2 R.params
  pub vars : Is (at ws (pos + 2)) 2 R.vars
  pub body : GoalAt ws (pos + 3) R.body
  pub inside : after ws (pos + 3) ≤ length ws
  pub small : after ws (pos + 3) ≤ most_words

-- a reference: a position, and so many times as there are positions, a base
abbrev pub refer : ℕ → ℕ → ℕ
refer pos base = pos + positions * base

abbrev pub pos_of : ℕ → ℕ
pos_of w = w % positions

abbrev pub base_of : ℕ → ℕ
base_of w = w / positions

-- past a part with its payload's words: references of one base are as far apart as their positions
abbrev pub beyond : List ℕ → ℕ → ℕ
beyond ws w = w + 1 + payload_at ws (pos_of w)

-- a reference stands for a term as it is on the path
pub record Stands (ws : List ℕ) (w : ℕ) (t : Term) : Type 0 where
  pub to : ℕ
  pub reads : TermAt ws (base_of w) (pos_of w) to t
  pub inside : to ≤ length ws
  pub small : to ≤ most_words
  pub below : w < references
  pub in_range : Vars (λ x. x < most_variables) t

-- a reference stands for a goal with its base
pub record TaskAt (ws : List ℕ) (w : ℕ) (task : Task) : Type 0 where
  pub base : base_of w ≡ task.0
  pub goal : GoalAt ws (pos_of w) task.1
  pub inside : after ws (pos_of w) ≤ length ws
  pub small : after ws (pos_of w) ≤ most_words
  pub below : w < references

-- a reference to the first of several goals, which end at `to`
pub record RestAt (ws : List ℕ) (w to base : ℕ) (gs : Goals) : Type 0 where
  pub is_base : base_of w ≡ base
  pub goals : GoalsAt ws (pos_of w) to gs
  pub inside : to ≤ length ws
  pub small : to ≤ most_words
  pub below : w < references

abbrev pub VarsC : (ℕ → Type 0) → Constraint → Type 0
VarsC Q (differ s t) = Vars Q s × Vars Q t
VarsC Q (typed k t) = Vars Q t
VarsC Q (absento a t) = Vars Q t

-- a reference to a constraint's goal stands for the constraint as it is on the path
pub record KeepsAt (ws : List ℕ) (w : ℕ) (c : Constraint) : Type 0 where
  pub reads : ConstraintAt ws (base_of w) (pos_of w) c
  pub inside : after ws (pos_of w) ≤ length ws
  pub small : after ws (pos_of w) ≤ most_words
  pub below : w < references
  pub in_range : VarsC (λ x. x < most_variables) c
