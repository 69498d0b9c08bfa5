-- The written form of a program, after document 01, "Words": the table read from left to right.
use Rattle.std.specs.Prelude.{ℕ, List, [], ◌∷◌, ◌++◌, length}
use Rattle.word.specs.Word.{word}
use Rattle.rules.specs.Syntax.{Atom, symbol, number, empty, Term, var, atom, pair, Sort, symbols, numbers, Constraint, differ, typed, absento, Goal, Goals, equal, constrain, conj, disj, call, one, more, Relation, Program}

-- a word of kind k, and after it the words that its payload counts: "p counts the words that follow in that part"
abbrev pub part : ℕ → List ℕ → List ℕ
part k ws = word k (length ws) ∷ ws

-- "1, 2: symbol p, number p; 3: empty list, p = 0"
abbrev pub atom_word : Atom → ℕ
atom_word (symbol p) = word 1 p
atom_word (number p) = word 2 p
atom_word empty = word 3 0

-- "0: variable p; 4: pair: the first part takes p words, then the second part"
unfoldable pub term_words : Term → List ℕ
term_words (var x) = word 0 x ∷ []
term_words (atom a) = atom_word a ∷ []
term_words (pair s t) = word 4 (length (term_words s)) ∷ (term_words s ++ term_words t)

unfoldable pub terms_words : List Term → List ℕ
terms_words [] = []
terms_words (t ∷ ts) = term_words t ++ terms_words ts

-- "7, 8: symbolo, numbero"
abbrev pub sort_kind : Sort → ℕ
sort_kind symbols = 7
sort_kind numbers = 8

-- "6: differ: two terms; 7, 8: one term; 9: absento: .. the tag, one term"
abbrev pub constraint_words : Constraint → List ℕ
constraint_words (differ s t) = part 6 (term_words s ++ term_words t)
constraint_words (typed k t) = part (sort_kind k) (term_words t)
constraint_words (absento a t) = part 9 (atom_word a ∷ term_words t)

-- "5: equal: two terms; 10, 11: conjunction, disjunction: one or more goals; 12: call: a number word (the relation), its argument terms"
unfoldable mutual
  pub goal_words : Goal → List ℕ
  goal_words (equal s t) = part 5 (term_words s ++ term_words t)
  goal_words (constrain c) = constraint_words c
  goal_words (conj gs) = part 10 (goals_words gs)
  goal_words (disj gs) = part 11 (goals_words gs)
  goal_words (call r ts) = part 12 (word 2 r ∷ terms_words ts)

  pub goals_words : Goals → List ℕ
  goals_words (one g) = goal_words g
  goals_words (more g gs) = goal_words g ++ goals_words gs

-- "13: relation: number word (parameters), number word (all variables), one goal"
abbrev pub relation_words : Relation → List ℕ
relation_words R = part 13 (word 2 R.params ∷ word 2 R.vars ∷ goal_words R.body)

-- "A program is relations 0, 1, 2 and so on"
unfoldable pub written : Program → List ℕ
written [] = []
written (R ∷ P) = relation_words R ++ written P
