-- The lines of an answer under way: which of them stay, and where they stand in the output.
use Rattle.std.specs.Prelude.{ℕ, ◌+◌, ◌≤◌, ◌<◌, ◌≡◌, true, List, [], ◌∷◌, ◌++◌, length}
use Rattle.rules.specs.Lists.{joined}
use Rattle.rules.specs.Reading.{choose}
use Rattle.rules.specs.Syntax.{Atom, Term, var, atom, pair, Sort}
use Rattle.rules.specs.Written.{part, atom_word, sort_kind}
use Rattle.rules.specs.Inner.{Spells}
use Rattle.semantics.specs.Answer.{Line, line_words, stays}
use Rattle.engine.specs.Walk.{Resolves}
use Rattle.engine.specs.Names.{NamesGiven}
use Rattle.engine.specs.Term.{Room, Touched, Laid}

-- the words of the lines that stay, after one line more
unfoldable pub add_line : List ℕ → List (List ℕ) → Line → List (List ℕ)
add_line names done l = choose (stays names done l) (λ _. done ++ (line_words names l ∷ [])) (λ _. done)

-- and after several
unfoldable pub add_lines : List ℕ → List (List ℕ) → List Line → List (List ℕ)
add_lines names done [] = done
add_lines names done (l ∷ ls) = add_lines names (add_line names done l) ls

-- a line's or an answer's first word counts the rest
pub record Whole (w : List ℕ) : Type 0 where
  pub kind : ℕ
  pub rest : List ℕ
  pub is : w ≡ part kind rest
  pub short : length rest < 268435456

unfoldable pub Wholes : List (List ℕ) → Type 0
Wholes [] = Unit {0}
Wholes (w ∷ ws) = Whole w × Wholes ws

-- words stand from `place` up to `to`
pub record Stretch (o : List ℕ) (place to : ℕ) (w : List ℕ) : Type 0 where
  pub words : Spells o place w
  pub ends : to ≡ place + length w

-- and so do lines, or answers
pub record Rows (o : List ℕ) (place to : ℕ) (ws : List (List ℕ)) : Type 0 where
  pub stretch : Stretch o place to (joined ws)
  pub whole : Wholes ws

-- The answer so far, `head` and then lines from `first` on: it stands from `begin` up to `place`, or it does not fit and `place` is beyond `end`.
pub record AnswerSoFar (o₀ o : List ℕ) (begin first end place : ℕ) (head : List ℕ) (lines : List (List ℕ)) : Type 0 where
  pub stands : place ≤ end → Laid o₀ o begin end true (head ++ joined lines) place
  pub whole : place ≤ end → Wholes lines
  pub begins : place ≤ end → first ≡ begin + length head
  pub over : end < place → end < begin + length (head ++ joined lines)
  pub touched : Touched o₀ o begin end

-- an answer under way, with the names of its query terms' variables
pub record Writing (s out : List ℕ) (first end place : ℕ) : Type 0 where
  pub before : List ℕ
  pub begin : ℕ
  pub head : List ℕ
  pub lines : List (List ℕ)
  pub names : List ℕ
  pub page : AnswerSoFar before out begin first end place head lines
  pub given : NamesGiven s names
  pub room : Room out end

-- and with these lines more
abbrev pub Extended : {s out : List ℕ} {first end place : ℕ} → Writing s out first end place → List ℕ → ℕ → List Line → Type 0
Extended {first = first} {end = end} g out' place' ls = AnswerSoFar g.before out' g.begin first end place' g.head (add_lines g.names g.lines ls)

-- the variables of a term where they stand, also those that stand there again
unfoldable pub occurrences : Term → List ℕ
occurrences (var x) = x ∷ []
occurrences (atom a) = []
occurrences (pair s t) = occurrences s ++ occurrences t

-- an absence or a type whose lines are to be added
pub record AddsAbsent (ws s out : List ℕ) (tag w first end place : ℕ) : Type 0 where
  pub writing : Writing s out first end place
  pub tag_of : Atom
  pub is_tag : tag ≡ atom_word tag_of
  pub term : Term
  pub here : Resolves ws s w term

pub record AddsTyped (ws s out : List ℕ) (kind w first end place : ℕ) : Type 0 where
  pub writing : Writing s out first end place
  pub sort : Sort
  pub is_kind : kind ≡ sort_kind sort
  pub term : Term
  pub here : Resolves ws s w term
