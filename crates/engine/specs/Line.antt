-- Lines of an answer, as the writer holds them: a trial's equations stay in its own entries of the trail (right sides) and in the pairs' area (variables).
use Rattle.std.specs.Prelude.{ℕ, ◌+◌, ◌/◌, ◌%◌, ◌≤◌, ◌<◌, ◌≡◌, Bool, ◌&&◌, List, [], ◌∷◌, ◌++◌, eqb, length}
use Rattle.word.specs.Kind.{kind_number}
use Rattle.word.specs.declared.kind.Kind.{Kind}
use Rattle.rules.specs.Reading.{choose}
use Rattle.rules.specs.Syntax.{Atom, Term, Sort}
use Rattle.rules.specs.Written.{atom_word, sort_kind, goal_words}
use Rattle.semantics.specs.Answer.{index, reify, vars_in, Line, is_sort, lacks, not_all, differ_goal}
use Rattle.semantics.specs.Unify.{member}
use Rattle.engine.specs.Layout.{most_variables, trail_area, pairs_area}
use Rattle.engine.specs.Reference.{at}
use Rattle.engine.specs.Walk.{Resolves}
use Rattle.engine.specs.declared.writer.line.Listed.{Listed}
use Rattle.engine.specs.declared.writer.line.Listed.TheVariants.{Typed, Lacks, Differ}

-- the variable of equation i: two to a word
unfoldable pub half : List ℕ → ℕ → ℕ
half s i = choose (eqb (i % 2) 0) (λ _. at s (pairs_area + i / 2) % 65536) (λ _. at s (pairs_area + i / 2) / 65536)

-- equation i of those above the mark, its right side followed
pub record Equation (ws s : List ℕ) (mark i : ℕ) (b : ℕ × Term) : Type 0 where
  pub variable : half s i ≡ b.0
  pub low : b.0 < most_variables
  pub right : Resolves ws s (at s (trail_area + mark + i)) b.1

-- from equation i on
unfoldable pub Equations : List ℕ → List ℕ → ℕ → ℕ → List (ℕ × Term) → Type 0
Equations ws s mark i [] = Unit {0}
Equations ws s mark i (b ∷ cs) = Equation ws s mark i b × Equations ws s mark (i + 1) cs

-- a trial's equations, `count` of them
pub record EquationsIn (ws s : List ℕ) (mark count : ℕ) (cs : List (ℕ × Term)) : Type 0 where
  pub here : Equations ws s mark 0 cs
  pub count_is : count ≡ length cs
  pub few : mark + count ≤ most_variables

-- all variables of an equation have names
abbrev pub equation_in : List ℕ → ℕ × Term → Bool
equation_in names b = member b.0 names && vars_in names b.1

-- the words of an equation, with names
unfoldable pub equation_words : List ℕ → ℕ × Term → List ℕ
equation_words names b = goal_words (differ_goal (index b.0 names, reify names b.1))

unfoldable pub equations_words : List ℕ → List (ℕ × Term) → List ℕ
equations_words names [] = []
equations_words names (b ∷ cs) = equation_words names b ++ equations_words names cs

-- what the code's line says
pub data LineAs (ws s : List ℕ) : Listed → Line → Type 0 where
  as_sort : {k : Kind} {x : ℕ} (sort : Sort) → kind_number k ≡ sort_kind sort → x < most_variables → LineAs ws s (Typed k x) (is_sort sort x)
  as_lacks : {tag x : ℕ} (a : Atom) → tag ≡ atom_word a → x < most_variables → LineAs ws s (Lacks tag x) (lacks a x)
  as_differ : {mark count : ℕ} (b : ℕ × Term) (cs : List (ℕ × Term)) → EquationsIn ws s mark count (b ∷ cs) → LineAs ws s (Differ mark count) (not_all (b ∷ cs))
