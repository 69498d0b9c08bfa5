-- The names area as a function of the names given, and what the functions that name promise.
use Rattle.std.specs.Prelude.{ℕ, ◌+◌, ◌*◌, ◌%◌, ◌≤◌, ◌<◌, ◌≡◌, false, List, [], ◌∷◌, eqb, length}
use Rattle.rules.specs.Reading.{choose}
use Rattle.rules.specs.Settings.{scratch_words}
use Rattle.semantics.specs.Unify.{member}
use Rattle.engine.specs.Layout.{most_variables, names_area, cells_area}
use Rattle.engine.specs.Reference.{at}

-- `top` after one name more
abbrev pub next_top : ℕ → ℕ → ℕ
next_top top x = top % 4096 + 1 + 4096 * (x + 1)

-- and after several
unfoldable pub top_from : ℕ → List ℕ → ℕ
top_from top [] = top
top_from top (x ∷ xs) = top_from (next_top top x) xs

-- the word of variable y
unfoldable pub word_from : ℕ → List ℕ → ℕ → ℕ
word_from top [] y = 0
word_from top (x ∷ xs) y = choose (eqb y x) (λ _. top + 1) (λ _. word_from (next_top top x) xs y)

-- variables of a path, none twice
unfoldable pub Distinct : List ℕ → Type 0
Distinct [] = Unit {0}
Distinct (x ∷ xs) = (x < most_variables) × (member x xs ≡ false) × Distinct xs

-- these are the names given, in order
pub record Names (s : List ℕ) (top : ℕ) (names : List ℕ) : Type 0 where
  pub top_is : top ≡ top_from 0 names
  pub words : (y : ℕ) → y < most_variables → at s (names_area + y) ≡ word_from 0 names y
  pub distinct : Distinct names

-- names are given, in a scratch that is long enough
pub record NamesGiven (s : List ℕ) (names : List ℕ) : Type 0 where
  pub long : scratch_words ≤ length s
  pub top : ℕ
  pub named : Names s top names

-- these are the names now, and nothing but names was written
pub record Named (s s' : List ℕ) (top : ℕ) (names : List ℕ) : Type 0 where
  pub given : Names s' top names
  pub below : (i : ℕ) → i < names_area → at s' i ≡ at s i
  pub above : (i : ℕ) → cells_area ≤ i → at s' i ≡ at s i
  pub long : length s' ≡ length s
