-- The table of document 01, "Turning a program away": each example with its number and place.
use Rattle.std.specs.Prelude.{ℕ, zero, suc, List, [], ◌∷◌, ◌++◌}
use Rattle.word.specs.Word.{word}
use Rattle.rules.specs.Settings.{scratch_words}

-- settings and words, and the number and the place of the refusal
pub record Example : Type 0 where
  pub rounds : ℕ
  pub scratch : ℕ
  pub words : List ℕ
  pub number : ℕ
  pub place : ℕ

-- an example with settings that are allowed
abbrev pub example : List ℕ → ℕ → ℕ → Example
example ws c p = record { rounds = 16; scratch = scratch_words; words = ws; number = c; place = p }

-- "257 times `13:5 2:0 2:0 5:2 3:0 3:0`"
abbrev pub times : ℕ → List ℕ → List ℕ
times zero ws = []
times (suc n) ws = ws ++ times n ws

abbrev pub small_relation : List ℕ
small_relation = word 13 5 ∷ word 2 0 ∷ word 2 0 ∷ word 5 2 ∷ word 3 0 ∷ word 3 0 ∷ []

unfoldable pub examples : List Example
examples =
    example [] 1 0
    ∷ example (word 5 0 ∷ []) 2 0
    ∷ example (word 13 9 ∷ []) 3 0
    ∷ example (word 13 5 ∷ word 2 2 ∷ word 2 1 ∷ word 5 2 ∷ word 0 0 ∷ word 3 0 ∷ []) 4 2
    ∷ example (word 13 5 ∷ word 2 1 ∷ word 2 1 ∷ word 5 2 ∷ word 0 1 ∷ word 3 0 ∷ []) 5 4
    ∷ example (times 257 small_relation) 6 1536
    ∷ example (word 13 4 ∷ word 2 0 ∷ word 2 0 ∷ word 12 1 ∷ word 2 1 ∷ []) 7 3
    ∷ example (word 13 5 ∷ word 2 0 ∷ word 2 0 ∷ word 12 2 ∷ word 2 0 ∷ word 3 0 ∷ []) 8 3
    ∷ record { rounds = 256; scratch = scratch_words; words = small_relation; number = 9; place = 0 }
    ∷ []
