-- What the functions that write a part of the text leave.
use Rattle.std.specs.Prelude.{ℕ, ◌+◌, ◌/◌, ◌%◌, min, ◌≡◌, List, eqb, length}
use Rattle.std.proofs.lemmas.List.Edits.{sets}
use Rattle.rules.specs.Reading.{choose}

-- The text stands in the bytes from `at` on, as far as they reach (`sets` past the end stores nothing), and `next` is the place behind it.
pub record Wrote (text : List ℕ) (at : ℕ) (out : List ℕ) (next : ℕ) (after : List ℕ) : Type 0 where
  pub is_next : next ≡ at + length text
  pub is_after : after ≡ sets out at text

-- how many words are read: as many as there are, but one more than a program may have is enough
abbrev pub words_read : ℕ → ℕ
words_read bytes = choose (eqb (bytes % 4) 0) (λ _. min (bytes / 4) 16385) (λ _. 0)
