-- A line, word after word.
use Prim.Native.Nat.{ℕ, ◌+◌, ◌≤◌, ◌<◌}
use mathlib.Core.Path.{◌≡◌, refl}
use mathlib.Core.List.{List, [], ◌∷◌, ◌++◌}
use native.Mathlib.Omega.{arith}
use native.Mathlib.Numerals.{add-one}
use lib.ListN.{length, get_or, drop, drop_of_length-le}
use lib.Seq.{drop-cons}
use Rattle.list_text.specs.Listing.{codes, line, line_behind, word_text}

-- a line's first word, and a further one
pub line_first : (ws : List ℕ) → 0 < length ws → line ws ≡ word_text (get_or ws 0 0) ++ line_behind (drop 1 ws)
line_first [] h = absurd (omega arith)
line_first (w ∷ ws) h = refl

pub line_next : (ws : List ℕ) (i : ℕ) → i < length ws → line_behind (drop i ws) ≡ codes " " ++ (word_text (get_or ws i 0) ++ line_behind (drop (i + 1) ws))
line_next ws i h = rw (drop-cons ws i 0 h, add-one i)

pub line_last : (ws : List ℕ) (i : ℕ) → length ws ≤ i → line_behind (drop i ws) ≡ codes "\n"
line_last ws i h = rw (drop_of_length-le ws h)
