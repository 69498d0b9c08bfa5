-- Words, after document 01, "Words": the top four bits of a 32-bit word are its kind, the low 28 its payload.
use Rattle.std.specs.Prelude.{◌≡◌, ℕ, ◌+◌, ◌*◌, ◌/◌, ◌%◌, ◌<◌, List, ◌∷◌, ◌++◌}
use Rattle.std.specs.Fmt.{decimal}
use Rattle.std.proofs.Common.{arith}

-- "the top four bits are the kind"
abbrev pub kind : ℕ → ℕ
kind w = w / 268435456

-- "the low 28 the payload"
abbrev pub payload : ℕ → ℕ
payload w = w % 268435456

-- "k:p means kind k with payload p"
abbrev pub word : ℕ → ℕ → ℕ
word k p = k * 268435456 + p

-- "k:p means kind k with payload p, both decimal": the codes of its characters, of which 58 is the colon
abbrev pub word_printed : ℕ → List ℕ
word_printed w = decimal (kind w) ++ (58 ∷ decimal (payload w))

-- "words from standard input, four bytes each, low byte first"
abbrev pub from_bytes : ℕ → ℕ → ℕ → ℕ → ℕ
from_bytes low second third high = low + 256 * second + 65536 * third + 16777216 * high

-- a kind and a payload below 2^28 go in and come out
pub kind_word : (k p : ℕ) → p < 268435456 → kind (word k p) ≡ k
kind_word k p h = omega arith

pub payload_word : (k p : ℕ) → p < 268435456 → payload (word k p) ≡ p
payload_word k p h = omega arith

-- a kind below 16 and a payload below 2^28 make a 32-bit word
pub word_fits : (k p : ℕ) → k < 16 → p < 268435456 → word k p < 4294967296
word_fits k p hk hp = omega arith

-- every 32-bit number is the word of one kind below 16 and one payload below 2^28 ..
pub record Splits (w k p : ℕ) : Type 0 where
  pub is_word : w ≡ word k p
  pub kind_below : k < 16
  pub payload_below : p < 268435456

pub splits : (w : ℕ) → w < 4294967296 → Splits w (kind w) (payload w)
splits w h = record { is_word = omega arith; kind_below = omega arith; payload_below = omega arith }

-- .. and of no other
pub splits_once : (w k p : ℕ) → Splits w k p → (k ≡ kind w) × (p ≡ payload w)
splits_once w k p s = omega arith
