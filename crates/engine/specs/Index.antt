-- The index of the answers on the output: a hash table in the last words of it that can be used. An entry is 0, or the place of an answer plus 1. An answer is entered
-- at the first empty entry from its home slot on, and behind the last slot comes the first.
use Rattle.std.specs.Prelude.{ℕ, ◌+◌, ◌*◌, ◌-◌, ◌/◌, ◌%◌, ◌≤◌, ◌<◌, ◌≡◌, Bool, true, false, List, [], ◌∷◌, ◌++◌, ◌⊎◌, eqb, drop, length}
use Rattle.rules.specs.Inner.{Spells}
use Rattle.rules.specs.Reading.{choose}
use Rattle.semantics.specs.Answer.{any_same}
use Rattle.engine.specs.Reference.{at}
use Rattle.engine.specs.Term.{Room, Touched}
use Rattle.engine.specs.Lines.{Whole, Stretch, Rows}
use Rattle.engine.specs.declared.repeats.index.Entered.{Entered}
use Rattle.engine.specs.declared.repeats.index.Entered.TheVariants as entered
use Rattle.engine.specs.declared.repeats.repeated.Compared.{Compared}
use Rattle.engine.specs.declared.repeats.repeated.Compared.TheVariants.{Repeated, New}

-- a product's upper half added to its lower
abbrev pub fold_halves : ℕ → ℕ
fold_halves x = x / 4294967296 + x % 4294967296

-- the hash of words, after that of the words before them
unfoldable pub hash_from : ℕ → List ℕ → ℕ
hash_from h [] = h
hash_from h (w ∷ ws) = hash_from (fold_halves ((h + w) * 708568507)) ws

-- the slot where the search for an answer begins: its header says no more than how many words follow
abbrev pub home : ℕ → List ℕ → ℕ
home size w = hash_from 0 (drop 1 w) % 4294967296 * size / 4294967296

-- the slot behind another
abbrev pub next_slot : ℕ → ℕ → ℕ
next_slot size slot = choose (eqb (slot + 1) size) (λ _. 0) (λ _. slot + 1)

-- the entry of a place is in this slot, or in a later one with no empty one before it
pub data Leads (o : List ℕ) (table size : ℕ) : ℕ → ℕ → Type 0 where
  here : {slot place : ℕ} → at o (table + slot) ≡ place + 1 → Leads o table size slot place
  further : {slot place : ℕ} → 0 < at o (table + slot) → Leads o table size (next_slot size slot) place → Leads o table size slot place

-- of answers that follow one another from `first` on, w stands at `place`
unfoldable pub AnswerAt : ℕ → List (List ℕ) → ℕ → List ℕ → Type 0
AnswerAt first [] place w = ⊥
AnswerAt first (x ∷ xs) place w = ((place ≡ first) × (w ≡ x)) ⊎ AnswerAt (first + length x) xs place w

-- the entries of a table of so many slots lead to each of the answers, and to nothing else
pub record Index (o : List ℕ) (table size : ℕ) (ws : List (List ℕ)) : Type 0 where
  pub leads : (place : ℕ) (w : List ℕ) → AnswerAt 0 ws place w → Leads o table size (home size w) place
  pub entries : (slot : ℕ) → slot < size → 0 < at o (table + slot) → (w : List ℕ) × AnswerAt 0 ws (at o (table + slot) - 1) w

-- the index is the last so many words up to `end`; of one with no words nothing is asked
abbrev pub Indexed : List ℕ → ℕ → ℕ → List (List ℕ) → Type 0
Indexed o end index ws = 0 < index → Index o (end - index) index ws

-- An answer v has been written behind the answers ws, and is to be compared with them. Where its words reach into the index, nothing is known of that.
pub record Comparing (o : List ℕ) (used next end index : ℕ) (ws : List (List ℕ)) (v : List ℕ) : Type 0 where
  pub earlier : Rows o 0 used ws
  pub words : Stretch o used next v
  pub whole : Whole v
  pub fits : next ≤ end
  pub room : Room o end
  pub indexed : next + index ≤ end → Indexed o end index ws

-- does it have the same words as an earlier one?
abbrev pub is_repeated : Compared → Bool
is_repeated (Repeated index) = true
is_repeated (New index) = false

-- what is told, and the index afterwards: of the earlier answers, or of v too
pub record ComparedAs (o o' : List ℕ) (used next end : ℕ) (ws : List (List ℕ)) (v : List ℕ) (r : Compared) : Type 0 where
  pub says : is_repeated r ≡ any_same v ws
  pub repeated : (index : ℕ) → r ≡ Repeated index → (used + index ≤ end) × Indexed o' end index ws
  pub new : (index : ℕ) → r ≡ New index → (next + index ≤ end) × Indexed o' end index (ws ++ (v ∷ []))
  pub touched : Touched o o' next end

-- What the private functions promise one another.

-- whether the words v stand at a place
pub record Standing (o : List ℕ) (place : ℕ) (v : List ℕ) (r : Bool) : Type 0 where
  pub yes : r ≡ true → Spells o place v
  pub no : r ≡ false → ¬ Spells o place v

-- a table behind the first `used` words
pub record Table (o : List ℕ) (used table size : ℕ) : Type 0 where
  pub behind : used ≤ table
  pub some : 0 < size
  pub room : Room o (table + size)

-- v is sought in the index of the answers before it
pub record Seeking (o : List ℕ) (start next table size : ℕ) (ws : List (List ℕ)) (v : List ℕ) : Type 0 where
  pub earlier : Rows o 0 start ws
  pub words : Stretch o start next v
  pub whole : Whole v
  pub table_there : Table o next table size
  pub index : Index o table size ws

-- it is there, or it is entered now, or there is no room for it
pub record EnteredAs (o o' : List ℕ) (table size : ℕ) (ws : List (List ℕ)) (v : List ℕ) (r : Entered) : Type 0 where
  pub repeated : r ≡ entered.Repeated → (any_same v ws ≡ true) × (o' ≡ o)
  pub new : r ≡ entered.New → (any_same v ws ≡ false) × Index o' table size (ws ++ (v ∷ []))
  pub touched : Touched o o' table (table + size)

-- an index of all answers is to be made, and was made if that is told
pub record BuiltAs (o o' : List ℕ) (table size : ℕ) (ws : List (List ℕ)) (r : Bool) : Type 0 where
  pub yes : r ≡ true → Index o' table size ws
  pub touched : Touched o o' table (table + size)

-- answers with their index, which may be made longer
pub record Fitting (o : List ℕ) (used end index : ℕ) (ws : List (List ℕ)) : Type 0 where
  pub answers : Rows o 0 used ws
  pub room : Room o end
  pub fits : used + index ≤ end
  pub indexed : Indexed o end index ws

-- the index of the same answers, with another length
pub record FittedAs (o o' : List ℕ) (used end : ℕ) (ws : List (List ℕ)) (index : ℕ) : Type 0 where
  pub fits : used + index ≤ end
  pub indexed : Indexed o' end index ws
  pub touched : Touched o o' used end
