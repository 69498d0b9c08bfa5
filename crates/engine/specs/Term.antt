-- What the functions that put words promise. With `write` words are stored, without it they are compared with those that are there: success says the same for both.
use Rattle.std.specs.Prelude.{ℕ, ◌+◌, ◌≤◌, ◌<◌, ◌≡◌, Bool, true, false, List, length, Option, Some, None}
use Rattle.rules.specs.Inner.{Spells}
use Rattle.engine.specs.Reference.{at}
use Rattle.engine.specs.Names.{NamesGiven}

-- the output can be used up to `end`, and a part's word can count that far
pub record Room (o : List ℕ) (end : ℕ) : Type 0 where
  pub inside : end ≤ length o
  pub short : end < 268435456

-- Words are to be put, or compared, from `start` on and below `end`. Names are given, and all variables of what is put have one: `all_named` says so of the term, equation or line.
pub record Puts (s o : List ℕ) (start end : ℕ) (names : List ℕ) (all_named : Bool) : Type 0 where
  pub from : start ≤ end
  pub room : Room o end
  pub given : NamesGiven s names
  pub known : all_named ≡ true

-- only words from `from` up to `to` were touched
pub record Touched (o o' : List ℕ) (from to : ℕ) : Type 0 where
  pub below : (i : ℕ) → i < from → at o' i ≡ at o i
  pub above : (i : ℕ) → to ≤ i → at o' i ≡ at o i
  pub long : length o' ≡ length o

-- one word
pub record WordPut (o o' : List ℕ) (place w : ℕ) (write r : Bool) : Type 0 where
  pub yes : r ≡ true → at o' place ≡ w
  pub no : r ≡ false → (write ≡ false) × ¬ (at o place ≡ w)
  pub touched : Touched o o' place (place + 1)
  pub read_only : write ≡ false → o' ≡ o

-- the words stand from `start` up to e
pub record Laid (o o' : List ℕ) (start end : ℕ) (write : Bool) (v : List ℕ) (e : ℕ) : Type 0 where
  pub is : e ≡ start + length v
  pub fits : e ≤ end
  pub words : Spells o' start v
  pub touched : Touched o o' start e
  pub read_only : write ≡ false → o' ≡ o

-- they do not fit, or are not there
pub record Missing (o o' : List ℕ) (start end : ℕ) (write : Bool) (v : List ℕ) : Type 0 where
  pub no_room : write ≡ true → end < start + length v
  pub differs : write ≡ false → start + length v ≤ end → Spells o start v → ⊥
  pub touched : Touched o o' start end
  pub read_only : write ≡ false → o' ≡ o

-- what each case says
pub data Placed (o o' : List ℕ) (start end : ℕ) (write : Bool) (v : List ℕ) : Option ℕ → Type 0 where
  all_laid : {e : ℕ} → Laid o o' start end write v e → Placed o o' start end write v (Some e)
  some_missing : Missing o o' start end write v → Placed o o' start end write v None
