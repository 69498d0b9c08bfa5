-- What the private functions promise one another. Nothing here is part of what `check` promises.
use Rattle.std.specs.Prelude.{ℕ, ◌+◌, ◌<◌, ◌≤◌, ◌≡◌, List, [], ◌∷◌, ◌++◌, leb, length, get_or, Option, Some, None, Result, Ok, Err}
use Rattle.std.proofs.Math.Option as maybe
use Rattle.rules.specs.Syntax.{Term, Goal, Relation, Program}
use Rattle.rules.specs.Written.{term_words, terms_words, goal_words, relation_words, written}
use Rattle.rules.specs.WellFormed.{TermGood, TermsGood, GoalGood, RelationGood, RelationsGood}
use Rattle.rules.specs.Calls.{Fault, sound, fault, or_else, goal_fault}
use Rattle.rules.specs.Reading.{Reading, found, refuse, choose, kind_at, payload_at}
use Rattle.rules.specs.Verdict.{number_of}
use Rattle.rules.specs.Settings.{most_words}
use Rattle.rules.specs.declared.Refusal.{Refusal}

-- the end of the part that was read, without its value
pub data ReadOutcome : Type 0 where
  ends : ℕ → ReadOutcome
  stops : ℕ → ℕ → ReadOutcome

-- a reading without its value
abbrev pub told : {A : Type 0} → Reading A → ReadOutcome
told (found a n) = ends n
told (refuse c p) = stops c p

-- what a reader's result says
abbrev pub outcome : Result ℕ Refusal → ReadOutcome
outcome (Ok n) = ends n
outcome (Err r) = stops (number_of r.condition) r.place

-- what is told of a reading that has to fill its part
abbrev pub filled_told : ReadOutcome → ℕ → ReadOutcome
filled_told (ends n) end = choose (leb end n) (λ _. ends n) (λ _. stops 3 n)
filled_told (stops c p) end = stops c p

-- a reader tells this, whatever the bound on its depth, if it is over `need`
abbrev pub Settles : {A : Type 0} → (ℕ → Reading A) → ℕ → ReadOutcome → Type 0
Settles r need o = (f : ℕ) → need < f → o ≡ told (r f)

-- the kind and the payload of the word at a place
pub record PartAt (ws : List ℕ) (at k p : ℕ) : Type 0 where
  pub is_kind : k ≡ kind_at ws at
  pub is_size : p ≡ payload_at ws at

-- the words of `ws` from `at` on begin with `xs`
unfoldable pub Spells : List ℕ → ℕ → List ℕ → Type 0
Spells ws at [] = Unit {0}
Spells ws at (x ∷ xs) = (get_or ws at 0 ≡ x) × Spells ws (at + 1) xs

-- a written term at a place of a program
pub record GoodTermAt (ws : List ℕ) (at : ℕ) (t : Term) : Type 0 where
  pub vars : ℕ
  pub few : vars ≤ 255
  pub good : TermGood vars t
  pub stands : Spells ws at (term_words t)
  pub within : at + length (term_words t) ≤ length ws
  pub short : length ws ≤ most_words

-- written terms that fill a part
pub record GoodTermsAt (ws : List ℕ) (at end : ℕ) (ts : List Term) : Type 0 where
  pub vars : ℕ
  pub few : vars ≤ 255
  pub good : TermsGood vars ts
  pub stands : Spells ws at (terms_words ts)
  pub to : end ≡ at + length (terms_words ts)
  pub within : end ≤ length ws
  pub short : length ws ≤ most_words

-- written relations that fill the rest of a program
pub record RelationsAt (ws : List ℕ) (at : ℕ) (Rs : List Relation) : Type 0 where
  pub stands : Spells ws at (written Rs)
  pub to : length ws ≡ at + length (written Rs)
  pub good : RelationsGood Rs
  pub short : length ws ≤ most_words

-- the parameters of a relation, if it is there
abbrev pub params_of : maybe.Option Relation → Option ℕ
params_of maybe.none = None
params_of (maybe.some R) = Some R.params

-- what the second pass goes through: relations, and goals of a relation with so many variables
pub data Item : Type 0 where
  relation : Relation → Item
  goal : ℕ → Goal → Item

abbrev pub item_words : Item → List ℕ
item_words (relation R) = relation_words R
item_words (goal vars g) = goal_words g

abbrev pub ItemGood : Item → Type 0
ItemGood (relation R) = RelationGood R
ItemGood (goal vars g) = GoalGood vars g × (vars ≤ 255)

abbrev pub item_fault : Item → Program → ℕ → Fault
item_fault (relation R) P at = goal_fault R.body P (at + 3)
item_fault (goal vars g) P at = goal_fault g P at

abbrev pub items_words : List Item → List ℕ
items_words [] = []
items_words (i ∷ is) = item_words i ++ items_words is

abbrev pub ItemsGood : List Item → Type 0
ItemsGood [] = Unit {0}
ItemsGood (i ∷ is) = ItemGood i × ItemsGood is

abbrev pub items_fault : List Item → Program → ℕ → Fault
items_fault [] P at = sound
items_fault (i ∷ is) P at = or_else (item_fault i P at) (items_fault is P (at + length (item_words i)))

-- items that fill the rest of a program
pub record Rest (ws : List ℕ) (P : Program) (at : ℕ) (is : List Item) : Type 0 where
  pub whole : RelationsAt ws 0 P
  pub stands : Spells ws at (items_words is)
  pub to : length ws ≡ at + length (items_words is)
  pub good : ItemsGood is

-- one step of the second pass: on to items with the same first fault, or that fault
abbrev pub Moves : List ℕ → Program → ℕ → List Item → ReadOutcome → Type 0
Moves ws P at is (ends n) = (js : List Item) × Rest ws P n js × (items_fault is P at ≡ items_fault js P n) × (at < n)
Moves ws P at is (stops c p) = items_fault is P at ≡ fault c p
