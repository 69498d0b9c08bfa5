-- Every example of document 01's table is refused with its number and at its place: one computed test over the list, and one law.
use mathlib.Core.Path.{◌≡◌, refl, ap₂}
use mathlib.Core.Bool.{Bool, true, false, ◌&&◌}
use mathlib.Core.List.{List, [], ◌∷◌}
use Prim.Native.Nat.{ℕ}
use lib.Dec.{eqb}
use borrow.Author.Tests.{eqb-true}
use Rattle.rules.specs.Accept.{Accept, accepted, refused, read, read_with}
use Rattle.rules.specs.Lists.{Each}
use Rattle.refusal_table.specs.Table.{Example, examples}
use Rattle.rules.specs.Reading.{read_word, read_leaf, read_term, read_one, read_two, read_terms, read_goal, read_goals, read_tag, read_absento, read_call, read_body, read_variables, read_relation, read_relations}
use Rattle.rules.specs.Calls.{goal_fault, goals_fault, relations_fault}
use Rattle.rules.specs.Written.{goal_words}
use Rattle.rules.proofs.Combine.{and_true, false_true}

-- the reading is this refusal
is_refused : Accept → ℕ → ℕ → Bool
is_refused (accepted P) c p = false
is_refused (refused d q) c p = eqb d c && eqb q p

holds : Example → Bool
holds x = is_refused (read_with x.rounds x.scratch x.words) x.number x.place

all : List Example → Bool
all [] = true
all (x ∷ xs) = holds x && all xs

-- what is said of an example
abbrev pub Refused : Example → Type 0
Refused x = read_with x.rounds x.scratch x.words ≡ refused x.number x.place

refused_law : (r : Accept) (c p : ℕ) → is_refused r c p ≡ true → r ≡ refused c p
unfolding is_refused
refused_law (accepted P) c p e = absurd (false_true e)
refused_law (refused d q) c p e =
    let b = and_true (eqb d c) (eqb q p) e in
    ap₂ refused (eqb-true d c b.0) (eqb-true q p b.1)

each_law : (xs : List Example) → all xs ≡ true → Each Refused xs
unfolding all holds
each_law [] e = tt
each_law (x ∷ xs) e =
    let b = and_true (holds x) (all xs) e in
    (refused_law (read_with x.rounds x.scratch x.words) x.number x.place b.0, each_law xs b.1)

computed : all examples ≡ true
unfolding all holds is_refused examples read read_word read_leaf read_term read_one read_two read_terms read_goal read_goals read_tag read_absento read_call read_body read_variables read_relation read_relations goal_fault goals_fault relations_fault goal_words
computed = refl

pub table_holds : Each Refused examples
table_holds = each_law examples computed
