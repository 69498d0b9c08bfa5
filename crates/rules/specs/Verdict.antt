-- What `check` answers, in document 01's numbers. `Condition` and `Refusal` are those of src/lib.rt; condition 9 is about settings, which `check` is not given.
use Rattle.std.specs.Prelude.{ℕ, Result, Ok, Err}
use Rattle.rules.specs.Accept.{Accept, accepted, refused}
use Rattle.rules.specs.declared.Condition.{Condition}
use Rattle.rules.specs.declared.Condition.TheVariants.{WordCount, WrongKind, WrongExtent, VariableCount, UnknownVariable, RelationCount, UnknownRelation, ArgumentCount}
use Rattle.rules.specs.declared.Refusal.{Refusal}

-- the column "No." of the table of conditions
abbrev pub number_of : Condition → ℕ
number_of WordCount = 1
number_of WrongKind = 2
number_of WrongExtent = 3
number_of VariableCount = 4
number_of UnknownVariable = 5
number_of RelationCount = 6
number_of UnknownRelation = 7
number_of ArgumentCount = 8

-- an answer without the program: accepted, or a refusal's number and place
pub data Said : Type 0 where
  yes_said : Said
  no_said : ℕ → ℕ → Said

abbrev pub said : Accept → Said
said (accepted P) = yes_said
said (refused c p) = no_said c p

-- what each case of `check`'s result says
abbrev pub meaning : Result (Unit {0}) Refusal → Said
meaning (Ok _) = yes_said
meaning (Err r) = no_said (number_of r.condition) r.place
