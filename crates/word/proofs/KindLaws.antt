-- A kind is known by its number.
use mathlib.Core.List.{List, [], ◌∷◌}
use mathlib.Core.Path.{◌≡◌, ◌∙◌, ap, refl, sym}
use Prim.Native.Nat.{ℕ}
use lib.ListN.{get_or}
use Rattle.word.specs.Kind.{kind_number}
use Rattle.word.specs.declared.kind.Kind.{Kind}
use Rattle.word.specs.declared.kind.Kind.TheVariants.{Variable, Symbol, Number, Empty, Pair, Equal, Differ, Symbolo, Numbero, Absento, Conjunction, Disjunction, Call, Relation, Unused, Answer}

kinds : List Kind
kinds = Variable ∷ Symbol ∷ Number ∷ Empty ∷ Pair ∷ Equal ∷ Differ ∷ Symbolo ∷ Numbero ∷ Absento ∷ Conjunction ∷ Disjunction ∷ Call ∷ Relation ∷ Unused ∷ Answer ∷ []

of_number : (k : Kind) → get_or kinds (kind_number k) Answer ≡ k
unfolding kinds
of_number Variable = refl
of_number Symbol = refl
of_number Number = refl
of_number Empty = refl
of_number Pair = refl
of_number Equal = refl
of_number Differ = refl
of_number Symbolo = refl
of_number Numbero = refl
of_number Absento = refl
of_number Conjunction = refl
of_number Disjunction = refl
of_number Call = refl
of_number Relation = refl
of_number Unused = refl
of_number Answer = refl

pub kind_number_once : (j k : Kind) → kind_number j ≡ kind_number k → j ≡ k
kind_number_once j k e = sym (of_number j) ∙ ap (λ (n : ℕ). get_or kinds n Answer) e ∙ of_number k

-- other kinds have other numbers
pub kind_number_other : (j k : Kind) → (j ≡ k → ⊥) → kind_number j ≡ kind_number k → ⊥
kind_number_other j k n e = n (kind_number_once j k e)
