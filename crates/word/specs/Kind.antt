-- The kinds of words and their numbers, after document 01, "Words". `Kind` is the enum of src/kind.rt; document 01 gives no kind the number 14.
use Rattle.std.specs.Prelude.{ℕ}
use Rattle.word.specs.declared.kind.Kind.{Kind}
use Rattle.word.specs.declared.kind.Kind.TheVariants.{Variable, Symbol, Number, Empty, Pair, Equal, Differ, Symbolo, Numbero, Absento, Conjunction, Disjunction, Call, Relation, Unused, Answer}

abbrev pub kind_number : Kind → ℕ
kind_number Variable = 0
kind_number Symbol = 1
kind_number Number = 2
kind_number Empty = 3
kind_number Pair = 4
kind_number Equal = 5
kind_number Differ = 6
kind_number Symbolo = 7
kind_number Numbero = 8
kind_number Absento = 9
kind_number Conjunction = 10
kind_number Disjunction = 11
kind_number Call = 12
kind_number Relation = 13
kind_number Unused = 14
kind_number Answer = 15
