-- Rules as they were before a note of document 02 changed them; all else is as it is now. Only theorems that say what stayed speak of them.
use Rattle.std.specs.Prelude.{ℕ, List}
use Rattle.rules.specs.Syntax.{Atom, symbol}
use Rattle.rules.specs.Reading.{Reading, read_atom}

-- Before Note 3: "absento: a symbol word (the tag), one term"
abbrev pub read_tag_before_3 : List ℕ → ℕ → ℕ → Reading Atom
read_tag_before_3 ws at end = read_atom 1 symbol ws at end
