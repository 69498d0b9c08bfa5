-- What the code's result says. A refusal carries document 02's number and its place.
use Rattle.std.specs.Prelude.{ℕ, Result, Ok, Err}
use Rattle.page.specs.Page as page
use Rattle.page.specs.declared.Part.{Part}
use Rattle.page.specs.declared.NoAnswer.{NoAnswer}

-- the number of document 02's refusal
abbrev pub no_answer : ℕ
no_answer = 10

abbrev pub found_says : Result Part NoAnswer → page.Found
found_says (Ok part) = page.part part.start part.end
found_says (Err missing) = page.refused no_answer missing.place
