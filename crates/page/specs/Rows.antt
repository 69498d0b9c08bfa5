-- What is found on small pages, worked out by hand, as one list of rows.
use Rattle.std.specs.Prelude.{ℕ, List, [], ◌∷◌}
use Rattle.word.specs.Word.{word}
use Rattle.page.specs.Page.{Found, part, refused}

-- a page, an answer's number, and what is found
pub record Row : Type 0 where
  pub page : List ℕ
  pub answer : ℕ
  pub found : Found

-- `15:1 1:7`, and behind it an answer without words
abbrev pub two_answers : List ℕ
two_answers = word 15 1 ∷ word 1 7 ∷ word 15 0 ∷ []

-- an answer whose words look like headers, and one behind it
abbrev pub headers_inside : List ℕ
headers_inside = word 15 3 ∷ word 15 0 ∷ word 15 9 ∷ word 15 268435455 ∷ word 15 1 ∷ word 2 5 ∷ []

-- an answer, and behind it one that needs a word more than there is
abbrev pub overrun : List ℕ
overrun = word 15 1 ∷ word 1 7 ∷ word 15 2 ∷ word 1 7 ∷ []

abbrev pub rows : List Row
rows =
    -- answers from 0, with their headers
    record { page = two_answers; answer = 0; found = part 0 2 } ∷
    record { page = two_answers; answer = 1; found = part 2 3 } ∷
    -- "the walk meets the page's end": its length, also of an empty page
    record { page = two_answers; answer = 2; found = refused 10 3 } ∷
    record { page = two_answers; answer = 4294967295; found = refused 10 3 } ∷
    record { page = []; answer = 0; found = refused 10 0 } ∷
    -- "nothing inside an answer is looked at"
    record { page = headers_inside; answer = 0; found = part 0 4 } ∷
    record { page = headers_inside; answer = 1; found = part 4 6 } ∷
    -- "a word that is no answer header": that word, as the zeros behind a run's answers are
    record { page = word 15 0 ∷ word 0 0 ∷ word 0 0 ∷ []; answer = 0; found = part 0 1 } ∷
    record { page = word 15 0 ∷ word 0 0 ∷ word 0 0 ∷ []; answer = 1; found = refused 10 1 } ∷
    record { page = word 15 0 ∷ word 14 0 ∷ word 15 0 ∷ []; answer = 2; found = refused 10 1 } ∷
    record { page = word 13 0 ∷ word 15 0 ∷ []; answer = 1; found = refused 10 0 } ∷
    -- "an answer that overruns the page": its header, whether it is wanted or to be passed
    record { page = overrun; answer = 0; found = part 0 2 } ∷
    record { page = overrun; answer = 1; found = refused 10 2 } ∷
    record { page = overrun; answer = 2; found = refused 10 2 } ∷
    record { page = word 15 268435455 ∷ []; answer = 0; found = refused 10 0 } ∷
    -- what comes after the wanted answer is not looked at
    record { page = word 15 0 ∷ word 15 9 ∷ []; answer = 0; found = part 0 1 } ∷
    record { page = word 15 0 ∷ word 15 9 ∷ []; answer = 1; found = refused 10 1 } ∷
    []
