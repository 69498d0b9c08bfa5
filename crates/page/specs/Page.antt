-- An output page, walked by its answer headers: document 02, Note 1, "Open one answer on the screen". Places are word numbers.
use Rattle.std.specs.Prelude.{ℕ, zero, suc, ◌+◌, ◌-◌, ◌*◌, ◌<◌, cond, List, [], ◌∷◌, ◌≡◌, eqb, leb, length, get_or, take, drop}
use Rattle.word.specs.Word.{kind, payload}

-- what a walk comes to: an answer, whose words stand from `start` up to but without `end`, or a refusal's number and place
pub data Found : Type 0 where
  part : (start end : ℕ) → Found
  refused : (number place : ℕ) → Found

-- the place after an answer: "15:n" and n words (document 01, "Words": "p counts the words that follow in that part")
abbrev pub after : List ℕ → ℕ → ℕ
after page at = at + 1 + payload (get_or page at 0)

-- The answer whose header is at this place. Else "10, the walk meets the page's end, a word that is no answer header, or an answer that overruns the page ..; place the word where the
-- walk stopped": the page's length, the word, or the answer's header.
abbrev pub answer_at : List ℕ → ℕ → Found
answer_at page at =
    cond (leb (length page) at) (refused 10 (length page))
    (cond (eqb (kind (get_or page at 0)) 15) (cond (leb (after page at) (length page)) (part at (after page at)) (refused 10 at))
    (refused 10 at))

-- goes on past an answer; a refusal ends the walk
abbrev pub past : {A : Type 0} → Found → (ℕ → A) → (ℕ → ℕ → A) → A
past (part start end) go stop = go end
past (refused number place) go stop = stop number place

-- "The page is walked by its answer headers": from this place on, past so many answers and to the next
abbrev pub walk : List ℕ → ℕ → ℕ → Found
walk page zero at = answer_at page at
walk page (suc n) at = past (answer_at page at) (λ end. walk page n end) refused

-- "Given an output page and an answer number from 0"
abbrev pub find : List ℕ → ℕ → Found
find page answer = walk page answer 0

-- the words of a page from `start` up to but without `end`
abbrev pub between : List ℕ → ℕ → ℕ → List ℕ
between page start end = take (end - start) (drop start page)

-- "that answer's words as a part of the page itself, header word included"; with a refusal "an empty part is returned"
abbrev pub part_words : List ℕ → Found → List ℕ
part_words page (part start end) = between page start end
part_words page (refused number place) = []

-- the words that the viewer gets
abbrev pub view : List ℕ → ℕ → List ℕ
view page answer = part_words page (find page answer)

-- "a part of the page itself": where the part points, if the page points there, a block of memory and an offset in bytes, four for each word. An empty part points where the page does.
abbrev pub part_ptr : ℕ × ℕ → Found → ℕ × ℕ
part_ptr page (part start end) = (page.0, page.1 + 4 * start)
part_ptr page (refused number place) = page

-- the answers from a place on, as far as the walk comes, but at most so many
abbrev pub answers_from : ℕ → List ℕ → ℕ → List (List ℕ)
answers_from zero page at = []
answers_from (suc most) page at = past (answer_at page at) (λ end. between page at end ∷ answers_from most page end) (λ number place. [])

-- all of them: they are no more than the page's words, as each has a header
abbrev pub answers_left : List ℕ → ℕ → List (List ℕ)
answers_left page at = answers_from (length page) page at

-- all answers of a page
abbrev pub answers_on : List ℕ → List (List ℕ)
answers_on page = answers_left page 0

-- where answer i stands of answers that follow one another from a place on; if there are no more than i, 10 at the first word beyond them
abbrev pub nth_part : List (List ℕ) → ℕ → ℕ → Found
nth_part [] i at = refused 10 at
nth_part (ws ∷ later) zero at = part at (at + length ws)
nth_part (ws ∷ later) (suc i) at = nth_part later i (at + length ws)

-- The walk from a place, past n answers and to the next, looks at the word at j when it has passed k answers: at its first place, if that is on the page, and, if it passes the answer
-- there, at what the walk from behind it looks at.
pub data Looks (page : List ℕ) : ℕ → ℕ → ℕ → ℕ → Type 0 where
  here : (n at : ℕ) → at < length page → Looks page n at 0 at
  further : (n at end k j : ℕ) → answer_at page at ≡ part at end → Looks page n end k j → Looks page (suc n) at (suc k) j
