-- Every row holds: one computed test. And what the viewer gets of two of them.
use mathlib.Core.List.{[], ◌∷◌, map}
use mathlib.Core.Path.{◌≡◌, refl}
use Rattle.word.specs.Word.{word}
use Rattle.page.specs.Page.{find, view}
use Rattle.page.specs.Rows.{headers_inside, overrun, rows}

pub rows_hold : map (λ r. find r.page r.answer) rows ≡ map (λ r. r.found) rows
rows_hold = refl

-- "header word included"; "an empty part is returned"
pub words_held : view headers_inside 1 ∷ view overrun 1 ∷ [] ≡ (word 15 1 ∷ word 2 5 ∷ []) ∷ [] ∷ []
words_held = refl
