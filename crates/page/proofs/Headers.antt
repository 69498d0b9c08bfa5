-- "nothing inside an answer is looked at": the walk looks at the headers of the answers that it passes and at the word where it ends; these words and the page's length decide.
use Prim.Native.Nat.{ℕ, zero, suc, ◌<◌, ◌≤◌}
use mathlib.Core.Bool.{Bool, false, true}
use mathlib.Core.List.{List}
use mathlib.Core.Path.{◌≡◌, ◌∙◌, ap, refl, sym}
use native.Mathlib.Omega.{arith}
use lib.Dec.{leb}
use lib.ListN.{length, length-set, get_or, set}
use lib.Seq.{get_or-set_other}
use borrow.Author.Tests.{leb-false, leb-true}
use Rattle.page.specs.Page.{Found, Looks, answer_at, answers_left, find, here, further, part, past, refused, walk}
use Rattle.page.proofs.AnswersLaws.{answers_step}
use Rattle.page.proofs.WalkLaws.{At, at_place, none, one_end, page_ends, part_refused, passed, passes, stops, walked_whole, whole, whole_at}

-- the walk looks at no word before the place where it begins
looks_on : {page : List ℕ} {n at k j : ℕ} → Looks page n at k j → at ≤ j
looks_on (here n at l) = omega arith
looks_on {page} (further n at end k j h rest) = omega (arith, looks_on rest, (whole_at page at at end h).1.is_end)

-- It looks at no word inside an answer, be that passed, wanted or behind the wanted one.
pub inside_unseen : (page : List ℕ) (m n at s e k j : ℕ) → walk page m at ≡ part s e → s < j → j < e → Looks page n at k j → ⊥
inside_unseen page zero n at s e k j h l r (here m a b) = omega (arith, (whole_at page at s e h).0)
inside_unseen page zero n at s e k j h l r (further m a end x i q rest) =
    omega (arith, looks_on rest, one_end page at at end s e q h)
inside_unseen page (suc m) n at s e k j h l r (here o a b) =
    let p = passed page m at s e h in
    omega (arith, (walked_whole page m p.first_end s e p.later).0, (whole_at page at at p.first_end p.first_is).1.is_end)
inside_unseen page (suc m) n at s e k j h l r (further o a end x i q rest) =
    let p = passed page m at s e h in
    let same : p.first_end ≡ end = one_end page at at p.first_end at end p.first_is q in
    inside_unseen page m o end s e x j (rw same at p.later) l r rest

-- Nor does it look at a word behind the wanted answer's header ..
pub behind_unseen : (page : List ℕ) (n at s e k j : ℕ) → walk page n at ≡ part s e → Looks page n at k j → j ≤ s
behind_unseen page zero at s e k j h (here o a b) = omega (arith, (whole_at page at s e h).0)
behind_unseen page (suc n) at s e k j h (here o a b) = (walked_whole page (suc n) at s e h).0
behind_unseen page (suc n) at s e k j h (further o a end x i q rest) =
    let p = passed page n at s e h in
    let same : p.first_end ≡ end = one_end page at at p.first_end at end p.first_is q in
    behind_unseen page n end s e x j (rw same at p.later) rest

-- a walk is not refused before the place where it begins
stopped_on : (page : List ℕ) (n at number place : ℕ) → at ≤ length page → walk page n at ≡ refused number place → at ≤ place
stopped_on page zero at number place l h = go (answer_at page at) (at_place page at) h
  where
    go : (f : Found) → At page at f → f ≡ refused number place → at ≤ place
    go (part a b) (whole end w) e = part_refused e
    go (refused a b) (none p is) e = let same : p ≡ place = cc in omega (arith, is l, same)
stopped_on page (suc n) at number place l h = go (answer_at page at) (at_place page at) h (λ end m e. stopped_on page n end number place m e)
  where
    go : (f : Found) → At page at f → past f (λ end. walk page n end) refused ≡ refused number place → ((end : ℕ) → end ≤ length page → walk page n end ≡ refused number place → end ≤ place) → at ≤ place
    go (part a b) (whole end w) e rest = omega (arith, rest end w.fits e, w.is_end)
    go (refused a b) (none p is) e rest = let same : p ≡ place = cc in omega (arith, is l, same)

-- .. or, where it is refused, behind the word where it stopped.
pub stop_unseen : (page : List ℕ) (n at number place k j : ℕ) → walk page n at ≡ refused number place → Looks page n at k j → j ≤ place
stop_unseen page n at number place k j h (here m a b) = stopped_on page n at number place (omega (arith, b)) h
stop_unseen page n at number place k j h (further m a end x i q rest) = stop_unseen page m end number place x j (sym (passes page m at at end q) ∙ h) rest

-- what is at a place depends on the page's length and the word there
same_at : (p q : List ℕ) (at : ℕ) → length p ≡ length q → (at < length p → get_or p at 0 ≡ get_or q at 0) → answer_at p at ≡ answer_at q at
same_at p q at l h = by_end (leb (length p) at) refl
  where
    by_end : (b : Bool) → leb (length p) at ≡ b → answer_at p at ≡ answer_at q at
    by_end true e = page_ends p at (leb-true (length p) at e) ∙ ap (refused 10) l ∙ sym (page_ends q at (omega (arith, l, leb-true (length p) at e)))
    by_end false e = rw (h (leb-false (length p) at e), l)

-- Two pages of the same length that agree on the words that the walk over the first looks at give the same part or the same refusal.
pub headers_decide : (p q : List ℕ) (n at : ℕ) → length p ≡ length q → ((k j : ℕ) → Looks p n at k j → get_or p j 0 ≡ get_or q j 0) → walk p n at ≡ walk q n at
headers_decide p q zero at l h = same_at p q at l (λ b. h 0 at (here zero at b))
headers_decide p q (suc n) at l h =
    go (answer_at p at) (at_place p at) refl (λ end i. headers_decide p q n end l (λ k j looks. h (suc k) j (further n at end k j i looks)))
  where
    same : answer_at p at ≡ answer_at q at
    same = same_at p q at l (λ b. h 0 at (here (suc n) at b))

    go : (f : Found) → At p at f → answer_at p at ≡ f → ((end : ℕ) → answer_at p at ≡ part at end → walk p n end ≡ walk q n end) → walk p (suc n) at ≡ walk q (suc n) at
    go (part a b) (whole end w) i rest = passes p n at at end i ∙ rest end i ∙ sym (passes q n at at end (sym same ∙ i))
    go (refused a b) (none place is) i rest = stops p (suc n) at 10 place i ∙ sym (stops q (suc n) at 10 place (sym same ∙ i))

-- So any word may stand inside an answer, and each number finds what it found; and any word behind the wanted answer's header, or behind the word where the walk stopped, and this number does.
unseen_free : (page : List ℕ) (n j w : ℕ) → ((k : ℕ) → Looks page n 0 k j → ⊥) → find page n ≡ find (set page j w) n
unseen_free page n j w h =
    headers_decide page (set page j w) n 0 (sym (length-set page j w)) (λ k i looks. sym (get_or-set_other page j i w 0 (λ e. h k (rw e at looks))))

pub inside_free : (page : List ℕ) (m n s e j w : ℕ) → find page m ≡ part s e → s < j → j < e → find page n ≡ find (set page j w) n
inside_free page m n s e j w h l r = unseen_free page n j w (λ k. inside_unseen page m n 0 s e k j h l r)

pub behind_free : (page : List ℕ) (n s e j w : ℕ) → find page n ≡ part s e → s < j → find page n ≡ find (set page j w) n
behind_free page n s e j w h l = unseen_free page n j w (λ k looks. omega (arith, behind_unseen page n 0 s e k j h looks))

pub stop_free : (page : List ℕ) (n number place j w : ℕ) → find page n ≡ refused number place → place < j → find page n ≡ find (set page j w) n
stop_free page n number place j w h l = unseen_free page n j w (λ k looks. omega (arith, stop_unseen page n 0 number place k j h looks))

-- When the walk looks at a word it has passed no more answers than the number says, and no more than the page has; and after so many it looks at one word at most.
pub looks_few : (page : List ℕ) (n at k j : ℕ) → Looks page n at k j → (k ≤ n) × (k ≤ length (answers_left page at))
looks_few page n at k j (here m a b) = (omega arith, omega arith)
looks_few page n at k j (further m a end x i q rest) =
    let (l, r) = looks_few page m end x j rest in
    (omega (arith, l), omega (arith, r, ap length (answers_step page at (part at end) q)))

pub looks_once : (page : List ℕ) (n at k i j : ℕ) → Looks page n at k i → Looks page n at k j → i ≡ j
looks_once page n at k i j (here m a b) (here o c d) = refl
looks_once page n at k i j (further m a end x y q rest) (further o c other z v r later) =
    let same : end ≡ other = one_end page at at end at other q r in
    looks_once page m end x i j rest (rw same later)
