-- Pages that are made of answers, and the list of all answers on a page.
use Prim.Native.Nat.{ℕ, zero, suc, ◌+◌, ◌-◌, ◌<◌, ◌≤◌}
use mathlib.Core.List.{List, [], ◌++◌, ◌∷◌, append-nil}
use mathlib.Core.Option.{some}
use mathlib.Core.Path.{◌≡◌, ◌∙◌, ap, refl, sym}
use native.Mathlib.Omega.{arith}
use lib.ListN.{get_or-append, get_or, get_elem?, length, length-append, length-drop, length-replicate, length-take, replicate}
use lib.Seq.{drop-append_seam, get_or-append-add, get_or-append_seam, take-append_seam}
use Rattle.word.specs.Word.{kind, payload}
use Rattle.page.specs.Page.{Found, after, answer_at, answers_from, answers_left, between, nth_part, part, part_words, past, refused, walk}
use Rattle.page.proofs.WalkLaws.{At, Whole, at_place, is_whole, no_header, none, page_ends, passes, stops, whole}

-- an answer's words: its header tells how many they are
pub record Headed (ws : List ℕ) : Type 0 where
  pub is_answer : kind (get_or ws 0 0) ≡ 15
  pub is_long : 1 + payload (get_or ws 0 0) ≡ length ws

-- an answer on a page, between any words
module _ (before ws rest : List ℕ) where
  pub headed_words : between (before ++ (ws ++ rest)) (length before) (length before + length ws) ≡ ws
  headed_words =
      let size : length before + length ws - length before ≡ length ws = omega arith in
      rw (size, drop-append_seam before (ws ++ rest)) (take-append_seam ws rest)

  module _ (h : Headed ws) where
    -- its first word is the header
    header : get_or (before ++ (ws ++ rest)) (length before) 0 ≡ get_or ws 0 0
    header =
        let z : length before ≡ length before + 0 = omega arith in
        ap (λ (i : ℕ). get_or (before ++ (ws ++ rest)) i 0) z ∙ get_or-append-add before (ws ++ rest) 0 0 ∙ get_or-append ws rest 0 0 (omega (arith, h.is_long))

    long : length (before ++ (ws ++ rest)) ≡ length before + (length ws + length rest)
    long = length-append before (ws ++ rest) ∙ ap (λ (n : ℕ). length before + n) (length-append ws rest)

    ends : after (before ++ (ws ++ rest)) (length before) ≡ length before + length ws
    ends = ap (λ (w : ℕ). length before + 1 + payload w) header ∙ omega (arith, h.is_long)

    pub headed_at : answer_at (before ++ (ws ++ rest)) (length before) ≡ part (length before) (length before + length ws)
    headed_at =
        is_whole (before ++ (ws ++ rest)) (length before) (omega (arith, long, h.is_long)) (ap kind header ∙ h.is_answer) (omega (arith, ends, long))
        ∙ ap (λ (e : ℕ). part (length before) e) ends

-- no answer begins where the page goes on with zeros, or ends
pub zeros_at : (before : List ℕ) (n : ℕ) → answer_at (before ++ replicate n 0) (length before) ≡ refused 10 (length before)
zeros_at before zero =
    let long : length (before ++ []) ≡ length before = ap length (append-nil before) in
    page_ends (before ++ []) (length before) (omega (arith, long)) ∙ ap (refused 10) long
zeros_at before (suc n) =
    let zero_there : get_or (before ++ replicate (suc n) 0) (length before) 0 ≡ 0 = get_or-append_seam before 0 (replicate n 0) 0 in
    no_header (before ++ replicate (suc n) 0) (length before) (omega (arith, length-append before (replicate (suc n) 0), length-replicate {A = ℕ} (suc n) 0)) (λ e. omega (arith, sym (ap kind zero_there) ∙ e))

-- the answers from a place on, by what is found there and the answers from behind it
abbrev and_later : List ℕ → ℕ → Found → (ℕ → List (List ℕ)) → List (List ℕ)
and_later page at f later = past f (λ end. between page at end ∷ later end) (λ number place. [])

-- a bound that is large enough leaves none out
enough : (f g : ℕ) (page : List ℕ) (at : ℕ) → length page ≤ at + f → length page ≤ at + g → answers_from f page at ≡ answers_from g page at
enough zero zero page at p q = refl
enough zero (suc g) page at p q = sym (ap (λ x. and_later page at x (answers_from g page)) (page_ends page at (omega arith)))
enough (suc f) zero page at p q = ap (λ x. and_later page at x (answers_from f page)) (page_ends page at (omega arith))
enough (suc f) (suc g) page at p q = by_place (answer_at page at) (at_place page at) (λ end l. enough f g page end (omega arith) (omega arith))
  where
    by_place : (x : Found) → At page at x → ((end : ℕ) → at < end → answers_from f page end ≡ answers_from g page end) → and_later page at x (answers_from f page) ≡ and_later page at x (answers_from g page)
    by_place (part a b) (whole end w) rest = ap (λ (l : List (List ℕ)). between page at end ∷ l) (rest end (omega (arith, w.is_end)))
    by_place (refused a b) (none place is) rest = refl

pub answers_step : (page : List ℕ) (at : ℕ) (f : Found) → answer_at page at ≡ f → answers_left page at ≡ and_later page at f (answers_left page)
answers_step page at f h = enough (length page) (suc (length page)) page at (omega arith) (omega arith) ∙ ap (λ x. and_later page at x (answers_left page)) h

-- an answer ends as many words behind its place as it has
ends_behind : (page : List ℕ) (at end : ℕ) → Whole page at end → at + length (between page at end) ≡ end
ends_behind page at end w =
    let long : length (between page at end) ≡ end - at = simp (length-take, length-drop) (omega (arith, w.fits)) in
    omega (arith, long, w.is_end)

-- What the walk past i answers finds is told by the list of the answers: where answer i of them stands, or that there are no more than i; and its words are that answer.
pub record Numbered (page : List ℕ) (i at : ℕ) : Type 0 where
  pub stands : walk page i at ≡ nth_part (answers_left page at) i at
  pub is_words : (ws : List ℕ) → get_elem? (answers_left page at) i ≡ some ws → part_words page (walk page i at) ≡ ws

none_numbered : (page : List ℕ) (i at place : ℕ) → place ≡ at → answer_at page at ≡ refused 10 place → Numbered page i at
none_numbered page i at place is h =
    let no_more : answers_left page at ≡ [] = answers_step page at (refused 10 place) h in
    record { stands = stops page i at 10 place h ∙ rw no_more (ap (refused 10) is); is_words = λ ws g. clash (rw no_more at g) }
  where
    clash : {ws : List ℕ} {A : Type 0} → get_elem? [] i ≡ some ws → A
    clash g = let z : ◌≡◌ {A = ℕ} 0 1 = cc in absurd (omega arith)

-- so on any page
pub numbered : (page : List ℕ) (i at : ℕ) → at ≤ length page → Numbered page i at
numbered page zero at l = go (answer_at page at) (at_place page at) refl
  where
    same : {vs ws : List ℕ} → some vs ≡ some ws → vs ≡ ws
    same g = cc

    go : (f : Found) → At page at f → answer_at page at ≡ f → Numbered page zero at
    go (part a b) (whole end w) h =
        let first : answers_left page at ≡ between page at end ∷ answers_left page end = answers_step page at (part at end) h in
        record { stands = h ∙ rw first (ap (part at) (sym (ends_behind page at end w))); is_words = λ ws g. ap (part_words page) h ∙ same (rw first at g) }
    go (refused a b) (none place is) h = none_numbered page zero at place (is l) h
numbered page (suc i) at l = go (answer_at page at) (at_place page at) refl (λ end m. numbered page i end m)
  where
    go : (f : Found) → At page at f → answer_at page at ≡ f → ((end : ℕ) → end ≤ length page → Numbered page i end) → Numbered page (suc i) at
    go (part a b) (whole end w) h rest =
        let first : answers_left page at ≡ between page at end ∷ answers_left page end = answers_step page at (part at end) h in
        let next = rest end w.fits in
        record {
          stands = passes page i at at end h ∙ next.stands ∙ rw first (ap (nth_part (answers_left page end) i) (sym (ends_behind page at end w)));
          is_words = λ ws g. ap (part_words page) (passes page i at at end h) ∙ next.is_words ws (rw first at g);
        }
    go (refused a b) (none place is) h rest = none_numbered page (suc i) at place (is l) h
