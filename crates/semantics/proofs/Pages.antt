-- The output after a run has just the answers of the result on it, word for word and by their numbers.
use Prim.Native.Nat.{◌+◌, ◌-◌, ◌≤◌, suc, zero, ℕ}
use mathlib.Core.Bool.{Bool, ◌&&◌, false, true}
use mathlib.Core.List.{List, [], ◌++◌, ◌∷◌, append_assoc, map}
use mathlib.Core.Option.{some}
use mathlib.Core.Path.{◌∙◌, ◌≡◌, ap, refl, sym}
use native.Mathlib.Omega.{arith}
use lib.Dec.{eqb}
use lib.ListN.{get_elem?, length, length-append, length-replicate, replicate}
use borrow.Author.Tests.{eqb-true}
use Rattle.page.specs.Page.{answer_at, answers_left, answers_on, between, nth_part, part, refused}
use Rattle.page.proofs.AnswersLaws.{Headed, answers_step, headed_at, headed_words, numbered, zeros_at}
use Rattle.rules.specs.Lists.{Each}
use Rattle.rules.specs.Reading.{Reading, found, kind_at, next, payload_at, require}
use Rattle.rules.specs.Syntax.{Goal, Program, Term}
use Rattle.semantics.specs.Demand.{Demand3, query_count}
use Rattle.semantics.specs.Logic.{Tree}
use Rattle.semantics.specs.Promise.{OnPage}
use Rattle.semantics.specs.Round.{Answer, Result}
use Rattle.semantics.specs.Run.{leave, page, ran}
use Rattle.semantics.specs.Shows.{Shows, deep, read_listed, read_query}
use Rattle.semantics.proofs.Basics.{and_true, clash, each_map}

-- what can be read as an answer is headed
read_headed : (n : ℕ) (ws : List ℕ) (b : Bool) (r : Reading (List Term × List Goal)) (terms : List Term) (gs : List Goal) (m : ℕ) →
    (eqb (kind_at ws 0) 15 && eqb (1 + payload_at ws 0) (length ws)) ≡ b → require b 2 0 (λ _. r) ≡ found (terms, gs) m → Headed ws
read_headed n ws true r terms gs m e q =
    let (k, l) = and_true (eqb (kind_at ws 0) 15) (eqb (1 + payload_at ws 0) (length ws)) e in
    record { is_answer = eqb-true (kind_at ws 0) 15 k; is_long = eqb-true (1 + payload_at ws 0) (length ws) l }
read_headed n ws false r terms gs m e q = clash (cc)

shown_headed : (n : ℕ) (ws : List ℕ) (tuple : List Tree) → Shows n ws tuple → Headed ws
shown_headed n ws tuple s =
    read_headed n ws (eqb (kind_at ws 0) 15 && eqb (1 + payload_at ws 0) (length ws)) (next (read_query n ws 1) (λ ts m. next (read_listed (deep ws) ws m) (λ gs e. found (ts, gs) e))) s.terms s.goals (length ws) refl s.reads

-- the answers on words that are followed by answers and zeros
all_listed : (before : List ℕ) (answers : List Answer) (n : ℕ) (ws : List ℕ) → Each (λ (a : Answer). Headed a.1) answers → ws ≡ before ++ (page answers ++ replicate n 0) →
    answers_left ws (length before) ≡ map (λ (a : Answer). a.1) answers
all_listed before [] n ws h e = answers_step ws (length before) (refused 10 (length before)) (rw e (zeros_at before n))
all_listed before (a ∷ later) n ws h e =
    let zeros : List ℕ = replicate n 0 in
    let first : ws ≡ before ++ (a.1 ++ (page later ++ zeros)) = e ∙ ap (λ l. before ++ l) (append_assoc a.1 (page later) zeros) in
    let behind_it : ws ≡ (before ++ a.1) ++ (page later ++ zeros) = first ∙ sym (append_assoc before a.1 (page later ++ zeros)) in
    let there : answer_at ws (length before) ≡ part (length before) (length before + length a.1) = rw first (headed_at before a.1 (page later ++ zeros) h.0) in
    let its_words : between ws (length before) (length before + length a.1) ≡ a.1 = rw first (headed_words before a.1 (page later ++ zeros)) in
    let rest : answers_left ws (length before + length a.1) ≡ map (λ (a : Answer). a.1) later = rw (length-append before a.1) at (all_listed (before ++ a.1) later n ws h.1 behind_it) in
    answers_step ws (length before) (part (length before) (length before + length a.1)) there ∙ rw (its_words, rest)

-- the words of one of the answers
nth_words : (answers : List Answer) (i : ℕ) (a : Answer) → get_elem? answers i ≡ some a → get_elem? (map (λ (b : Answer). b.1) answers) i ≡ some a.1
nth_words [] i a g = clash (cc)
nth_words (b ∷ later) zero a g = let same : b ≡ a = cc in ap (λ (c : Answer). some c.1) same
nth_words (b ∷ later) (suc i) a g = nth_words later i a g

pub on_page : (P : Program) (r : Result) → Demand3 P r → (output scratch : List ℕ) → length (page r.answers) ≤ length output → OnPage output (leave (ran r) output scratch).output r
on_page P r d output scratch fits =
    let n = length output - length (page r.answers) in
    let a = length-append (page r.answers) (replicate n 0) in
    let heads = each_map (λ (a : Answer) right. shown_headed (query_count P) a.1 right.shows_one.0 right.shows_one.1) r.answers d.each_answer in
    let ws = page r.answers ++ replicate n 0 in
    let listed : answers_on ws ≡ map (λ (a : Answer). a.1) r.answers = all_listed [] r.answers n ws heads refl in
    record {
      page_is = listed;
      same_length = a ∙ ap (λ (m : ℕ). length (page r.answers) + m) (length-replicate n 0) ∙ omega arith;
      numbered = λ i. (numbered ws i 0 (omega arith)).stands ∙ ap (λ (l : List (List ℕ)). nth_part l i 0) listed;
      opened = λ i a g. (numbered ws i 0 (omega arith)).is_words a.1 (ap (λ (l : List (List ℕ)). get_elem? l i) listed ∙ nth_words r.answers i a g);
    }
