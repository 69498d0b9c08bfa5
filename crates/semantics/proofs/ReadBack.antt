-- What is written is read back: the terms and the goals of an answer, by the reader of crate rules and its law that good terms and goals are read back.
use Prim.Native.Nat.{◌+◌, ◌<◌, ◌≤◌, suc, zero, ℕ}
use mathlib.Core.List.{List, [], ◌++◌, ◌∷◌}
use mathlib.Core.Path.{◌∙◌, ◌≡◌, ap, sym}
use native.Mathlib.Omega.{arith}
use lib.ListN.{length, length-append}
use borrow.Author.Tests.{eq-eqb, le-ltb, lt-ltb}
use Rattle.rules.specs.Inner.{Spells}
use Rattle.rules.specs.Lists.{Each}
use Rattle.rules.specs.Reading.{found, kind_at, payload_at, read_goal}
use Rattle.rules.specs.Syntax.{Goal, Term}
use Rattle.rules.specs.WellFormed.{GoalGood, GoalsGood, TagGood, TermGood}
use Rattle.rules.specs.Written.{goal_words, part, terms_words, term_words}
use Rattle.rules.proofs.Complete.{goal_complete, term_complete}
use Rattle.rules.proofs.Spelled.{goal_some, kind_of, payload_of, stands_self, stands_split}
use Rattle.semantics.specs.Answer.{Line, differ_goals, is_sort, lacks, line_goal, line_words, lines_words, not_all, reify_line}
use Rattle.semantics.specs.Shows.{payloads, deep, read_answer, read_listed, read_query}

-- the payloads of a term's words fit
abbrev pub TermFits : Term → Type 0
TermFits t = TermGood payloads t

abbrev pub TermsFit : List Term → Type 0
TermsFit ts = Each TermFits ts

-- an equation's payloads fit, and a line's
abbrev pub EquationFits : ℕ × Term → Type 0
EquationFits b = (b.0 < payloads) × TermFits b.1

abbrev pub LineFits : Line → Type 0
LineFits (is_sort k x) = x < payloads
LineFits (lacks a x) = TagGood a × (x < payloads)
LineFits (not_all []) = ⊥
LineFits (not_all (b ∷ bs)) = Each EquationFits (b ∷ bs)

differ_goals_good : (b : ℕ × Term) (bs : List (ℕ × Term)) → Each EquationFits (b ∷ bs) → GoalsGood payloads (differ_goals b bs)
unfolding GoalsGood GoalGood TermGood
differ_goals_good b [] h = h.0
differ_goals_good b (c ∷ bs) h = (h.0, differ_goals_good c bs h.1)

line_good : (l : Line) → LineFits l → GoalGood payloads (line_goal l)
unfolding GoalGood TermGood
line_good (is_sort k x) h = h
line_good (lacks a x) h = h
line_good (not_all []) h = absurd h
line_good (not_all (b ∷ [])) h = h.0
line_good (not_all (b ∷ c ∷ bs)) h = differ_goals_good b (c ∷ bs) h

-- one goal of an answer's words, read as deep as the answer's reader goes
line_back : (l : Line) (ws : List ℕ) (at : ℕ) → LineFits l → length ws ≤ payloads → Spells ws at (goal_words (line_goal l)) → at + length (goal_words (line_goal l)) ≤ length ws →
    read_goal (deep ws) ws payloads at (length ws) ≡ found (line_goal l) (at + length (goal_words (line_goal l)))
line_back l ws at h b s e = goal_complete (deep ws) ws payloads at (length ws) (line_goal l) (line_good l h) s (record { deep = omega arith; few = omega arith; short = b; fits = e })

query_back : (ts : List Term) (ws : List ℕ) (at : ℕ) → TermsFit ts → length ws ≤ payloads → Spells ws at (terms_words ts) → at + length (terms_words ts) ≤ length ws →
    read_query (length ts) ws at ≡ found ts (at + length (terms_words ts))
unfolding terms_words
query_back [] ws at h b s e = ap (found []) (omega arith)
query_back (t ∷ ts) ws at h b s e =
    let a = length-append (term_words t) (terms_words ts) in
    let q = stands_split ws at (term_words t) (terms_words ts) s in
    rw (
      term_complete (deep ws) ws payloads at (length ws) t h.0 q.0 (record { deep = omega arith; few = omega arith; short = b; fits = omega arith }),
      query_back ts ws (at + length (term_words t)) h.1 b q.1 (omega arith),
    )
    (ap (found (t ∷ ts)) (omega arith))

-- lines that the answer lists, over its own variables
abbrev pub line_goals : List ℕ → List Line → List Goal
line_goals names [] = []
line_goals names (l ∷ ls) = line_goal (reify_line names l) ∷ line_goals names ls

listed_back : (names : List ℕ) (ls : List Line) (f : ℕ) (ws : List ℕ) (at : ℕ) → Each (λ l. LineFits (reify_line names l)) ls → length ws ≤ payloads → Spells ws at (lines_words names ls) →
    at + length (lines_words names ls) ≡ length ws → length (lines_words names ls) < f → read_listed f ws at ≡ found (line_goals names ls) (length ws)
listed_back names [] zero ws at h b s e k = absurd (omega arith)
listed_back names (l ∷ ls) zero ws at h b s e k = absurd (omega arith)
listed_back names [] (suc f) ws at h b s e k = rw (le-ltb at (length ws) (omega arith)) (ap (found []) (omega arith))
listed_back names (l ∷ ls) (suc f) ws at h b s e k =
    let r = length-append (line_words names l) (lines_words names ls) in
    let p = goal_some (line_goal (reify_line names l)) in
    let q = stands_split ws at (line_words names l) (lines_words names ls) s in
    rw (
      lt-ltb at (length ws) (omega arith),
      line_back (reify_line names l) ws at h.0 b q.0 (omega arith),
      listed_back names ls f ws (at + length (line_words names l)) h.1 b q.1 (omega arith) (omega arith),
    )

-- an answer's words
pub answer_back : (names : List ℕ) (ts : List Term) (ls : List Line) (n : ℕ) → length ts ≡ n → TermsFit ts → Each (λ l. LineFits (reify_line names l)) ls → length (terms_words ts ++ lines_words names ls) < payloads →
    read_answer n (part 15 (terms_words ts ++ lines_words names ls)) ≡ found (ts, line_goals names ls) (length (part 15 (terms_words ts ++ lines_words names ls)))
unfolding Spells
answer_back names ts ls n e h k s =
    let us = terms_words ts ++ lines_words names ls in let ws = part 15 us in
    let r = length-append (terms_words ts) (lines_words names ls) in
    let all : Spells ws 0 ws = stands_self ws in
    let x : kind_at ws 0 ≡ 15 = kind_of ws 0 15 (length us) all.0 s in
    let y : payload_at ws 0 ≡ length us = payload_of ws 0 15 (length us) all.0 s in
    let q = stands_split ws 1 (terms_words ts) (lines_words names ls) all.1 in
    let c : 1 + length us ≡ length ws = omega arith in
    simp (x, y, eq-eqb (1 + length us) (length ws) c)
    (rw (
      ← e,
      query_back ts ws 1 h (omega arith) q.0 (omega arith),
      listed_back names ls (deep ws) ws (1 + length (terms_words ts)) k (omega arith) q.1 (omega arith) (omega arith),
    ))

-- lines with the same words are the same goal
pub goal_determined : (l m : Line) → LineFits l → LineFits m → length (goal_words (line_goal m)) ≤ payloads → goal_words (line_goal l) ≡ goal_words (line_goal m) → line_goal l ≡ line_goal m
goal_determined l m h k s e =
    let ws = goal_words (line_goal m) in
    let all : Spells ws 0 ws = stands_self ws in
    let n = ap length e in
    let p = line_back l ws 0 h s (rw e all) (omega arith) in
    let q = line_back m ws 0 k s all (omega arith) in
    let z = sym p ∙ q in cc
