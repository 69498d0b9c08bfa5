-- What holds of every call: the demands, that the engine's promise cites.
use Rattle.std.specs.Prelude.{◌+◌, ◌<◌, ◌≤◌, suc, ℕ, List, [], ◌↔◌, ◌≡◌, drop, get_or, length}
use Rattle.std.proofs.Math.Option.{some}
use Rattle.std.proofs.Math.ListN.{get_elem?}
use Rattle.page.specs.Page.{answers_on, find, nth_part, view}
use Rattle.rules.specs.Settings.{scratch_words}
use Rattle.rules.specs.Syntax.{Program, Relation}
use Rattle.rules.specs.WellFormed.{WrittenForm}
use Rattle.semantics.specs.Demand.{Begins, Completed, Demand1, Demand2, Demand3, strike}
use Rattle.semantics.specs.Earlier.{run_before_2}
use Rattle.semantics.specs.Path.{Passing, as_written}
use Rattle.semantics.specs.Published.{round_cuts}
use Rattle.semantics.specs.Round.{Answer, End, Result, finished, output_full, rounds_used, words_of}
use Rattle.semantics.specs.Run.{Report, page, ran, refusal, usable}
use Rattle.semantics.specs.Situation.{LastCut, RoundCut, Situation}

-- A result is that of the last round that the run came to: it names the end in whose situation the run is there, with the answers, steps and words as counted there, and tells how many
-- branches the last completed round cut.
pub record EndRight (pass : Passing) (P : Program) (R : Relation) (limit round_limit total : ℕ) (r : Result) : Type 0 where
  pub situation : Situation pass P R limit round_limit total r.end
  pub round_is : r.round ≡ situation.round
  pub answers_are : r.answers ≡ situation.tally.written
  pub steps_are : r.steps + situation.tally.left ≡ limit
  pub words_are : length (page r.answers) + situation.tally.room ≡ total
  pub cut_is : LastCut pass P R limit round_limit total r.cut

-- What the number of branches cut tells: document 02, Note 7.
pub record CutTells (pass : Passing) (P : Program) (R : Relation) (limit round_limit total : ℕ) (r : Result) : Type 0 where
  -- "the number of branches cut in the last completed round": as many as the published search cuts in it, for any bound on the depth of terms that is at least the step limit
  pub told_last : (plenty : ℕ) → limit ≤ plenty → (k : ℕ) → Completed r.end r.round k → ¬ Completed r.end r.round (suc k) → r.cut ≡ round_cuts pass plenty P R k
  -- "0 if none was completed"
  pub told_none : ¬ Completed r.end r.round 0 → r.cut ≡ 0
  -- "Finished then means a completed round and 0": the last round of the run was completed and cut no branch
  pub finished_means : (r.end ≡ finished) ↔ (RoundCut pass P R limit round_limit total r.round r.cut × (r.cut ≡ 0))
  -- and rounds used up means that the round of the limit was completed and cut some
  pub rounds_used_means : (r.end ≡ rounds_used) ↔ (RoundCut pass P R limit round_limit total round_limit r.cut × (0 < r.cut))

-- a result with later repeats struck out
abbrev pub struck : Result → Result
struck r = record { end = r.end; round = r.round; steps = r.steps; answers = strike [] r.answers; cut = r.cut }

-- Document 02, Note 2: "an answer with the same words as an earlier one of the run is not written .. The expected order is that of the old run with the same limits and endless output,
-- later repeats struck out, as far as this run gets".
pub record ListedOnce (pass : Passing) (P : Program) (R : Relation) (limit round_limit : ℕ) (r : Result) : Type 0 where
  -- no two answers have the same words
  pub no_repeats : (i j : ℕ) (a b : Answer) → get_elem? r.answers i ≡ some a → get_elem? r.answers j ≡ some b → a.1 ≡ b.1 → i ≡ j
  -- what is written is in the old run's order
  pub as_far : Begins r.answers (strike [] (run_before_2 pass P R limit round_limit).answers)
  -- unless the output is full it gets as far, with the same end, round, steps and cuts
  pub all_the_way : ¬ (r.end ≡ output_full) → r ≡ struck (run_before_2 pass P R limit round_limit)
  -- and every round that it completed the old run completed
  pub no_further : (k : ℕ) → Completed r.end r.round k → Completed (run_before_2 pass P R limit round_limit).end (run_before_2 pass P R limit round_limit).round k

-- the output after a run: the answers on it are those of the result, by their numbers too, and it keeps its length
pub record OnPage (output after : List ℕ) (r : Result) : Type 0 where
  pub page_is : answers_on after ≡ words_of r.answers
  pub same_length : length after ≡ length output
  -- document 02, Note 1: answer i stands where the run's i-th does, and from their count on every number is refused by 10 at the first word beyond them
  pub numbered : (i : ℕ) → find after i ≡ nth_part (words_of r.answers) i 0
  -- "it should get that answer's words"
  pub opened : (i : ℕ) (a : Answer) → get_elem? r.answers i ≡ some a → view after i ≡ a.1

-- The words are the written form of just one program, whose relation 0 is the query. Demands 2 and 3 hold of the result, its end, steps, words and cuts are as documents 01 and 02 define them, no
-- two of its answers have the same words, and they are those on the output.
pub record Promised (words : List ℕ) (round_limit step_limit : ℕ) (output after : List ℕ) (r : Result) : Type 0 where
  pub program : Program
  pub is_written : WrittenForm words program
  pub no_other : (Q : Program) → WrittenForm words Q → program ≡ Q
  pub query : Relation
  pub is_query : get_elem? program 0 ≡ some query
  pub published : (plenty : ℕ) → step_limit ≤ plenty → Demand2 as_written plenty program query step_limit round_limit (usable (length output)) r
  pub demand : Demand3 program r
  pub ends : EndRight as_written program query step_limit round_limit (usable (length output)) r
  -- "Each is reported in just that situation."
  pub just : (e : End) → (r.end ≡ e) ↔ Situation as_written program query step_limit round_limit (usable (length output)) e
  pub cut_tells : CutTells as_written program query step_limit round_limit (usable (length output)) r
  pub listed_once : ListedOnce as_written program query step_limit round_limit r
  pub on_output : OnPage output after r

-- What becomes of the lent words. Refused: "output and scratch stay as lent". Else "scratch is all 0 and output beyond the last whole answer is 0 to its end", but
-- "Scratch beyond 12,288 words is left untouched" (document 02, Note 12).
abbrev pub Lent : Report → List ℕ → List ℕ → List ℕ → List ℕ → Type 0
Lent (refusal number place) output scratch after scratch_after = (after ≡ output) × (scratch_after ≡ scratch)
Lent (ran r) output scratch after scratch_after =
    (length after ≡ length output) × (length scratch_after ≡ length scratch) × ((i : ℕ) → length (page r.answers) ≤ i → get_or after i 0 ≡ 0)
    × ((i : ℕ) → i < scratch_words → get_or scratch_after i 0 ≡ 0) × (drop scratch_words scratch_after ≡ drop scratch_words scratch)

-- What a call returns is a result or a refusal as demand 1 says; of a result all that is promised holds; and the lent words are left so.
pub record Demands (words : List ℕ) (round_limit step_limit : ℕ) (output scratch after scratch_after : List ℕ) (x : Report) : Type 0 where
  pub accepts : Demand1 words round_limit (length scratch) x
  pub runs : (r : Result) → x ≡ ran r → Promised words round_limit step_limit output after r
  pub lent : Lent x output scratch after scratch_after
