-- A lighter workspace (document 02, Note 12): what stayed, and that the words beyond are untouched.
use Prim.Native.Nat.{◌≤◌, ℕ}
use mathlib.Core.Bool.{Bool, ◌&&◌, false, true}
use mathlib.Core.List.{List, [], ◌++◌, ◌∷◌, map}
use mathlib.Core.Path.{◌≡◌, ◌∙◌, ap, refl, sym}
use native.Mathlib.Omega.{arith}
use lib.Dec.{leb}
use lib.ListN.{drop, length, take, take-append-drop}
use lib.Seq.{length-take-le}
use borrow.Author.Tests.{le-leb}
use Rattle.rules.specs.Accept.{admit}
use Rattle.rules.specs.Settings.{scratch_words}
use Rattle.semantics.specs.Earlier.{leave_before_12, run_before_12, scratch_words_before_12}
use Rattle.semantics.specs.Path.{as_written}
use Rattle.semantics.specs.Round.{once}
use Rattle.semantics.specs.Run.{Report, Run, leave, ran, refusal, report_read_by, returns_by, run_as_written}
use Rattle.semantics.specs.Steps.{constraints, disjunctions, goals, most, variables, waiting}
use Rattle.semantics.proofs.ZeroedLaws.{zeroed_beyond, zeroed_part}

-- "the five path bounds must come out the same"
pub bounds_stayed : map most (variables ∷ goals ∷ disjunctions ∷ constraints ∷ waiting ∷ []) ≡ 2048 ∷ 1024 ∷ 256 ∷ 512 ∷ 512 ∷ []
bounds_stayed = refl

-- the same report, and the same output
abbrev pub SameOutcome : Run → Run → Type 0
SameOutcome x y = (x.report ≡ y.report) × (x.output ≡ y.output)

-- a run, with further words behind its scratch
abbrev pub with_beyond : Run → List ℕ → Run
with_beyond x beyond = record { report = x.report; output = x.output; scratch = x.scratch ++ beyond }

module _ (words : List ℕ) (round_limit step_limit : ℕ) (output : List ℕ) where
  -- what a call returns with a scratch that is long enough
  with_enough : Report
  with_enough = report_read_by (once as_written) (admit (leb round_limit 255) words) round_limit step_limit (length output)

  -- the settings are good by a bound on the scratch that it meets, if the round limit is
  long_enough : (bound : ℕ) (scratch : List ℕ) → bound ≤ length scratch → (leb round_limit 255 && leb bound (length scratch)) ≡ leb round_limit 255
  long_enough bound scratch h = rw (le-leb bound (length scratch) h) (settled (leb round_limit 255))
    where
      settled : (b : Bool) → (b && true) ≡ b
      settled true = refl
      settled false = refl

  run_is : (scratch : List ℕ) → scratch_words ≤ length scratch → run_as_written words round_limit step_limit output scratch ≡ leave with_enough output scratch
  unfolding with_enough
  run_is scratch h = ap (λ b. leave (report_read_by (once as_written) (admit b words) round_limit step_limit (length output)) output scratch) (long_enough scratch_words scratch h)

  run_before_is : (scratch : List ℕ) → scratch_words_before_12 ≤ length scratch → run_before_12 words round_limit step_limit output scratch ≡ leave_before_12 with_enough output scratch
  unfolding with_enough
  run_before_is scratch h = ap (λ b. leave_before_12 (report_read_by (once as_written) (admit b words) round_limit step_limit (length output)) output scratch) (long_enough scratch_words_before_12 scratch h)

  -- "Answers, ends, step counts .. must come out the same": with a scratch of 12,288 words or more, report and output are what they were with any of 16,384 words or more, so with that scratch itself if it is so long.
  pub outcome_stayed : (scratch longer : List ℕ) → scratch_words ≤ length scratch → scratch_words_before_12 ≤ length longer →
      SameOutcome (run_as_written words round_limit step_limit output scratch) (run_before_12 words round_limit step_limit output longer)
  outcome_stayed scratch longer h k = rw (run_is scratch h, run_before_is longer k) (same with_enough)
    where
      same : (x : Report) → SameOutcome (leave x output scratch) (leave_before_12 x output longer)
      same (refusal number place) = (refl, refl)
      same (ran r) = (refl, refl)

  -- "Scratch beyond 12,288 words is left untouched", by every call
  pub beyond_untouched : (scratch : List ℕ) → drop scratch_words (run_as_written words round_limit step_limit output scratch).scratch ≡ drop scratch_words scratch
  beyond_untouched scratch = left (returns_by (once as_written) words round_limit step_limit (length output) (length scratch))
    where
      left : (x : Report) → drop scratch_words (leave x output scratch).scratch ≡ drop scratch_words scratch
      left (refusal number place) = refl
      left (ran r) = zeroed_beyond scratch_words scratch

  -- A call with a longer scratch is the call with its first words, and those beyond are behind them.
  pub first_words_used : (scratch : List ℕ) → scratch_words ≤ length scratch →
      run_as_written words round_limit step_limit output scratch ≡ with_beyond (run_as_written words round_limit step_limit output (take scratch_words scratch)) (drop scratch_words scratch)
  first_words_used scratch h =
      run_is scratch h ∙ split with_enough
      ∙ sym (ap (λ (x : Run). with_beyond x (drop scratch_words scratch)) (run_is (take scratch_words scratch) (omega (arith, length-take-le scratch_words scratch h))))
    where
      split : (x : Report) → leave x output scratch ≡ with_beyond (leave x output (take scratch_words scratch)) (drop scratch_words scratch)
      split (refusal number place) = ap (λ s. record { report = refusal number place; output = output; scratch = s }) (sym (take-append-drop scratch_words scratch))
      split (ran r) = ap (λ s. record { report = ran r; output = (leave (ran r) output scratch).output; scratch = s }) (zeroed_part scratch_words scratch)
