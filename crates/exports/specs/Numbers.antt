-- What `check`, `run` and `find` return, in numbers, for callers in other languages.
use Rattle.std.specs.Prelude.{ℕ, ◌+◌, ◌*◌, ◌≡◌, List, [], ◌∷◌, ◌++◌, leb, length, drop}
use Rattle.page.specs.Page as page
use Rattle.rules.specs.Reading.{choose}
use Rattle.rules.specs.Verdict.{Said, yes_said, no_said}
use Rattle.semantics.specs.Steps as steps
use Rattle.semantics.specs.Round as round
use Rattle.semantics.specs.Run as run
use Rattle.semantics.specs.Promise.{Demands}
use Rattle.engine.specs.Report.{Ended, ran, refused, report_ended}

-- 0, or the refusal's number in the upper and its place in the lower 32 bits
abbrev pub packed : Said → ℕ
packed yes_said = 0
packed (no_said c p) = c * 4294967296 + p

-- A report is eight numbers: how the call ended (0 to 4 in the order of document 01, "How a run ends", 5 if refused), which bound of a path (1 to 5 as "Bounds" lists them) or the
-- refusal's number, the refusal's place, round, steps, answers, words, the branches cut in the last completed round. What does not apply is 0.
abbrev pub end_numbers : Ended → List ℕ
end_numbers (ran round.finished) = 0 ∷ 0 ∷ 0 ∷ []
end_numbers (ran round.rounds_used) = 1 ∷ 0 ∷ 0 ∷ []
end_numbers (ran round.steps_used) = 2 ∷ 0 ∷ 0 ∷ []
end_numbers (ran round.output_full) = 3 ∷ 0 ∷ 0 ∷ []
end_numbers (ran (round.path_limit b)) = 4 ∷ steps.bound_number b ∷ 0 ∷ []
end_numbers (refused number place) = 5 ∷ number ∷ place ∷ []

abbrev pub numbers_of : Ended → run.Counts → List ℕ
numbers_of e c = end_numbers e ++ (c.round ∷ c.steps ∷ c.answers ∷ c.words ∷ c.cut ∷ [])

abbrev pub numbers : run.Report → List ℕ
numbers x = numbers_of (report_ended x) (run.counts x)

-- what such a call returns and leaves
pub record Call : Type 0 where
  pub result : ℕ
  pub output : List ℕ
  pub scratch : List ℕ
  pub numbers : List ℕ

-- How many numbers it wrote: 8, those of the run, at the start of the words lent for them; or 0 if these are fewer, and nothing is run.
abbrev pub call : run.Run → List ℕ → List ℕ → List ℕ → Call
call x output scratch lent =
    choose (leb 8 (length lent)) (λ _. record { result = 8; output = x.output; scratch = x.scratch; numbers = numbers x.report ++ drop 8 lent })
    (λ _. record { result = 0; output = output; scratch = scratch; numbers = lent })

-- The promise of `kindcanvas_run`, with the demands of what was run.
pub record CallPromise (words : List ℕ) (round_limit step_limit : ℕ) (output scratch lent : List ℕ) (result : ℕ) (output_after scratch_after lent_after : List ℕ) : Type 0 where
  pub is_call : call (run.run_as_written words round_limit step_limit output scratch) output scratch lent ≡ record { result = result; output = output_after; scratch = scratch_after; numbers = lent_after }
  pub demands : result ≡ 8 → Demands words round_limit step_limit output scratch output_after scratch_after (run.run_as_written words round_limit step_limit output scratch).report

-- What `kindcanvas_view` returns and leaves: 0 or the refusal's number, and where the part begins and ends.
pub record ViewCall : Type 0 where
  pub result : ℕ
  pub start : ℕ
  pub end : ℕ

-- "that answer's words as a part of the page itself"; a refusal's is the empty part at its place
abbrev pub view_call : page.Found → ViewCall
view_call (page.part start end) = record { result = 0; start = start; end = end }
view_call (page.refused number place) = record { result = number; start = place; end = place }
