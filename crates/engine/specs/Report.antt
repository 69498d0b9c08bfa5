-- What a run returns and leaves, in the words of crate semantics.
use Rattle.std.specs.Prelude.{ℕ, ◌≡◌, List, Result, Ok, Err}
use Rattle.semantics.specs.Steps as steps
use Rattle.semantics.specs.Round as round
use Rattle.semantics.specs.Run as run
use Rattle.semantics.specs.Promise.{Demands}
use Rattle.engine.specs.declared.report.Bound.{Bound}
use Rattle.engine.specs.declared.report.Bound.TheVariants.{Variables, Goals, Disjunctions, Constraints, Waiting}
use Rattle.engine.specs.declared.report.End.{End}
use Rattle.engine.specs.declared.report.End.TheVariants.{Finished, Rounds, Steps, Output, Path}
use Rattle.engine.specs.declared.report.Report.{Report}
use Rattle.engine.specs.declared.report.Refusal.{Refusal}
use Rattle.engine.specs.declared.report.Refusal.TheVariants.{Settings, Program}
use Rattle.rules.specs.Verdict.{number_of}

-- what each case of the code's enums says
abbrev pub bound_of : Bound → steps.Bound
bound_of Variables = steps.variables
bound_of Goals = steps.goals
bound_of Disjunctions = steps.disjunctions
bound_of Constraints = steps.constraints
bound_of Waiting = steps.waiting

-- how a call ended: as a run does, or refused by number and place
pub data Ended : Type 0 where
  ran : round.End → Ended
  refused : ℕ → ℕ → Ended

abbrev pub end_says : End → round.End
end_says Finished = round.finished
end_says Rounds = round.rounds_used
end_says Steps = round.steps_used
end_says Output = round.output_full
end_says (Path b) = round.path_limit (bound_of b)

-- a refusal's number and place: condition 9 is about the settings, and refused at 0
abbrev pub refusal_number : Refusal → ℕ
refusal_number Settings = 9
refusal_number (Program r) = number_of r.condition

abbrev pub refusal_place : Refusal → ℕ
refusal_place Settings = 0
refusal_place (Program r) = r.place

abbrev pub ended : Result Report Refusal → Ended
ended (Ok r) = ran (end_says r.end)
ended (Err e) = refused (refusal_number e) (refusal_place e)

-- its counts; a refusal has none, and they count as 0: "number and place with all counts 0"
abbrev pub counts : Result Report Refusal → run.Counts
counts (Ok r) = record { round = r.round; steps = r.steps; answers = r.answers; words = r.words; cut = r.cut }
counts (Err e) = record { round = 0; steps = 0; answers = 0; words = 0; cut = 0 }

-- and what the definition's report says
abbrev pub report_ended : run.Report → Ended
report_ended (run.refusal number place) = refused number place
report_ended (run.ran r) = ran r.end

-- result and lent words are those of the definition's run
pub record RunAs (x : run.Run) (r : Result Report Refusal) (output_after scratch_after : List ℕ) : Type 0 where
  pub is_end : ended r ≡ report_ended x.report
  pub is_counts : counts r ≡ run.counts x.report
  pub is_output : output_after ≡ x.output
  pub is_scratch : scratch_after ≡ x.scratch

-- The promise of `run`: it says what document 01's run says, and the demands hold of this very result and page.
pub record RunPromise (words : List ℕ) (round_limit step_limit : ℕ) (output scratch : List ℕ) (r : Result Report Refusal) (output_after scratch_after : List ℕ) : Type 0 where
  pub says : RunAs (run.run_as_written words round_limit step_limit output scratch) r output_after scratch_after
  pub demands : Demands words round_limit step_limit output scratch output_after scratch_after (run.run_as_written words round_limit step_limit output scratch).report
