-- `run` says what document 01's run says, and the demands hold of it.
use mathlib.Core.Path.{sym, ◌∙◌}
use mathlib.Core.List.{[]}
use lib.Seq.{length-take-le}
use Rattle.std.proofs.lemmas.Result.{err_from_is_err_and}
use Rattle.rules.specs.Settings.{scratch_words}
use Rattle.rules.proofs.SettingsLaws.{settings_within}
use Rattle.engine.proofs.RunLaws.{settings_refused, program_refused, admitted, kept_whole}
use Rattle.engine.proofs.run.Goals as goal

pub returns-then-not-settings_good : goal.returns-then-not-settings_good
returns-then-not-settings_good c = settings_refused _ _ _ _ _ (sym c.settings_good.ensures ∙ c.if-not-settings_good.true)

pub slice_bounds-run_accepted-end : goal.slice_bounds-run_accepted-end
slice_bounds-run_accepted-end c = (settings_within c.args.rounds _ (sym c.settings_good.ensures ∙ c.if-not-settings_good.false)).1

pub slice_bounds-run_accepted-end-2 : goal.slice_bounds-run_accepted-end-2
slice_bounds-run_accepted-end-2 c = sym (length-take-le scratch_words c.args.scratch.now (settings_within c.args.rounds _ (sym c.settings_good.ensures ∙ c.if-not-settings_good.false)).1)

pub run_accepted-requires : goal.run_accepted-requires
run_accepted-requires c = admitted _ _ 0 [] c.args.scratch.now (sym c.settings_good.ensures ∙ c.if-not-settings_good.false) (c.in_ok-check.ensures)

pub returns-in_err-check : goal.returns-in_err-check
returns-in_err-check c =
    let p = err_from_is_err_and c.from_residual.result c.from_residual.ensures.1 in
    rw (p.1, p.2) (program_refused _ _ _ _ _ _ (sym c.settings_good.ensures ∙ c.if-not-settings_good.false) (c.in_err-check.ensures))

pub returns : goal.returns
returns c = kept_whole _ _ _ _ _ _ _ _ (sym c.settings_good.ensures ∙ c.if-not-settings_good.false) c.run_accepted.ensures
