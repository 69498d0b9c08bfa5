-- `run_accepted` clears the scratch, fills the table, runs the rounds, and clears what is left.
use mathlib.Core.Path.{◌∙◌}
use mathlib.Core.List.{[]}
use Rattle.engine.proofs.RunLaws.{query_of, filling, ready, kept_run}
use Rattle.engine.proofs.run_accepted.Goals as goal

pub fill_relations-requires : goal.fill_relations-requires
fill_relations-requires c = filling _ _ 0 [] _ c.requires _ c.clear.ensures

pub rounds-report-requires : goal.rounds-report-requires
rounds-report-requires c = let a = c.requires in
    let filled = c.fill_relations in
    (a.program, query_of _ _ 0 [] _ a, ready _ _ 0 [] _ a _ _ c.clear.ensures filled.auto.scratch filled.ensures.0 filled.ensures.1)

pub returns : goal.returns
returns c = let a = c.requires in
    let first = c.clear in
    let filled = c.fill_relations in
    let ran = c.rounds-report in
    rw (c.clear-3.ensures, c.clear-2.ensures)
    (kept_run _ _ _ _ _ a ran.new.scratch _ _ (ran.auto.scratch ∙ filled.auto.scratch ∙ first.auto.words) ran.auto.output
    (ran.ensures a.program (query_of _ _ 0 [] _ a) (ready _ _ 0 [] _ a _ _ first.ensures filled.auto.scratch filled.ensures.0 filled.ensures.1)))
