-- `rounds` runs round after round, as the definition's `rounds` says.
use mathlib.Core.Path.{refl, ◌∙◌}
use native.Mathlib.Omega.{arith}
use Rattle.rules.specs.Syntax.{Program, Relation}
use Rattle.engine.specs.Rounds.{RunReady, BrokenAs, CompletedAs}
use Rattle.engine.proofs.RoundsLaws.{start_going, starting, round_now, told_broken, told_completed, broken_fewer, completed_fewer, broken_result, finished_result, rounds_result, next_going}
use Rattle.engine.proofs.rounds.rounds.Goals as goal
use Rattle.engine.proofs.rounds.rounds.Goals.{In-Err, In-Ok}

-- what the round came to
broken : (c : In-Err) {P : Program} {R : Relation} (q : RunReady c.args.program.now c.args.scratch.now P c.args.query R c.args.limit) → BrokenAs c.round.new.output (round_now c.loop-broken.invariant.2 q) c.in-Err.broken.end c.in-Err.broken.tally
broken c {P} {R} q = let g = c.loop-broken.invariant.2 in told_broken g q _ _ _ (c.in-Err.ensures P R _ (starting g q))

completed : (c : In-Ok) {P : Program} {R : Relation} (q : RunReady c.args.program.now c.args.scratch.now P c.args.query R c.args.limit)
    → CompletedAs c.args.program.now c.round.new.scratch c.round.new.output P (round_now c.loop-broken.invariant.2 q) c.in-Ok.completed.tally c.in-Ok.completed.cuts
completed c {P} {R} q = let g = c.loop-broken.invariant.2 in told_completed g q _ _ _ (c.in-Ok.ensures P R _ (starting g q))

pub loop-broken-init : goal.loop-broken-init
loop-broken-init c = (refl, refl, start_going _ _ _ _ _ _ _ refl refl (omega arith))

pub round-requires : goal.round-requires
round-requires c = let q = c.requires in (q.0, q.1, _, starting c.loop-broken.invariant.2 q.2)

pub report-requires : goal.report-requires
report-requires c = let q = c.requires.2 in broken_fewer c.loop-broken.invariant.2 q (broken (goal.at.report-requires c).In-Err q)

pub returns-in-Err : goal.returns-in-Err
returns-in-Err c = λ P R q. broken_result c.loop-broken.invariant.2 q (broken (goal.at.returns-in-Err c).In-Err q) c.report.ensures

pub report-requires-then-cut-eq0 : goal.report-requires-then-cut-eq0
report-requires-then-cut-eq0 c = let q = c.requires.2 in completed_fewer c.loop-broken.invariant.2 q (completed (goal.at.report-requires-then-cut-eq0 c).In-Ok q)

pub returns-then-cut-eq0 : goal.returns-then-cut-eq0
returns-then-cut-eq0 c = λ P R q. finished_result c.loop-broken.invariant.2 q (completed (goal.at.returns-then-cut-eq0 c).In-Ok q) c.if-cut-eq0.true c.report-then-cut-eq0.ensures

pub report-requires-then-limit-number : goal.report-requires-then-limit-number
report-requires-then-limit-number c = let q = c.requires.2 in completed_fewer c.loop-broken.invariant.2 q (completed (goal.at.report-requires-then-limit-number c).In-Ok q)

pub returns-then-limit-number : goal.returns-then-limit-number
returns-then-limit-number c = λ P R q.
    rounds_result c.loop-broken.invariant.2 q (completed (goal.at.returns-then-limit-number c).In-Ok q) c.if-cut-eq0.false c.if-limit-number.true c.report-then-limit-number.ensures

pub loop-broken-preserved : goal.loop-broken-preserved
loop-broken-preserved c = (
  c.round.auto.scratch ∙ c.loop-broken.invariant.0,
  c.round.auto.output ∙ c.loop-broken.invariant.1,
  next_going c.loop-broken.invariant.2 (λ P R q. completed (goal.at.loop-broken-preserved c).In-Ok q) c.if-cut-eq0.false c.if-limit-number.false,
)
