-- `search` takes turn after turn: the state under way leads to where the first one does.
use mathlib.Core.Path.{refl}
use Prim.Native.Nat.{suc}
use native.Mathlib.Omega.{arith}
use Rattle.engine.proofs.SearchLaws.{Going, search_due, searched_stops, searched_over, over_some, searched_goal, searched_answer}
use Rattle.engine.proofs.search.search.search.Goals as goal
use Rattle.engine.proofs.search.search.search.Goals.{At-loop-next}

-- the round under way, as the caller has it
going : (c : At-loop-next) → (let q = c.requires in let l = c.loop-next in Going q.0 q.1 q.2 c.args.round c.args.program.now l.scratch l.st l.goal l.cuts q.3 (suc q.3.tally.left))
going c = let q = c.requires in c.loop-next.invariant q.0 q.1 q.2 q.3 (suc q.3.tally.left) q.4 (omega arith)

pub turn-turned-requires : goal.turn-turned-requires
turn-turned-requires c = let g = going (goal.at.turn-turned-requires c).At-loop-next in (c.requires.0, g.state, search_due g.under)

pub count_cuts-cuts-requires : goal.count_cuts-cuts-requires
count_cuts-cuts-requires c = let g = going (goal.at.count_cuts-cuts-requires c).At-loop-next in let x = (searched_goal g _ _ c.turn-turned.ensures c.in-Goal.is refl).1 in omega (arith, x, g.under.fits)

pub loop-next-smaller : goal.loop-next-smaller
loop-next-smaller c = let g = going (goal.at.loop-next-smaller c).At-loop-next in (searched_goal g _ _ c.turn-turned.ensures c.in-Goal.is refl).1

pub loop-next-preserved : goal.loop-next-preserved
loop-next-preserved c = λ P wf n state fuel h lt. (searched_goal (c.loop-next.invariant P wf n state fuel h lt) _ _ c.turn-turned.ensures c.in-Goal.is c.count_cuts-cuts.ensures).0

pub count_cuts-requires : goal.count_cuts-requires
count_cuts-requires c = let g = going (goal.at.count_cuts-requires c).At-loop-next in let x = over_some g _ _ c.turn-turned.ensures c.in-Over.is in omega (arith, x, g.under.fits)

pub returns-in-Over : goal.returns-in-Over
returns-in-Over c = λ P wf n state fuel h lt. searched_over (c.loop-next.invariant P wf n state fuel h lt) _ _ c.turn-turned.ensures c.in-Over.is c.count_cuts.ensures

pub returns-in-Answer : goal.returns-in-Answer
returns-in-Answer c = λ P wf n state fuel h lt. searched_answer (c.loop-next.invariant P wf n state fuel h lt) _ _ c.turn-turned.ensures c.in-Answer.is

pub returns-in-Stops : goal.returns-in-Stops
returns-in-Stops c = λ P wf n state fuel h lt. searched_stops (c.loop-next.invariant P wf n state fuel h lt) _ _ c.turn-turned.ensures c.in-Stops.is
