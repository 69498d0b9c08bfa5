-- `turn` takes a goal and goes on, goes back or stops.
use Rattle.engine.specs.Take.{TookAs}
use Rattle.engine.specs.Turn.{took_goal}
use Rattle.engine.proofs.TurnLaws.{held_goes, held_left, held_cut, turn_onward, turn_leaves, turn_cuts, turn_stops}
use Rattle.engine.proofs.search.turn.turn.Goals as goal
use Rattle.engine.proofs.search.turn.turn.Goals.{After-take-took}

-- the goal has been taken, as the caller has it
taken : (c : After-take-took) → (let q = c.requires in let r = c.take-took.result in TookAs q.0 c.args.program.now c.take-took.new.scratch q.1.choices (took_goal c.args.round q.0 q.1 c.args.st.steps) r.way r.state)
taken c = let q = c.requires in c.take-took.ensures q.0 q.1.path q.1.choices q.1.task q.2.due

pub go_on-requires : goal.go_on-requires
go_on-requires c = let b = taken (goal.at.go_on-requires c).After-take-took in (c.requires.0, b.path, b.choices, held_goes b c.in-Goes.is)

pub leave_path-requires : goal.leave_path-requires
leave_path-requires c = let b = taken (goal.at.leave_path-requires c).After-take-took in (c.requires.0, b.path, c.requires.1.choices, held_left b c.in-Leaves.is)

pub leave_path-requires-in-Cut : goal.leave_path-requires-in-Cut
leave_path-requires-in-Cut c = let b = taken (goal.at.leave_path-requires-in-Cut c).After-take-took in (c.requires.0, b.path, c.requires.1.choices, held_cut b c.in-Cut.is)

pub returns-in-Goes : goal.returns-in-Goes
returns-in-Goes c = λ P n state d. turn_onward P n _ _ _ _ state _ d.left_is (c.take-took.ensures P state.path state.choices state.task d.due) _ c.in-Goes.is c.go_on.ensures

pub returns-in-Leaves : goal.returns-in-Leaves
returns-in-Leaves c = λ P n state d. turn_leaves P n _ _ _ _ state _ d.left_is (c.take-took.ensures P state.path state.choices state.task d.due) _ c.in-Leaves.is c.leave_path.ensures

pub returns-in-Cut : goal.returns-in-Cut
returns-in-Cut c = λ P n state d. turn_cuts P n _ _ _ _ state _ d.left_is (c.take-took.ensures P state.path state.choices state.task d.due) _ c.in-Cut.is c.leave_path-in-Cut.ensures

pub returns-in-Stops : goal.returns-in-Stops
returns-in-Stops c = λ P n state d. turn_stops P n _ _ _ _ state _ d.left_is (c.take-took.ensures P state.path state.choices state.task d.due) _ c.in-Stops.is
