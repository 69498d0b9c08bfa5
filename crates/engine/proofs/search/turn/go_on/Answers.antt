-- `go_on` takes the first waiting goal off the stack, or ends the path.
use native.Mathlib.Omega.{arith}
use Rattle.engine.proofs.TurnLaws.{cell_there, goes_answer, goes_fewer, goes_goal}
use Rattle.engine.proofs.search.turn.go_on.Goals as goal

pub returns-then-st-round : goal.returns-then-st-round
returns-then-st-round c = λ P n p cs t h. goes_answer P n _ _ _ c.args.st p cs t h c.if-st-eq0.true c.if-st-round.true

pub returns-then-st-eq0 : goal.returns-then-st-eq0
returns-then-st-eq0 c = λ P n p cs t h. goes_fewer P n _ _ _ c.args.st p cs t h _ _ c.if-st-eq0.true c.if-st-round.false c.leave_path.ensures

pub overflow_mul-goal : goal.overflow_mul-goal
overflow_mul-goal c = omega (arith, cell_there c.args.st c.requires.3 c.if-st-eq0.false)

pub overflow_add-goal : goal.overflow_add-goal
overflow_add-goal c = omega (arith, cell_there c.args.st c.requires.3 c.if-st-eq0.false)

pub overflow_mul-next : goal.overflow_mul-next
overflow_mul-next c = omega (arith, cell_there c.args.st c.requires.3 c.if-st-eq0.false)

pub overflow_add-next : goal.overflow_add-next
overflow_add-next c = omega (arith, cell_there c.args.st c.requires.3 c.if-st-eq0.false)

pub bounds-scratch-next : goal.bounds-scratch-next
bounds-scratch-next c = omega (arith, cell_there c.args.st c.requires.3 c.if-st-eq0.false, c.requires.3.roomy.long)

pub bounds-scratch-goal : goal.bounds-scratch-goal
bounds-scratch-goal c = omega (arith, cell_there c.args.st c.requires.3 c.if-st-eq0.false, c.requires.3.roomy.long)

pub returns : goal.returns
returns c = λ P n p cs t h. goes_goal P n _ _ _ c.args.st p cs t h c.if-st-eq0.false
