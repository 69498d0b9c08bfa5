-- `leave_path` goes back to the newest choice point.
use Rattle.engine.specs.Turn.{tallied}
use Rattle.engine.proofs.TurnLaws.{left_over, left_goal}
use Rattle.engine.proofs.search.turn.leave_path.Goals as goal

pub returns-in-None : goal.returns-in-None
returns-in-None c = let a = c.args in λ P n k p cs t o h. left_over P n k _ _ a.st t o a.cut _ c.in-None.is (c.backtrack.ensures P p cs (tallied t a.st.steps a.cut) h)

pub returns-in-Some : goal.returns-in-Some
returns-in-Some c = let a = c.args in λ P n k p cs t o h. left_goal P n k _ _ a.st t o a.cut _ c.in-Some.is (c.backtrack.ensures P p cs (tallied t a.st.steps a.cut) h)
