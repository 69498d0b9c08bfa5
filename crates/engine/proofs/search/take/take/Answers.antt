-- `take` takes the goal's step, and goes by the kind of its word.
use mathlib.Core.Path.{◌≡◌, refl}
use mathlib.Core.List.{List}
use native.Mathlib.Omega.{arith}
use Rattle.rules.specs.Syntax.{Goal, Program}
use Rattle.semantics.specs.Path.{Task, Path, ChoicePoint}
use Rattle.engine.specs.Take.{Due, GoalReady}
use Rattle.engine.proofs.TakeLaws.{take_none, of_kind, is_equal, is_conj, is_disj, is_call, is_constraint, taking, taken_as}
use Rattle.engine.proofs.search.take.take.Goals as goal
use Rattle.engine.proofs.search.take.take.Goals.{After-part_at}

-- the goal is ready, its step taken
ready : (c : After-part_at) {P : Program} {p : Path} {cs : List ChoicePoint} {task : Task} → Due P c.args.program.now c.args.scratch.now c.args.st c.args.goal p cs task → {g : Goal} → task.1 ≡ g
    → GoalReady P c.args.program.now c.args.scratch.now c.with_counts-taking.result c.args.goal p cs (task.0, g)
ready c d is = taking d c.if-st-eq0.false c.with_counts-taking.ensures is (omega arith)

pub returns-then-st-eq0 : goal.returns-then-st-eq0
returns-then-st-eq0 c = λ P p cs task d. take_none P _ _ p cs _ _ task _ c.if-st-eq0.true

pub take_equal-requires : goal.take_equal-requires
take_equal-requires c = let q = c.requires in
    let i = is_equal (of_kind _ _ q.4.task_at c.part_at.ensures c.in-Equal.is) in
    (q.0, q.1, q.2, q.3.0, i.0, i.1, ready (goal.at.take_equal-requires c).After-part_at q.4 i.2)

pub returns-in-Equal : goal.returns-in-Equal
returns-in-Equal c = λ P p cs task d.
    let i = is_equal (of_kind _ _ d.task_at c.part_at.ensures c.in-Equal.is) in
    taken_as d c.if-st-eq0.false c.with_counts-taking.ensures i.2 _ _ _ (c.take_equal.ensures P p cs task.0 i.0 i.1 (ready (goal.at.returns-in-Equal c).After-part_at d i.2))

pub take_conj-requires : goal.take_conj-requires
take_conj-requires c = let q = c.requires in
    let i = is_conj (of_kind _ _ q.4.task_at c.part_at.ensures c.in-Conjunction.is) in
    (q.0, q.1, q.2, q.3.0, i.0, (ready (goal.at.take_conj-requires c).After-part_at q.4 i.1).taking)

pub returns-in-Conjunction : goal.returns-in-Conjunction
returns-in-Conjunction c = λ P p cs task d.
    let i = is_conj (of_kind _ _ d.task_at c.part_at.ensures c.in-Conjunction.is) in
    taken_as d c.if-st-eq0.false c.with_counts-taking.ensures i.1 _ _ _ (c.take_conj.ensures P p cs task.0 i.0 (ready (goal.at.returns-in-Conjunction c).After-part_at d i.1).taking)

pub take_disj-requires : goal.take_disj-requires
take_disj-requires c = let q = c.requires in
    let i = is_disj (of_kind _ _ q.4.task_at c.part_at.ensures c.in-Disjunction.is) in
    (q.0, q.1, q.2, q.3.0, i.0, (ready (goal.at.take_disj-requires c).After-part_at q.4 i.1).taking)

pub returns-in-Disjunction : goal.returns-in-Disjunction
returns-in-Disjunction c = λ P p cs task d.
    let i = is_disj (of_kind _ _ d.task_at c.part_at.ensures c.in-Disjunction.is) in
    taken_as d c.if-st-eq0.false c.with_counts-taking.ensures i.1 _ _ _ (c.take_disj.ensures P p cs task.0 i.0 (ready (goal.at.returns-in-Disjunction c).After-part_at d i.1).taking)

pub take_call-requires : goal.take_call-requires
take_call-requires c = let q = c.requires in
    let i = is_call (of_kind _ _ q.4.task_at c.part_at.ensures c.in-Call.is) in
    (q.0, q.1, q.2, q.3.0, i.0, i.1, ready (goal.at.take_call-requires c).After-part_at q.4 i.2)

pub returns-in-Call : goal.returns-in-Call
returns-in-Call c = λ P p cs task d.
    let i = is_call (of_kind _ _ d.task_at c.part_at.ensures c.in-Call.is) in
    taken_as d c.if-st-eq0.false c.with_counts-taking.ensures i.2 _ _ _ (c.take_call.ensures P p cs task.0 i.0 i.1 (ready (goal.at.returns-in-Call c).After-part_at d i.2))

pub take_constraint-requires : goal.take_constraint-requires
take_constraint-requires c = let q = c.requires in
    let n = c.in_default in
    let i = is_constraint _ (of_kind _ _ q.4.task_at c.part_at.ensures refl) n.not-Equal n.not-Conjunction n.not-Disjunction n.not-Call in
    (q.0, q.1, q.2, q.3.0, i.0, ready (goal.at.take_constraint-requires c).After-part_at q.4 i.1)

pub returns-in_default : goal.returns-in_default
returns-in_default c = λ P p cs task d.
    let n = c.in_default in
    let i = is_constraint _ (of_kind _ _ d.task_at c.part_at.ensures refl) n.not-Equal n.not-Conjunction n.not-Disjunction n.not-Call in
    taken_as d c.if-st-eq0.false c.with_counts-taking.ensures i.1 _ _ _ (c.take_constraint.ensures P p cs task.0 i.0 (ready (goal.at.returns-in_default c).After-part_at d i.1))
