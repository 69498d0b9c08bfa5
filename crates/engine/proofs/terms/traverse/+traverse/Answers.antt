-- `traverse` looks at the nodes as the definition does. Recursion and loop fall by the size of the resolved term, read off the words.
use Prim.Native.Nat.{ℕ, ◌+◌, ◌-◌}
use mathlib.Core.Logic.{inl, inr}
use native.Mathlib.Omega.{arith}
use Rattle.std.proofs.Common.{rules}
use Rattle.std.proofs.lemmas.Result.{err_from_is_err_and}
use Rattle.rules.specs.Syntax.{Term}
use Rattle.semantics.specs.Substitution.{Substitution}
use Rattle.engine.specs.Walk.{Follows}
use Rattle.engine.proofs.TraverseSteps.{Parting, scan_out, scan_hit, scan_miss, met, scan_pass, scan_full, parting, first_starts, first_out, first_hit, first_miss, first_walked, first_falls, first_passed, first_entered, first_says, second_less, first_clear, first_found, first_stops}
use Rattle.engine.proofs.terms.traverse.+traverse.Given.{Over}
use Rattle.engine.proofs.terms.traverse.+traverse.Goals as goal
use Rattle.engine.proofs.terms.traverse.+traverse.Goals.{Else-waiting-ge-MOST_NODES}

-- the pair that is entered, from where there is room for its second part to wait
parting_at : (g : Over) (t : ℕ) (c : Else-waiting-ge-MOST_NODES g t) → (let a = c.args in let q = c.walk-node.result in let E = g.E.Entering in
    (bs : Substitution) (u : Term) (es : (E.traversal a.sought bs).Entered) → Follows a.program.now a.scratch.now bs a.term u → (E.traversal a.sought bs).Holds a.entering.now es
    → Parting (E.traversal a.sought bs) a.program.now a.scratch.now c.enters.new.self es a.waiting a.steps u c.loop-left.at (q.at + 1) (q.at + 1 + q.payload) (c.loop-left.left - 1))
parting_at g t c bs u es f h = let i = c.loop-left.invariant bs u es f h in let s = c.if-left-eq0.false in let w = c.walk-node.ensures in
    parting i s w (search rules) (c.in_ok-enters_node.ensures _ _ _ (met i s w (search rules)) _ i.holds) c.if-not-enters_node.false c.if-waiting-ge-MOST_NODES.false

pub returns-then-left-eq0 : goal.returns-then-left-eq0
returns-then-left-eq0 g t c = λ bs u es f h. inl (scan_out (c.loop-left.invariant bs u es f h) c.if-left-eq0.true)

pub walk-node-requires : goal.walk-node-requires
walk-node-requires g t c = let p = c.requires in let i = c.loop-left.invariant p.0 p.1 p.2 p.3 p.4 in (p.0, i.here, i.follows)

pub returns-then-leaf_word-sought : goal.returns-then-leaf_word-sought
returns-then-leaf_word-sought g t c = λ bs u es f h. scan_hit (c.loop-left.invariant bs u es f h) c.if-left-eq0.false c.walk-node.ensures (search rules) c.leaf_word.ensures c.if-leaf_word-sought.true

pub returns-then-ne : goal.returns-then-ne
returns-then-ne g t c = λ bs u es f h. scan_miss (c.loop-left.invariant bs u es f h) c.if-left-eq0.false c.walk-node.ensures (search rules) c.leaf_word.ensures c.if-leaf_word-sought.false

pub enters-requires : goal.enters-requires
enters-requires g t c = let p = c.requires in let i = c.loop-left.invariant p.0 p.1 p.2 p.3 p.4 in (p.0, i.here, met i c.if-left-eq0.false c.walk-node.ensures (search rules))

pub returns-in_err-enters_node : goal.returns-in_err-enters_node
returns-in_err-enters_node g t c =
    let z = err_from_is_err_and c.from_residual.result c.from_residual.ensures.1 in
    rw (z.1, z.2) (λ bs u es f h. let i = c.loop-left.invariant bs u es f h in let s = c.if-left-eq0.false in let w = c.walk-node.ensures in inr (c.in_err-enters_node.ensures _ _ _ (met i s w (search rules)) _ i.holds))

pub returns-then-not-enters_node : goal.returns-then-not-enters_node
returns-then-not-enters_node g t c = λ bs u es f h. let i = c.loop-left.invariant bs u es f h in let s = c.if-left-eq0.false in let w = c.walk-node.ensures in scan_pass i s w (search rules) (c.in_ok-enters_node.ensures _ _ _ (met i s w (search rules)) _ i.holds) c.if-not-enters_node.true

pub returns-then-waiting-ge-MOST_NODES : goal.returns-then-waiting-ge-MOST_NODES
returns-then-waiting-ge-MOST_NODES g t c = λ bs u es f h. let i = c.loop-left.invariant bs u es f h in let s = c.if-left-eq0.false in let w = c.walk-node.ensures in
    inl (scan_full i s w (search rules) (c.in_ok-enters_node.ensures _ _ _ (met i s w (search rules)) _ i.holds) c.if-not-enters_node.false c.if-waiting-ge-MOST_NODES.true c.at_bound.ensures)

pub returns-then-left-eq0-2 : goal.returns-then-left-eq0-2
returns-then-left-eq0-2 g t c = λ bs u es f h. let d = parting_at g t (goal.at.returns-then-left-eq0-2 g t c).Else-waiting-ge-MOST_NODES bs u es f h in inl (first_out d c.if-left-eq0-2.true)

pub overflow_add-at : goal.overflow_add-at
overflow_add-at g t c = let p = c.requires in let d = parting_at g t (goal.at.overflow_add-at g t c).Else-waiting-ge-MOST_NODES p.0 p.1 p.2 p.3 p.4 in omega (arith, d.first_follows.stands.below)

pub overflow_add-at-in-loop-left : goal.overflow_add-at-in-loop-left
overflow_add-at-in-loop-left g t c = let p = c.requires in let d = parting_at g t (goal.at.overflow_add-at-in-loop-left g t c).Else-waiting-ge-MOST_NODES p.0 p.1 p.2 p.3 p.4 in omega (arith, d.second_follows.stands.below)

pub overflow_add-node : goal.overflow_add-node
overflow_add-node g t c = let p = c.requires in let d = parting_at g t (goal.at.overflow_add-node g t c).Else-waiting-ge-MOST_NODES p.0 p.1 p.2 p.3 p.4 in omega (arith, d.first_follows.stands.below)

pub walk-first-requires : goal.walk-first-requires
walk-first-requires g t c = let p = c.requires in let d = parting_at g t (goal.at.walk-first-requires g t c).Else-waiting-ge-MOST_NODES p.0 p.1 p.2 p.3 p.4 in (p.0, d.first, d.first_follows)

pub returns-then-leaf_word-sought-2 : goal.returns-then-leaf_word-sought-2
returns-then-leaf_word-sought-2 g t c = λ bs u es f h. let d = parting_at g t (goal.at.returns-then-leaf_word-sought-2 g t c).Else-waiting-ge-MOST_NODES bs u es f h in first_hit d c.if-left-eq0-2.false c.walk-first.ensures (search rules) c.leaf_word-then-ne-2.ensures c.if-leaf_word-sought-2.true

pub loop-left-smaller-then-ne-2 : goal.loop-left-smaller-then-ne-2
loop-left-smaller-then-ne-2 g t c = let p = c.requires in let d = parting_at g t (goal.at.loop-left-smaller-then-ne-2 g t c).Else-waiting-ge-MOST_NODES p.0 p.1 p.2 p.3 p.4 in second_less d

pub loop-left-preserved-then-ne-2 : goal.loop-left-preserved-then-ne-2
loop-left-preserved-then-ne-2 g t c = λ bs u es f h. let d = parting_at g t (goal.at.loop-left-preserved-then-ne-2 g t c).Else-waiting-ge-MOST_NODES bs u es f h in first_miss d c.if-left-eq0-2.false c.walk-first.ensures (search rules) c.leaf_word-then-ne-2.ensures c.if-leaf_word-sought-2.false

pub enters-requires-in-loop-left : goal.enters-requires-in-loop-left
enters-requires-in-loop-left g t c = let p = c.requires in let d = parting_at g t (goal.at.enters-requires-in-loop-left g t c).Else-waiting-ge-MOST_NODES p.0 p.1 p.2 p.3 p.4 in (p.0, d.first, met (first_starts d) c.if-left-eq0-2.false c.walk-first.ensures (search rules))

pub returns-in_err-enters_first : goal.returns-in_err-enters_first
returns-in_err-enters_first g t c =
    let z = err_from_is_err_and c.from_residual-in_err-enters_first.result c.from_residual-in_err-enters_first.ensures.1 in
    rw (z.1, z.2) (λ bs u es f h. let d = parting_at g t (goal.at.returns-in_err-enters_first g t c).Else-waiting-ge-MOST_NODES bs u es f h in let s = c.if-left-eq0-2.false in let w = c.walk-first.ensures in inr (c.in_err-enters_first.ensures _ _ _ (met (first_starts d) s w (search rules)) _ d.holds))

pub loop-left-smaller-then-not-enters_first : goal.loop-left-smaller-then-not-enters_first
loop-left-smaller-then-not-enters_first g t c = let p = c.requires in let d = parting_at g t (goal.at.loop-left-smaller-then-not-enters_first g t c).Else-waiting-ge-MOST_NODES p.0 p.1 p.2 p.3 p.4 in second_less d

pub loop-left-preserved-then-not-enters_first : goal.loop-left-preserved-then-not-enters_first
loop-left-preserved-then-not-enters_first g t c = λ bs u es f h. let d = parting_at g t (goal.at.loop-left-preserved-then-not-enters_first g t c).Else-waiting-ge-MOST_NODES bs u es f h in let s = c.if-left-eq0-2.false in let w = c.walk-first.ensures in first_passed d s w (search rules) (c.in_ok-enters_first.ensures _ _ _ (met (first_starts d) s w (search rules)) _ d.holds) c.if-not-enters_first.true

pub traverse-requires : goal.traverse-requires
traverse-requires g t c κs within = let p = c.requires in let d = parting_at g t (goal.at.traverse-requires g t c).Else-waiting-ge-MOST_NODES p.0 p.1 p.2 p.3 p.4 in let s = c.if-left-eq0-2.false in let w = c.walk-first.ensures in
    let e = first_entered d s w (search rules) (c.in_ok-enters_first.ensures _ _ _ (met (first_starts d) s w (search rules)) _ d.holds) c.if-not-enters_first.false in (omega (arith, first_falls d w p.3, c.decreases), (within, (p.0, _, e.entered, first_walked d w, e.holds)))

pub returns-in_err-found : goal.returns-in_err-found
returns-in_err-found g t c =
    let z = err_from_is_err_and c.from_residual-in_err-found.result c.from_residual-in_err-found.ensures.1 in
    rw (z.1, z.2) (λ bs u es f h. let d = parting_at g t (goal.at.returns-in_err-found g t c).Else-waiting-ge-MOST_NODES bs u es f h in let s = c.if-left-eq0-2.false in let w = c.walk-first.ensures in let e = first_entered d s w (search rules) (c.in_ok-enters_first.ensures _ _ _ (met (first_starts d) s w (search rules)) _ d.holds) c.if-not-enters_first.false in
    elim (c.in_err-found.ensures bs _ e.entered (first_walked d w) e.holds) [
      | inl says ↦ inl (first_stops d (first_says d s w (search rules) e says))
      | inr gave_up ↦ inr gave_up
    ])

pub returns-then-found : goal.returns-then-found
returns-then-found g t c = λ bs u es f h. let d = parting_at g t (goal.at.returns-then-found g t c).Else-waiting-ge-MOST_NODES bs u es f h in let s = c.if-left-eq0-2.false in let w = c.walk-first.ensures in let e = first_entered d s w (search rules) (c.in_ok-enters_first.ensures _ _ _ (met (first_starts d) s w (search rules)) _ d.holds) c.if-not-enters_first.false in
    first_found d (first_says d s w (search rules) e (c.in_ok-found.ensures bs _ e.entered (first_walked d w) e.holds)) c.if-found.true

pub loop-left-smaller : goal.loop-left-smaller
loop-left-smaller g t c = let p = c.requires in let d = parting_at g t (goal.at.loop-left-smaller g t c).Else-waiting-ge-MOST_NODES p.0 p.1 p.2 p.3 p.4 in second_less d

pub loop-left-preserved : goal.loop-left-preserved
loop-left-preserved g t c = λ bs u es f h. let d = parting_at g t (goal.at.loop-left-preserved g t c).Else-waiting-ge-MOST_NODES bs u es f h in let s = c.if-left-eq0-2.false in let w = c.walk-first.ensures in let e = first_entered d s w (search rules) (c.in_ok-enters_first.ensures _ _ _ (met (first_starts d) s w (search rules)) _ d.holds) c.if-not-enters_first.false in
    first_clear d (first_says d s w (search rules) e (c.in_ok-found.ensures bs _ e.entered (first_walked d w) e.holds)) c.if-found.false
