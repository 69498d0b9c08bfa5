-- `check_pairs` goes along the term as far as that needs no marks, and from there with them.
use Prim.Native.Nat.{◌+◌, ◌-◌}
use mathlib.Core.Bool.{false}
use mathlib.Core.Path.{refl, sym, ◌∙◌}
use native.Mathlib.Omega.{arith}
use Rattle.std.proofs.Common.{rules}
use Rattle.std.proofs.lemmas.Result.{err_from_is_err_and}
use Rattle.rules.specs.Syntax.{Term}
use Rattle.semantics.specs.Substitution.{Substitution}
use Rattle.engine.specs.Walk.{Follows}
use Rattle.engine.specs.Entering.{unmarked_checks}
use Rattle.engine.specs.Traverse.{SaysAs}
use Rattle.engine.proofs.OccursSteps.{unbound, unmarked_enters, unmarked_told, unmarked_alone, marked_alone}
use Rattle.engine.proofs.TraverseSteps.{Parting, scanning_start, scan_out, scan_hit, scan_miss, met, parting, first_starts, first_out, first_hit, first_miss, first_walked, first_says, second_less, first_clear, first_found, first_stops}
use Rattle.engine.proofs.terms.occurs.check_pairs.Goals as goal
use Rattle.engine.proofs.terms.occurs.check_pairs.Goals.{Else-is_some, Else-unmarked}

-- a pair of the term itself
parting_at : (c : Else-is_some) → (let a = c.args in let q = c.walk-node.result in (bs : Substitution) (u : Term) → Follows a.program.now a.scratch.now bs a.term u
    → Parting (unmarked_checks a.sought bs) a.program.now a.scratch.now (record { bound = false }) tt 0 a.steps u c.loop-left.at (q.at + 1) (q.at + 1 + q.payload) (c.loop-left.left - 1))
parting_at c bs u f = let i = c.loop-left.invariant bs u f in let s = c.if-left-eq0.false in let w = c.walk-node.ensures in
    parting i s w (search rules) (unmarked_enters _ bs _ (met i s w (search rules)) (unbound (sym c.is_some.ensures ∙ c.if-is_some.false))) refl (omega arith)

pub loop-left-init : goal.loop-left-init
loop-left-init c = λ bs u f. scanning_start f tt

pub returns-then-left-eq0 : goal.returns-then-left-eq0
returns-then-left-eq0 c = λ bs u f. unmarked_alone c.requires.0 _ (scan_out (c.loop-left.invariant bs u f) c.if-left-eq0.true)

pub walk-node-requires : goal.walk-node-requires
walk-node-requires c = let p = c.requires.1 in let i = c.loop-left.invariant p.0 p.1 p.2 in (p.0, i.here, i.follows)

pub returns-then-leaf_word-sought : goal.returns-then-leaf_word-sought
returns-then-leaf_word-sought c = λ bs u f. unmarked_alone c.requires.0 _ (scan_hit (c.loop-left.invariant bs u f) c.if-left-eq0.false c.walk-node.ensures (search rules) c.leaf_word.ensures c.if-leaf_word-sought.true)

pub returns-then-ne : goal.returns-then-ne
returns-then-ne c = λ bs u f. unmarked_alone c.requires.0 _ (scan_miss (c.loop-left.invariant bs u f) c.if-left-eq0.false c.walk-node.ensures (search rules) c.leaf_word.ensures c.if-leaf_word-sought.false)

pub check_marking-requires : goal.check_marking-requires
check_marking-requires c = let p = c.requires.1 in let i = c.loop-left.invariant p.0 p.1 p.2 in (c.requires.0, (p.0, i.here, i.follows))

pub returns-then-is_some : goal.returns-then-is_some
returns-then-is_some c = λ bs u f. let i = c.loop-left.invariant bs u f in marked_alone c.requires.0 i _ (c.check_marking.ensures bs i.here i.follows)

pub returns-then-rest-eq0 : goal.returns-then-rest-eq0
returns-then-rest-eq0 c = λ bs u f. unmarked_alone c.requires.0 _ (first_out (parting_at (goal.at.returns-then-rest-eq0 c).Else-is_some bs u f) c.if-rest-eq0.true)

pub overflow_add-second : goal.overflow_add-second
overflow_add-second c = let p = c.requires.1 in let d = parting_at (goal.at.overflow_add-second c).Else-is_some p.0 p.1 p.2 in omega (arith, d.first_follows.stands.below)

pub overflow_add-second-in-loop-left : goal.overflow_add-second-in-loop-left
overflow_add-second-in-loop-left c = let p = c.requires.1 in let d = parting_at (goal.at.overflow_add-second-in-loop-left c).Else-is_some p.0 p.1 p.2 in omega (arith, d.second_follows.stands.below)

pub overflow_add-node : goal.overflow_add-node
overflow_add-node c = let p = c.requires.1 in let d = parting_at (goal.at.overflow_add-node c).Else-is_some p.0 p.1 p.2 in omega (arith, d.first_follows.stands.below)

pub walk-first-requires : goal.walk-first-requires
walk-first-requires c = let p = c.requires.1 in let d = parting_at (goal.at.walk-first-requires c).Else-is_some p.0 p.1 p.2 in (p.0, d.first, d.first_follows)

pub returns-then-leaf_word-sought-2 : goal.returns-then-leaf_word-sought-2
returns-then-leaf_word-sought-2 c = λ bs u f. let d = parting_at (goal.at.returns-then-leaf_word-sought-2 c).Else-is_some bs u f in
    unmarked_alone c.requires.0 _ (first_hit d c.if-rest-eq0.false c.walk-first.ensures (search rules) c.leaf_word-then-ne-2.ensures c.if-leaf_word-sought-2.true)

pub loop-left-smaller-then-ne-2 : goal.loop-left-smaller-then-ne-2
loop-left-smaller-then-ne-2 c = let p = c.requires.1 in let d = parting_at (goal.at.loop-left-smaller-then-ne-2 c).Else-is_some p.0 p.1 p.2 in second_less d

pub loop-left-preserved-then-ne-2 : goal.loop-left-preserved-then-ne-2
loop-left-preserved-then-ne-2 c = λ bs u f. let d = parting_at (goal.at.loop-left-preserved-then-ne-2 c).Else-is_some bs u f in
    first_miss d c.if-rest-eq0.false c.walk-first.ensures (search rules) c.leaf_word-then-ne-2.ensures c.if-leaf_word-sought-2.false

pub check_marking-requires-then-is_some-2 : goal.check_marking-requires-then-is_some-2
check_marking-requires-then-is_some-2 c = let p = c.requires.1 in let i = c.loop-left.invariant p.0 p.1 p.2 in (c.requires.0, (p.0, i.here, i.follows))

pub returns-then-is_some-2 : goal.returns-then-is_some-2
returns-then-is_some-2 c = λ bs u f. let i = c.loop-left.invariant bs u f in marked_alone c.requires.0 i _ (c.check_marking-then-is_some-2.ensures bs i.here i.follows)

pub traverse-checked-requires : goal.traverse-checked-requires
traverse-checked-requires c = let p = c.requires.1 in let d = parting_at (goal.at.traverse-checked-requires c).Else-is_some p.0 p.1 p.2 in (p.0, _, tt, first_walked d c.walk-first.ensures, tt)

pub check_marking-requires-then-unmarked : goal.check_marking-requires-then-unmarked
check_marking-requires-then-unmarked c = let p = c.requires.1 in let i = c.loop-left.invariant p.0 p.1 p.2 in (c.requires.0, (p.0, i.here, i.follows))

pub returns-then-unmarked : goal.returns-then-unmarked
returns-then-unmarked c = λ bs u f. let i = c.loop-left.invariant bs u f in marked_alone c.requires.0 i _ (c.check_marking-then-unmarked.ensures bs i.here i.follows)

pub loop-left-smaller : goal.loop-left-smaller
loop-left-smaller c = let p = c.requires.1 in let d = parting_at (goal.at.loop-left-smaller c).Else-is_some p.0 p.1 p.2 in second_less d

-- what the check of the first part says
first_told : (c : Else-unmarked) → (let a = c.args in let q = c.walk-node.result in (bs : Substitution) (u : Term)
    (d : Parting (unmarked_checks a.sought bs) a.program.now a.scratch.now (record { bound = false }) tt 0 a.steps u c.loop-left.at (q.at + 1) (q.at + 1 + q.payload) (c.loop-left.left - 1))
    → SaysAs (unmarked_checks a.sought bs) (record { bound = false }) tt d.first 1 (c.loop-left.left - 1) c.traverse-checked.result)
first_told c bs u d = let s = c.if-rest-eq0.false in let w = c.walk-first.ensures in
    first_says d s w (search rules) {s'' = c.traverse-checked.new.entering} (unmarked_enters _ bs _ (met (first_starts d) s w (search rules)) (unbound (sym c.is_some-in-loop-left.ensures ∙ c.if-is_some-2.false))) (unmarked_told _ _ _ (c.traverse-checked.ensures bs _ tt (first_walked d w) tt) c.if-unmarked.false)

pub returns-in_err-found : goal.returns-in_err-found
returns-in_err-found c =
    let z = err_from_is_err_and c.from_residual.result c.from_residual.ensures.1 in
    rw (z.1, z.2) (λ bs u f. let d = parting_at (goal.at.returns-in_err-found c).Else-is_some bs u f in
    unmarked_alone c.requires.0 _ (first_stops d (rw c.in_err-found.was at (first_told (goal.at.returns-in_err-found c).Else-unmarked bs u d))))

pub returns-then-found : goal.returns-then-found
returns-then-found c = λ bs u f. let d = parting_at (goal.at.returns-then-found c).Else-is_some bs u f in
    unmarked_alone c.requires.0 _ (first_found d (rw c.in_ok-found.was at (first_told (goal.at.returns-then-found c).Else-unmarked bs u d)) c.if-found.true)

pub loop-left-preserved : goal.loop-left-preserved
loop-left-preserved c = λ bs u f. let d = parting_at (goal.at.loop-left-preserved c).Else-is_some bs u f in
    first_clear d (rw c.in_ok-found.was at (first_told (goal.at.loop-left-preserved c).Else-unmarked bs u d)) c.if-found.false
