use Prim.Native.Nat.{ℕ}
use native.Mathlib.Omega.{arith}
use Rattle.engine.proofs.LinesLaws.{AbsentFor, absent_start, absent_as, absent_add, absent_leaf, absent_pair, absent_first, absent_next}
use Rattle.engine.proofs.writer.lines.+add_absent.Goals as goal
use Rattle.engine.proofs.writer.lines.+add_absent.Goals.{At-loop-x}

-- where the loop is, for what the caller knows
now_at : (t : ℕ) (c : At-loop-x t) → (let a = c.args in AbsentFor a.program.now a.scratch.now a.output.now c.loop-x.output a.tag a.term c.loop-x.from a.first a.end a.at c.loop-x.place c.requires)
now_at t c = c.loop-x.invariant.1 c.requires

pub loop-x-init : goal.loop-x-init
loop-x-init t c = (omega arith, λ g. absent_start g)

pub follow-requires : goal.follow-requires
follow-requires t c =
    let g = (now_at t (goal.at.follow-requires t c).At-loop-x).rest in (g.term, g.here)

pub add_line-requires : goal.add_line-requires
add_line-requires t c =
    let h = now_at t (goal.at.add_line-requires t c).At-loop-x in (h.rest.writing, (_, absent_as h c.follow.ensures c.in-Open.is))

pub returns-in-Open : goal.returns-in-Open
returns-in-Open t c = λ g. absent_add (c.loop-x.invariant.1 g) c.follow.ensures c.in-Open.is c.add_line.ensures

pub returns-in-Atom : goal.returns-in-Atom
returns-in-Atom t c = λ g. absent_leaf (c.loop-x.invariant.1 g) c.follow.ensures c.in-Atom.is

pub add_absent-place-requires : goal.add_absent-place-requires
add_absent-place-requires t c =
    let h = now_at t (goal.at.add_absent-place-requires t c).At-loop-x in let p = absent_pair h c.follow.ensures c.in-Pair.is in
    (omega (arith, c.loop-x.invariant.0, c.decreases, p.first_falls), absent_first h p)

pub loop-x-smaller : goal.loop-x-smaller
loop-x-smaller t c =
    let p = absent_pair (now_at t (goal.at.loop-x-smaller t c).At-loop-x) c.follow.ensures c.in-Pair.is in p.second_falls p.second_here

pub loop-x-preserved : goal.loop-x-preserved
loop-x-preserved t c =
    (let p = absent_pair (now_at t (goal.at.loop-x-preserved t c).At-loop-x) c.follow.ensures c.in-Pair.is in omega (arith, c.loop-x.invariant.0, p.second_falls p.second_here), λ g. let h = c.loop-x.invariant.1 g in absent_next h (absent_pair h c.follow.ensures c.in-Pair.is) c.add_absent-place.ensures)
