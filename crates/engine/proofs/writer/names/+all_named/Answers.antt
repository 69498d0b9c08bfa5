use Prim.Native.Nat.{ℕ}
use native.Mathlib.Omega.{arith}
use Rattle.semantics.specs.Answer.{vars_in}
use Rattle.engine.proofs.NamingLaws.{Asking, asking_low, asking_open, asking_leaf, asking_pair, asking_not_first, asking_next}
use Rattle.engine.proofs.writer.names.+all_named.Goals as goal
use Rattle.engine.proofs.writer.names.+all_named.Goals.{At-loop-x}

-- what is left to ask, for the term and the names that the caller knows of
now_at : (t : ℕ) (c : At-loop-x t) → (let a = c.args in let p = c.requires in Asking a.program.now a.scratch.now c.loop-x.at p.1 (vars_in p.1 p.0))
now_at t c = let p = c.requires in c.loop-x.invariant.1 p.0 p.1 p.2 p.3

pub follow-requires : goal.follow-requires
follow-requires t c =
    let g = now_at t (goal.at.follow-requires t c).At-loop-x in (g.term, g.here)

pub has_name-requires : goal.has_name-requires
has_name-requires t c =
    let g = now_at t (goal.at.has_name-requires t c).At-loop-x in (g.here.follows.binds.long, asking_low g c.follow.ensures c.in-Open.is)

pub returns-in-Open : goal.returns-in-Open
returns-in-Open t c = λ u names h g. asking_open (c.loop-x.invariant.1 u names h g) c.follow.ensures c.in-Open.is (c.has_name.ensures names g)

pub returns-in-Atom : goal.returns-in-Atom
returns-in-Atom t c = λ u names h g. asking_leaf (c.loop-x.invariant.1 u names h g) c.follow.ensures c.in-Atom.is

pub all_named-requires : goal.all_named-requires
all_named-requires t c =
    let p = c.requires in let q = asking_pair (now_at t (goal.at.all_named-requires t c).At-loop-x) c.follow.ensures c.in-Pair.is in (omega (arith, c.loop-x.invariant.0, c.decreases, q.first_falls), (q.first, p.1, q.first_here, p.3))

pub returns-then-not-all_named : goal.returns-then-not-all_named
returns-then-not-all_named t c = λ u names h g. asking_not_first (c.loop-x.invariant.1 u names h g) c.follow.ensures c.in-Pair.is g c.all_named.ensures c.if-not-all_named.true

pub loop-x-smaller : goal.loop-x-smaller
loop-x-smaller t c =
    let q = asking_pair (now_at t (goal.at.loop-x-smaller t c).At-loop-x) c.follow.ensures c.in-Pair.is in q.second_falls q.second_here

pub loop-x-preserved : goal.loop-x-preserved
loop-x-preserved t c =
    (let q = asking_pair (now_at t (goal.at.loop-x-preserved t c).At-loop-x) c.follow.ensures c.in-Pair.is in omega (arith, c.loop-x.invariant.0, q.second_falls q.second_here), λ u names h g. asking_next (c.loop-x.invariant.1 u names h g) c.follow.ensures c.in-Pair.is g c.all_named.ensures c.if-not-all_named.false)
