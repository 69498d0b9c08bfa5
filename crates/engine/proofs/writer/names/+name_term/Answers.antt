use Prim.Native.Nat.{ℕ}
use native.Mathlib.Omega.{arith}
use Rattle.semantics.specs.Answer.{appear}
use Rattle.engine.proofs.NamingLaws.{Naming, naming_low, naming_open, naming_leaf, naming_pair, naming_falls, naming_next}
use Rattle.engine.proofs.writer.names.+name_term.Goals as goal
use Rattle.engine.proofs.writer.names.+name_term.Goals.{At-loop-x}

-- what is named so far, for the term and the names that the caller knows of
now_at : (t : ℕ) (c : At-loop-x t) → (let a = c.args in let p = c.requires in Naming a.program.now a.scratch.now c.loop-x.scratch c.loop-x.at c.loop-x.given (appear p.1 p.0))
now_at t c = let p = c.requires in c.loop-x.invariant.1 p.0 p.1 p.2 p.3

pub follow-requires : goal.follow-requires
follow-requires t c =
    let g = now_at t (goal.at.follow-requires t c).At-loop-x in (g.term, g.here)

pub name_variable-requires : goal.name_variable-requires
name_variable-requires t c =
    let g = now_at t (goal.at.name_variable-requires t c).At-loop-x in (g.here.follows.binds.long, naming_low g c.follow.ensures c.in-Open.is, (g.names, g.named.given))

pub returns-in-Open : goal.returns-in-Open
returns-in-Open t c = λ u names h g. naming_open (c.loop-x.invariant.1 u names h g) c.follow.ensures c.in-Open.is c.name_variable.ensures

pub returns-in-Atom : goal.returns-in-Atom
returns-in-Atom t c = λ u names h g. naming_leaf (c.loop-x.invariant.1 u names h g) c.follow.ensures c.in-Atom.is

pub name_term-given-requires : goal.name_term-given-requires
name_term-given-requires t c =
    let g = now_at t (goal.at.name_term-given-requires t c).At-loop-x in let q = naming_pair g c.follow.ensures c.in-Pair.is in (omega (arith, c.loop-x.invariant.0, c.decreases, q.first_falls), (q.first, g.names, q.first_here, g.named.given))

pub loop-x-smaller : goal.loop-x-smaller
loop-x-smaller t c =
    naming_falls (now_at t (goal.at.loop-x-smaller t c).At-loop-x) c.follow.ensures c.in-Pair.is c.name_term-given.ensures

pub loop-x-preserved : goal.loop-x-preserved
loop-x-preserved t c =
    (omega (arith, c.loop-x.invariant.0, naming_falls (now_at t (goal.at.loop-x-preserved t c).At-loop-x) c.follow.ensures c.in-Pair.is c.name_term-given.ensures), λ u names h g. naming_next (c.loop-x.invariant.1 u names h g) c.follow.ensures c.in-Pair.is c.name_term-given.ensures)
