use Prim.Native.Nat.{ℕ}
use native.Mathlib.Omega.{arith}
use Rattle.rules.specs.Written.{term_words}
use Rattle.semantics.specs.Answer.{reify}
use Rattle.engine.proofs.TermLaws.{laid_of, laid_room, Putting, putting_start, putting_full, putting_low, puts_open, putting_open, putting_leaf, putting_pair, puts_first, putting_missed, putting_no, putting_next}
use Rattle.engine.proofs.writer.term.+put_term.Goals as goal
use Rattle.engine.proofs.writer.term.+put_term.Goals.{At-loop-at}

-- what is put so far, for the term and the names that the caller knows of
now_at : (t : ℕ) (c : At-loop-at t) → (let a = c.args in let q = c.requires in Putting a.program.now a.scratch.now a.output.now c.loop-at.output c.loop-at.from a.start c.loop-at.at a.end a.write q.1 (term_words (reify q.1 q.0)))
now_at t c = let q = c.requires in c.loop-at.invariant.1 q.0 q.1 q.2 q.3

pub loop-at-init : goal.loop-at-init
loop-at-init t c = (omega arith, λ u names h q. putting_start _ u h q)

pub put_variable-requires : goal.put_variable-requires
put_variable-requires t c =
    let g = now_at t (goal.at.put_variable-requires t c).At-loop-at in (putting_low g c.follow.ensures c.in-Open.is, (c.requires.1, puts_open g c.follow.ensures c.requires.3 c.in-Open.is))

pub returns-in-Open : goal.returns-in-Open
returns-in-Open t c = λ u names h q. let g = c.loop-at.invariant.1 u names h q in
    putting_open g c.follow.ensures c.in-Open.is (c.put_variable.ensures names (puts_open g c.follow.ensures q c.in-Open.is))

pub returns-in-Atom : goal.returns-in-Atom
returns-in-Atom t c = λ u names h q. let g = c.loop-at.invariant.1 u names h q in putting_leaf g c.follow.ensures c.in-Atom.is (c.put_one.ensures g.laid.fits)

pub returns-then-end-at : goal.returns-then-end-at
returns-then-end-at t c = λ u names h q. putting_full (c.loop-at.invariant.1 u names h q) c.if-end-at.true

pub put_term-requires : goal.put_term-requires
put_term-requires t c =
    let g = now_at t (goal.at.put_term-requires t c).At-loop-at in let p = putting_pair g c.follow.ensures c.in-Pair.is in let q = c.requires in
    (omega (arith, c.loop-at.invariant.0, c.decreases, p.first_falls), (p.first, q.1, p.first_here, puts_first g p q.3 c.if-end-at.false))

pub returns-in_err-next-in-Pair : goal.returns-in_err-next-in-Pair
returns-in_err-next-in-Pair t c = rw c.from_residual.ensures (λ u names h q.
    let g = c.loop-at.invariant.1 u names h q in let p = putting_pair g c.follow.ensures c.in-Pair.is in
    putting_missed g p (c.put_term.ensures p.first names p.first_here (puts_first g p q c.if-end-at.false)) c.in_err-next-in-Pair.was)

pub put_head-requires : goal.put_head-requires
put_head-requires t c =
    let g = now_at t (goal.at.put_head-requires t c).At-loop-at in let p = putting_pair g c.follow.ensures c.in-Pair.is in let q = puts_first g p c.requires.3 c.if-end-at.false in
    let d = laid_of (c.put_term.ensures p.first c.requires.1 p.first_here q) c.in_ok-next-in-Pair.was in
    (omega (arith, d.is), laid_room q.room d)

pub returns-in_err-at-in-Pair : goal.returns-in_err-at-in-Pair
returns-in_err-at-in-Pair t c = rw c.from_residual-in_err-at-in-Pair.ensures (λ u names h q.
    let g = c.loop-at.invariant.1 u names h q in let p = putting_pair g c.follow.ensures c.in-Pair.is in
    let d = laid_of (c.put_term.ensures p.first names p.first_here (puts_first g p q c.if-end-at.false)) c.in_ok-next-in-Pair.was in
    putting_no g p (c.put_head.ensures _ _ _ d) c.in_err-at-in-Pair.was)

pub loop-at-smaller : goal.loop-at-smaller
loop-at-smaller t c =
    let g = now_at t (goal.at.loop-at-smaller t c).At-loop-at in let p = putting_pair g c.follow.ensures c.in-Pair.is in p.second_falls p.second_here

pub loop-at-preserved : goal.loop-at-preserved
loop-at-preserved t c = (
  let g = now_at t (goal.at.loop-at-preserved t c).At-loop-at in let p = putting_pair g c.follow.ensures c.in-Pair.is in omega (arith, c.loop-at.invariant.0, p.second_falls p.second_here),
  λ u names h q. let g = c.loop-at.invariant.1 u names h q in let p = putting_pair g c.follow.ensures c.in-Pair.is in
      let d = laid_of (c.put_term.ensures p.first names p.first_here (puts_first g p q c.if-end-at.false)) c.in_ok-next-in-Pair.was in
      putting_next g p (c.put_head.ensures _ _ _ d) c.in_ok-at-in-Pair.was,
)
