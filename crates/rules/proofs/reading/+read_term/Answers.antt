-- `read_term` reads a term as `read_term` says. Recursion falls by the words left, and the loop goes from second part to second part.
use mathlib.Core.Path.{refl}
use native.Mathlib.Omega.{arith}
use Rattle.std.proofs.Common.{ap, rules}
use Rattle.std.proofs.Common.{rules, ◌<◌, ◌≤◌}
use Rattle.word.specs.Kind.{kind_number}
use Rattle.word.specs.declared.kind.Kind.TheVariants.{Pair}
use Rattle.word.proofs.KindLaws.{kind_number_other}
use Rattle.rules.proofs.Readers.{passed_on, term_missing, term_kind, term_leaf, term_overrun, term_first_stops, term_second}
use Rattle.rules.proofs.reading.+read_term.Goals as goal

pub returns-then-end-at : goal.returns-then-end-at
returns-then-end-at t c = rw c.at.ensures (c.loop-at.invariant.whole _ (term_missing _ _ _ _ c.if-end-at.true))

pub returns-then-lt : goal.returns-then-lt
returns-then-lt t c =
    let b : 4 < kind_number c.part_at-part.result.kind = search rules in
    rw c.at-then-lt.ensures (c.loop-at.invariant.whole _ (term_kind _ _ _ _ _ _ c.if-end-at.false c.part_at-part.ensures b))

pub returns-then-ne : goal.returns-then-ne
returns-then-ne t c =
    let b : kind_number c.part_at-part.result.kind ≤ 4 = search rules in
    c.loop-at.invariant.whole _
    (term_leaf _ _ _ _ _ _ c.if-end-at.false c.part_at-part.ensures _ b (kind_number_other _ Pair (search rules)) c.read_leaf.ensures)

pub returns-then-end-at-2 : goal.returns-then-end-at-2
returns-then-end-at-2 t c = rw c.at-then-end-at-2.ensures (c.loop-at.invariant.whole _
    (term_overrun _ _ _ _ _ _ c.if-end-at.false c.part_at-part.ensures (ap kind_number {y = Pair} (search rules)) c.if-end-at-2.true))

pub returns-in_err-read_term : goal.returns-in_err-read_term
returns-in_err-read_term t c = rw (passed_on _ _ c.from_residual.ensures.1) (c.loop-at.invariant.whole _
    (term_first_stops _ _ _ _ _ _ c.if-end-at.false c.part_at-part.ensures (ap kind_number {y = Pair} (search rules)) c.if-end-at-2.false _ _ _
    c.in_err-read_term.ensures refl))

pub returns-in_err-fill : goal.returns-in_err-fill
returns-in_err-fill t c = rw (passed_on _ _ c.from_residual-in_err-fill.ensures.1) (c.loop-at.invariant.whole _
    (term_first_stops _ _ _ _ _ _ c.if-end-at.false c.part_at-part.ensures (ap kind_number {y = Pair} (search rules)) c.if-end-at-2.false _ _ _
    c.in_ok-read_term.ensures c.in_err-fill.ensures))

pub loop-at-preserved : goal.loop-at-preserved
loop-at-preserved t c = record {
  forward = omega (arith, c.loop-at.invariant.forward);
  whole = λ o h. c.loop-at.invariant.whole o
      (term_second _ _ _ _ _ _ c.if-end-at.false c.part_at-part.ensures (ap kind_number {y = Pair} (search rules)) c.if-end-at-2.false _ _
      c.in_ok-read_term.ensures c.in_ok-fill.ensures o h);
}
