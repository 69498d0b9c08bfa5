use mathlib.Core.Path.{sym, ◌∙◌}
use Rattle.engine.proofs.AddLineLaws.{page_rows, earlier_puts, behind_puts, page_full, page_dropped, page_repeated, page_next}
use Rattle.engine.proofs.writer.lines.add_line.Goals as goal

pub returns-then-end-at : goal.returns-then-end-at
returns-then-end-at c = λ g l i. page_full g l c.if-end-at.true

pub returns-then-not-line_named : goal.returns-then-not-line_named
returns-then-not-line_named c = λ g l i. page_dropped g l (c.line_named.ensures l g.names i g.given) c.if-not-line_named.true

pub line_repeated-requires : goal.line_repeated-requires
line_repeated-requires c = let q = c.requires in let g = q.0 in let e = c.if-end-at.false in let f = c.line_named.ensures q.1.0 g.names q.1.1 g.given in
    (g.lines, q.1.0, g.names, page_rows g e, q.1.1, earlier_puts g e (sym f ∙ c.if-not-line_named.false))

pub returns-then-line_repeated : goal.returns-then-line_repeated
returns-then-line_repeated c = λ g l i. let e = c.if-end-at.false in let f = c.line_named.ensures l g.names i g.given in let t = c.if-not-line_named.false in
    let v = c.line_repeated.ensures.1 g.lines l g.names (page_rows g e) i (earlier_puts g e (sym f ∙ t)) in page_repeated g l f t c.line_repeated.ensures.0 v c.if-line_repeated.true

pub returns : goal.returns
returns c = rw c.unwrap_or.ensures (λ g l i. let e = c.if-end-at.false in let f = c.line_named.ensures l g.names i g.given in let t = c.if-not-line_named.false in
    let u = c.line_repeated.ensures in let v = u.1 g.lines l g.names (page_rows g e) i (earlier_puts g e (sym f ∙ t)) in
    page_next g l f t u.0 v e c.if-line_repeated.false (c.put_line.ensures l g.names i (behind_puts g e (sym f ∙ t) u.0)))
