-- `list_answer` keeps an answer that was written, or leaves it out as a repeat.
use Rattle.engine.proofs.ListLaws.{comparing, is_repeat, is_new}
use Rattle.engine.proofs.round.list_answer.Goals as goal

pub repeated-requires : goal.repeated-requires
repeated-requires c = let q = c.requires in (q.3.few, (_, q.2, comparing q.3 c.min-end.ensures))

pub returns-in-Repeated : goal.returns-in-Repeated
returns-in-Repeated c = λ o k l a ws g.
    is_repeat g c.min-end.ensures k l c.repeated.auto.output (c.repeated.ensures _ ws (comparing g c.min-end.ensures)) c.in-Repeated.is

pub returns-in-New : goal.returns-in-New
returns-in-New c = λ o k l a ws g.
    is_new g c.min-end.ensures k l c.repeated.auto.output (c.repeated.ensures _ ws (comparing g c.min-end.ensures)) c.in-New.is
