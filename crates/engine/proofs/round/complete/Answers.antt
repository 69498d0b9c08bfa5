-- `complete` takes the trail back to nothing.
use mathlib.Core.Path.{refl}
use mathlib.Core.List.{[]}
use Rattle.engine.proofs.StartLaws.{marked_whole}
use Rattle.engine.proofs.RoundLaws.{undone_clean}
use Rattle.engine.proofs.round.complete.Goals as goal

pub undo-requires : goal.undo-requires
undo-requires c = let q = c.requires in (q.1, q.2.bindings, [], marked_whole q.4)

pub returns : goal.returns
returns c = (refl, λ P ws p cs h. undone_clean h (c.undo.ensures ws p.bindings [] (marked_whole h)))
