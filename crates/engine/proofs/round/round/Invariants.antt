-- `round` goes from answer to answer: a search from the state reached ends as the round does.
use mathlib.Core.Path.{◌≡◌}
use lib.ListN.{length}
use Rattle.rules.specs.Syntax.{Program, Relation}
use Rattle.semantics.specs.Round as definition
use Rattle.engine.specs.Rounds.{Starting}
use Rattle.engine.proofs.RoundLaws.{Rounding}
use Rattle.engine.proofs.round.round.Given as goal

abbrev pub invariant-loop-searched : goal.invariant-loop-searched
invariant-loop-searched l =
    (length l.scratch ≡ length l.initial.scratch) × (length l.output ≡ length l.initial.output)
    × ((P : Program) (R : Relation) (a : definition.Tally) → Starting l.program l.initial.scratch l.initial.output P l.query R l.number (record { left = l.initial.state.steps; filled = l.initial.filled }) a
    → Rounding l.program P R l.number l.params a l.scratch l.output l.state l.goal l.filled l.cuts)

abbrev pub decreases-loop-searched : goal.decreases-loop-searched
decreases-loop-searched l = l.state.steps
