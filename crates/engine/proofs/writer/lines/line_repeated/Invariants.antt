use Prim.Native.Nat.{ℕ, ◌-◌}
use mathlib.Core.List.{List}
use mathlib.Core.Path.{◌≡◌}
use Rattle.semantics.specs.Answer.{Line, line_in, line_words, any_same}
use Rattle.engine.specs.Term.{Puts}
use Rattle.engine.specs.Line.{LineAs}
use Rattle.engine.specs.Lines.{Rows}
use Rattle.engine.proofs.RowLaws.{Row}
use Rattle.engine.proofs.writer.lines.line_repeated.Given as goal

abbrev pub invariant-loop-place : goal.invariant-loop-place
invariant-loop-place live = (live.output ≡ live.initial.output) × ((ws : List (List ℕ)) (l : Line) (names : List ℕ) → Rows live.initial.output live.first live.at ws → LineAs live.program live.scratch live.line l → Puts live.scratch live.initial.output live.first live.at names (line_in names l)
    → Row live.output live.place live.at (line_words names l) (any_same (line_words names l) ws))

abbrev pub decreases-loop-place : goal.decreases-loop-place
decreases-loop-place l = l.at - l.place
