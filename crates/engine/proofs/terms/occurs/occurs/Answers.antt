-- `occurs` looks at a leaf by itself.
use mathlib.Core.Bool.{false}
use Rattle.std.proofs.Common.{rules}
use Rattle.engine.specs.Entering.{unmarked_checks}
use Rattle.engine.proofs.OccursSteps.{unmarked_alone}
use Rattle.engine.proofs.TraverseSteps.{scanning_start, scan_out, scan_leaf}
use Rattle.engine.proofs.terms.occurs.occurs.Goals as goal

pub returns-then-steps-eq0 : goal.returns-then-steps-eq0
returns-then-steps-eq0 c = λ bs t f. unmarked_alone c.requires.0 _ (scan_out {T = unmarked_checks c.args.sought bs} {s' = record { bound = false }} {n = 0} (scanning_start {es = tt} f tt) c.if-steps-eq0.true)

pub walk-node-requires : goal.walk-node-requires
walk-node-requires c = c.requires.1

pub returns-then-ne : goal.returns-then-ne
returns-then-ne c = λ bs t f. unmarked_alone c.requires.0 _ (scan_leaf {T = unmarked_checks c.args.sought bs} {s' = record { bound = false }} {n = 0} (scanning_start {es = tt} f tt) c.if-steps-eq0.false c.walk-node.ensures (search rules) c.leaf_word.ensures)
