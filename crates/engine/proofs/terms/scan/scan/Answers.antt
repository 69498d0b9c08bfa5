-- `scan` is the traversal that enters each pair.
use Rattle.std.proofs.Common.{rules}
use Rattle.std.proofs.lemmas.Result.{err_from_is_err_and}
use Rattle.engine.specs.Entering.{scans}
use Rattle.engine.proofs.ScanSteps.{scan_alone, scan_stopped}
use Rattle.engine.proofs.TraverseSteps.{scanning_start, scan_out, scan_leaf}
use Rattle.engine.proofs.terms.scan.scan.Goals as goal

pub returns-then-steps-eq0 : goal.returns-then-steps-eq0
returns-then-steps-eq0 c = λ bs t f. scan_alone (record {}) _ bs t _ _ (scan_out {T = scans c.args.sought bs} {n = 0} (scanning_start {es = tt} f tt) c.if-steps-eq0.true)

pub walk-node-requires : goal.walk-node-requires
walk-node-requires c = c.requires

pub returns-then-ne : goal.returns-then-ne
returns-then-ne c = λ bs t f. scan_alone (record {}) _ bs t _ _ (scan_leaf {T = scans c.args.sought bs} {n = 0} (scanning_start {es = tt} f tt) c.if-steps-eq0.false c.walk-node.ensures (search rules) c.leaf_word.ensures)

pub traverse-requires : goal.traverse-requires
traverse-requires c = let p = c.requires in (p.0, p.1, tt, p.2, tt)

pub returns-in_err-found : goal.returns-in_err-found
returns-in_err-found c = let p = err_from_is_err_and c.from_residual.result c.from_residual.ensures.1 in
    rw (p.1, p.2) (λ bs t f. scan_stopped _ _ bs t _ _ (c.in_err-found.ensures bs t tt f tt))

pub returns : goal.returns
returns c = λ bs t f. scan_alone _ _ bs t _ _ (c.in_ok-found.ensures bs t tt f tt)
