-- A scan enters the pair.
use Rattle.engine.proofs.ScanSteps.{scan_enters}
use Rattle.engine.proofs.terms.scan.EveryEntering.enters.Goals as goal

pub returns : goal.returns
returns c = λ sought bs u m es h. scan_enters c.args.self.now sought bs u m
