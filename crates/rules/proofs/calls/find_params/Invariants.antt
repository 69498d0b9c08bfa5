-- `find_params` goes from relation to relation to the wanted one.
use Prim.Native.Nat.{◌-◌}
use Rattle.rules.specs.Syntax.{Program}
use Rattle.rules.specs.Inner.{RelationsAt}
use Rattle.rules.proofs.Pass.{Seeking}
use Rattle.rules.proofs.calls.find_params.Given as goal

abbrev pub invariant-loop : goal.invariant-loop
invariant-loop l = (P : Program) → RelationsAt l.program 0 P → Seeking l.program P l.wanted l.at (l.wanted - l.counter)
