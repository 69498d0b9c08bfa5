-- `unify` takes pair after pair, as the definition does, and falls by the steps left.
use Prim.Native.Nat.{◌≤◌}
use Rattle.rules.specs.Syntax.{Term}
use Rattle.semantics.specs.Substitution.{Substitution}
use Rattle.engine.specs.Unify.{TwoTerms}
use Rattle.engine.proofs.UnifyLoop.{Unifying}
use Rattle.engine.proofs.terms.unify.unify.Given as goal

abbrev pub invariant-loop-rest : goal.invariant-loop-rest
invariant-loop-rest l = record {
  few : l.waiting ≤ 512;
  goes_on : (bs : Substitution) (u v : Term) → TwoTerms l.program l.initial.scratch bs l.first u l.second v l.mark → Unifying l.program l.initial.scratch bs u v l.steps l.scratch l.a l.b l.waiting l.trail l.rest;
}

abbrev pub decreases-loop-rest : goal.decreases-loop-rest
decreases-loop-rest l = l.rest
