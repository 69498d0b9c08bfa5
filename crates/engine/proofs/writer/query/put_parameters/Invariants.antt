-- `put_parameters` puts all query terms.
use Prim.Native.Nat.{ℕ}
use mathlib.Core.List.{List}
use Rattle.semantics.specs.Substitution.{Substitution}
use Rattle.engine.specs.Query.{Query}
use Rattle.engine.proofs.QueryLaws.{PuttingAll}
use Rattle.engine.proofs.writer.query.put_parameters.Given as goal

abbrev pub invariant-loop-x : goal.invariant-loop-x
invariant-loop-x l = (bs : Substitution) (names : List ℕ) → Query l.program l.scratch l.count bs names → PuttingAll l.initial.output l.output bs names l.count l.start l.end l.x l.at
