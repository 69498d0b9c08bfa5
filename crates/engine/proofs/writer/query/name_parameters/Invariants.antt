-- `name_parameters` names the variables of all query terms.
use mathlib.Core.List.{[]}
use Rattle.semantics.specs.Substitution.{Substitution}
use Rattle.engine.specs.Walk.{Binds}
use Rattle.engine.specs.Names.{Names}
use Rattle.engine.proofs.QueryLaws.{NamingAll}
use Rattle.engine.proofs.writer.query.name_parameters.Given as goal

abbrev pub invariant-loop-x : goal.invariant-loop-x
invariant-loop-x l = (bs : Substitution) → Binds l.program l.initial.scratch bs → Names l.initial.scratch 0 [] → NamingAll l.program l.initial.scratch l.scratch bs l.count l.x l.top
