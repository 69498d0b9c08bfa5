use native.Mathlib.Omega.{arith}
use Rattle.engine.proofs.NameLaws.{names_top, named_already, named_now}
use Rattle.engine.proofs.writer.names.name_variable.Goals as goal

pub returns-then-scratch-at-ne0 : goal.returns-then-scratch-at-ne0
returns-then-scratch-at-ne0 c = λ names h. named_already h _ c.requires.1 c.if-scratch-at-ne0.true

pub overflow_add-scratch : goal.overflow_add-scratch
overflow_add-scratch c = omega (arith, names_top c.requires.2.1)

pub returns : goal.returns
returns c = λ names h. named_now h _ c.requires.1 c.requires.0 c.if-scratch-at-ne0.false
