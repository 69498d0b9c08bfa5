-- `read_leaf` reads a variable or an atom as `read_leaf` says.
use mathlib.Core.Path.{ap}
use borrow.Author.Tests.{le-ltb, lt-ltb, eq-eqb, ne_eqb}
use Rattle.word.specs.declared.kind.Kind.TheVariants.{Variable, Empty}
use Rattle.word.specs.Kind.{kind_number}
use Rattle.word.proofs.KindLaws.{kind_number_once}
use Rattle.rules.proofs.Readers.{leaf_variable, leaf_empty, leaf_atom}
use Rattle.rules.proofs.reading.read_leaf.Goals as goal
use Rattle.rules.proofs.reading.read_leaf.Goals.{in_default-via-in-Variable+else-vars-part, in_default-via-in-Empty+else-part-ne0, in_default-via-in_default}

pub returns-in-Variable : goal.returns-in-Variable
returns-in-Variable c = leaf_variable _ _ _ _ _ (ap kind_number c.in-Variable.is) (rw c.at.ensures (simp (le-ltb _ _ c.if-vars-part.true)))

pub returns-in-Empty : goal.returns-in-Empty
returns-in-Empty c = leaf_empty _ _ _ _ _ (ap kind_number c.in-Empty.is) (rw c.at-in-Empty.ensures (simp (ne_eqb _ _ c.if-part-ne0.true)))

pub returns-in_default : goal.returns-in_default
returns-in_default c = elim c.in_default.branch [
  | in_default-via-in-Variable+else-vars-part w ↦ leaf_variable _ _ _ _ _ (ap kind_number w.in-Variable.is) (simp (lt-ltb _ _ w.if-vars-part.false))
  | in_default-via-in-Empty+else-part-ne0 w ↦ leaf_empty _ _ _ _ _ (ap kind_number w.in-Empty.is) (simp (eq-eqb _ _ w.if-part-ne0.false))
  | in_default-via-in_default w ↦ leaf_atom _ _ _ _ c.requires.0 (λ e. w.in_default.not-Variable (kind_number_once _ Variable e)) (λ e. w.in_default.not-Empty (kind_number_once _ Empty e))
]
