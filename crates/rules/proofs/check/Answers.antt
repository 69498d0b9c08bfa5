-- `check` says of every list of words what `read` says of it.
use mathlib.Core.Path.{sym, ap, ◌∙◌}
use mathlib.Core.Logic.{inl, inr}
use Rattle.std.proofs.Common.{rules}
use Rattle.rules.specs.Verdict.{said}
use Rattle.rules.proofs.Checked.{count_low, count_high, structure_stops, structure_ends}
use Rattle.rules.proofs.check.Goals as goal

pub returns-then-is_empty : goal.returns-then-is_empty
returns-then-is_empty c = rw c.at.ensures (elim c.then-is_empty.either [
  | inl e ↦ sym (ap said (count_low _ (search rules)))
  | inr h ↦ sym (ap said (count_high _ h.1))
])

pub returns-in-Err : goal.returns-in-Err
returns-in-Err c = sym (ap said (structure_stops _ (search rules) c.if-program-gt-MOST_WORDS.false _ _ (rw c.in-Err.is at c.read_relations.ensures)))

pub check_calls-requires : goal.check_calls-requires
check_calls-requires c = let q = structure_ends _ (search rules) c.if-program-gt-MOST_WORDS.false _ (rw c.in-Ok.is at c.read_relations.ensures) in (q.0, q.1)

pub returns-in-Ok : goal.returns-in-Ok
returns-in-Ok c = let q = structure_ends _ (search rules) c.if-program-gt-MOST_WORDS.false _ (rw c.in-Ok.is at c.read_relations.ensures) in
    c.check_calls.ensures q.0 q.1 ∙ sym (ap said q.2)
