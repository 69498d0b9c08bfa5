-- `check_call` looks a call's relation up and compares the arguments with its parameters.
use mathlib.Core.Path.{sym, ◌∙◌}
use Rattle.rules.proofs.Pass.{item_inside, call_inside, call_terms, call_params, call_missing, call_wrong, call_right}
use Rattle.rules.proofs.calls.check_call.Goals as goal

pub part_at-requires : goal.part_at-requires
part_at-requires c = item_inside _ _ _ _ _ c.requires.5

pub part_at-wanted-requires : goal.part_at-wanted-requires
part_at-wanted-requires c = call_inside _ _ _ _ _ _ c.part_at.ensures _ _ _ c.requires.5

pub count_terms-requires : goal.count_terms-requires
count_terms-requires c = (c.requires.3, call_terms _ _ _ _ _ _ c.part_at.ensures _ _ _ c.requires.5)

pub returns-in_default : goal.returns-in_default
returns-in_default c = rw c.at.ensures (λ P vars n ts is h. call_missing _ P _ _ _ is c.part_at.ensures vars n ts h
    (call_params _ P _ _ _ is c.part_at.ensures vars n ts h _ _ c.part_at-wanted.ensures _ (c.in_default.ensures P h.whole)))

pub returns-then-count_terms-params : goal.returns-then-count_terms-params
returns-then-count_terms-params c = rw c.at-then-count_terms-params.ensures (λ P vars n ts is h. call_wrong _ P _ _ _ is c.part_at.ensures vars n ts h _
    (call_params _ P _ _ _ is c.part_at.ensures vars n ts h _ _ c.part_at-wanted.ensures _ (c.in-Some.ensures P h.whole))
    (λ y. c.if-count_terms-params.true (c.count_terms.ensures ts (call_terms _ P _ _ _ is c.part_at.ensures vars n ts h) ∙ y)))

pub returns : goal.returns
returns c = λ P vars n ts is h. call_right _ P _ _ _ is c.part_at.ensures vars n ts h _
    (call_params _ P _ _ _ is c.part_at.ensures vars n ts h _ _ c.part_at-wanted.ensures _ (c.in-Some.ensures P h.whole))
    (sym (c.count_terms.ensures ts (call_terms _ P _ _ _ is c.part_at.ensures vars n ts h)) ∙ c.if-count_terms-params.false)
