-- Every row holds: one computed test.
use mathlib.Core.Path.{◌≡◌, refl}
use mathlib.Core.List.{map}
use Rattle.rules.specs.Reading.{read_word, read_leaf, read_term, read_one, read_two, read_terms, read_tag, read_absento, read_call, read_goal, read_goals, read_body, read_variables, read_relation, read_relations}
use Rattle.rules.specs.Written.{term_words, terms_words, goal_words, goals_words}
use Rattle.rules.specs.Calls.{goal_fault, goals_fault, relations_fault}
use Rattle.rules.specs.Accept.{read}
use Rattle.list_text.specs.Listing.{decimal_by, whole_words}
use Rattle.list_text.specs.Rows.{rows}

pub rows_hold : map (λ r. r.text) rows ≡ map (λ r. r.bytes) rows
unfolding decimal_by whole_words read read_word read_leaf read_term read_one read_two read_terms read_tag read_absento read_call read_goal read_goals read_body read_variables read_relation read_relations term_words terms_words goal_words goals_words goal_fault goals_fault relations_fault
rows_hold = refl
