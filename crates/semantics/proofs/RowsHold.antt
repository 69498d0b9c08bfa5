-- The rows: one computed test of all, what it says of every lent output and scratch, and the bounds that no row reaches.
use Prim.Native.Nat.{ℕ, ◌≤◌}
use mathlib.Core.Path.{◌≡◌, refl, ap}
use mathlib.Core.List.{List, [], ◌∷◌, map}
use mathlib.Core.Bool.{false, true}
use lib.ListN.{length}
use Rattle.semantics.proofs.Basics.{each_map}
use borrow.Author.Tests.{le-leb}
use Rattle.rules.specs.Lists.{Each}
use Rattle.rules.specs.Reading.{read_word, read_leaf, read_term, read_one, read_two, read_terms, read_tag, read_absento, read_call, read_goal, read_goals, read_body, read_variables, read_relation, read_relations}
use Rattle.rules.specs.Written.{term_words, terms_words, goal_words, goals_words}
use Rattle.rules.specs.Calls.{goal_fault, goals_fault, relations_fault}
use Rattle.rules.specs.Accept.{read}
use Rattle.rules.specs.Settings.{settings_good, scratch_words}
use Rattle.semantics.specs.Path.{as_written}
use Rattle.semantics.specs.Round.{once}
use Rattle.semantics.specs.Run.{Report, leave, ran, returns_by, run_as_written, usable}
use Rattle.semantics.specs.Rows.{Row, rows}

abbrev pub computed : Row → Report
computed r = returns_by (once as_written) r.words r.round_limit r.step_limit r.output scratch_words

-- the one computed test
pub rows_hold : map computed rows ≡ map (λ r. ran r.expected) rows
unfolding read read_word read_leaf read_term read_one read_two read_terms read_tag read_absento read_call read_goal read_goals read_body read_variables read_relation read_relations term_words terms_words goal_words goals_words goal_fault goals_fault relations_fault
rows_hold = refl

-- what a row says: a run with these settings, of any lent output of that length and any scratch that is long enough, leaves just this
abbrev pub RowRuns : Row → Type 0
RowRuns r = (output scratch : List ℕ) → length output ≡ r.output → scratch_words ≤ length scratch → run_as_written r.words r.round_limit r.step_limit output scratch ≡ leave (ran r.expected) output scratch

row_runs : (r : Row) → computed r ≡ ran r.expected → RowRuns r
row_runs r h output scratch e l =
    let q : returns_by (once as_written) r.words r.round_limit r.step_limit (length output) (length scratch) ≡ ran r.expected = rw (e, le-leb scratch_words (length scratch) l) h in
    ap (λ (x : Report). leave x output scratch) q

same_all : {A B : Type 0} (f g : A → B) (xs : List A) → map f xs ≡ map g xs → Each (λ x. f x ≡ g x) xs
same_all f g [] e = tt
same_all f g (x ∷ xs) e = (cc, same_all f g xs (cc))

-- the one law: every row
pub rows_run : Each RowRuns rows
rows_run = each_map row_runs rows (same_all computed (λ (r : Row). ran r.expected) rows rows_hold)

-- "round limit 0 to 255", "12,288 scratch words" (document 02, Note 12), and "at most the first 268,435,455 words" of the output
pub settings_held : settings_good 255 12288 ∷ settings_good 256 12288 ∷ settings_good 255 12287 ∷ [] ≡ true ∷ false ∷ false ∷ []
settings_held = refl

pub usable_held : usable 4096 ∷ usable 268435455 ∷ usable 268435456 ∷ [] ≡ 4096 ∷ 268435455 ∷ 268435455 ∷ []
usable_held = refl
