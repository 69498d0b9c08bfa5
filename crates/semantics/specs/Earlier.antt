-- Rules as they were before a note of document 02 changed them; all else is as it is now. Theorems that say what stayed speak of them, and `ListedOnce` (Promise), as Note 2 itself names the old run.
use Rattle.std.specs.Prelude.{◌-◌, suc, zero, ℕ, Bool, ◌&&◌, false, true, List, [], ◌++◌, ◌∷◌, leb, ltb, length, replicate}
use Rattle.rules.specs.Accept.{admit}
use Rattle.rules.specs.Reading.{choose}
use Rattle.rules.specs.Syntax.{Program, Relation, Term, atom, pair, var}
use Rattle.semantics.specs.Path.{Passing, as_written}
use Rattle.semantics.specs.Round.{Mode, Result, once, rounds_by}
use Rattle.semantics.specs.Run.{Report, Run, page, ran, refusal, report_read_by}
use Rattle.semantics.specs.Steps.{Outcome, at_bound, done, no_steps, stop, waiting}
use Rattle.semantics.specs.Substitution.{Substitution, walk}
use Rattle.semantics.specs.Unify.{is_var, scan_next}

-- Before Note 12: "scratch at least 16,384 words"
abbrev pub scratch_words_before_12 : ℕ
scratch_words_before_12 = 16384

abbrev pub settings_good_before_12 : ℕ → ℕ → Bool
settings_good_before_12 rounds scratch = leb rounds 255 && leb scratch_words_before_12 scratch

-- "Afterwards scratch is all 0", to its end
abbrev pub leave_before_12 : Report → List ℕ → List ℕ → Run
leave_before_12 (refusal number place) output scratch = record { report = refusal number place; output = output; scratch = scratch }
leave_before_12 (ran r) output scratch = record { report = ran r; output = page r.answers ++ replicate (length output - length (page r.answers)) 0; scratch = replicate (length scratch) 0 }

abbrev pub run_before_12 : List ℕ → ℕ → ℕ → List ℕ → List ℕ → Run
run_before_12 words round_limit step_limit output scratch =
    leave_before_12 (report_read_by (once as_written) (admit (settings_good_before_12 round_limit (length scratch)) words) round_limit step_limit (length output)) output scratch

-- Before Note 10 an occurs check entered a bound variable each time that it came to it. `room` is how many nodes may wait: `most waiting` in document 01.
abbrev pub parts_before_10 : ℕ → Term → List Term → ℕ → (List Term → Term → Outcome Bool) → Outcome Bool
parts_before_10 room (pair a b) ws left go = choose (ltb (length ws) room) (λ _. go (b ∷ ws) a) (λ _. stop (at_bound waiting) (suc left))
parts_before_10 room (atom a) ws left go = scan_next ws left go
parts_before_10 room (var y) ws left go = scan_next ws left go

abbrev pub occurs_check_before_10 : ℕ → ℕ → Substitution → List Term → Term → ℕ → Outcome Bool
occurs_check_before_10 room x bs ws t zero = stop no_steps zero
occurs_check_before_10 room x bs ws t (suc left) =
    choose (is_var x (walk bs t)) (λ _. done true left) (λ _. parts_before_10 room (walk bs t) ws left (λ vs v. occurs_check_before_10 room x bs vs v left))

-- Before Note 2: "Every such path gives its answer, whether or not the same words were given before." Here with "endless output": every answer fits.
abbrev pub endless_before_2 : Passing → Mode
endless_before_2 pass = record { pass = pass; fits = λ words room. true; strikes = λ ws earlier. false }

-- "the old run with the same limits and endless output". Its room is never looked at.
abbrev pub run_before_2 : Passing → Program → Relation → ℕ → ℕ → Result
run_before_2 pass P R limit round_limit = rounds_by limit (endless_before_2 pass) P R round_limit 0 0 limit 0 []
