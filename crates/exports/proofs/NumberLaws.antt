-- A report as eight numbers, written at the start of a lent slice.
use Prim.Native.Nat.{ℕ, ◌≤◌, ◌<◌}
use mathlib.Core.Path.{◌≡◌, refl, sym, ap}
use mathlib.Core.Bool.{Bool, true, false}
use mathlib.Core.List.{List, [], ◌∷◌, ◌++◌}
use native.Mathlib.Omega.{arith}
use lib.ListN.{length, get_or, drop}
use borrow.Author.Tests.{le-leb, lt-leb}
use Rattle.rules.specs.Syntax.{Program}
use Rattle.rules.specs.Accept.{Accept, accepted, refused, admit, read}
use Rattle.rules.specs.Settings.{settings_good}
use Rattle.rules.specs.Verdict.{said}
use Rattle.rules.specs.Settings.{most_words}
use Rattle.rules.proofs.Checked.{place_small}
use Rattle.semantics.specs.Round as round
use Rattle.semantics.specs.Run as definition
use Rattle.semantics.specs.Path.{as_written}
use Rattle.semantics.specs.Round.{once}
use Rattle.semantics.specs.Run.{Run, run_as_written, returns_by, refusal, ran, report_read_by, report_program_by, leave}
use Rattle.semantics.proofs.Basics.{clash}
use Rattle.std.specs.Prelude.{Result, Ok, Err, IfErr}
use Rattle.engine.specs.Report.{counts, ended, refusal_place, report_ended, RunPromise}
use Rattle.engine.specs.declared.report.Refusal.{Refusal}
use Rattle.engine.specs.declared.report.Report.{Report}
use Rattle.exports.specs.Numbers.{end_numbers, numbers, numbers_of, call, CallPromise}

-- the place of a refusal is small
settled_place : (words : List ℕ) (round_limit step_limit output scratch c p : ℕ) → returns_by (once as_written) words round_limit step_limit output scratch ≡ refusal c p → p ≤ most_words
settled_place words round_limit step_limit output scratch c p e = settled (settings_good round_limit scratch) e
  where
    same_place : (d q : ℕ) → refusal d q ≡ refusal c p → q ≡ p
    same_place d q h = cc

    of_program : (P : Program) → report_program_by (once as_written) P round_limit step_limit output ≡ refusal c p → p ≤ most_words
    of_program [] h = omega (arith, same_place 1 0 h)
    of_program (R ∷ Rs) h = clash (cc)

    of_words : (a : Accept) → read words ≡ a → report_read_by (once as_written) a round_limit step_limit output ≡ refusal c p → p ≤ most_words
    of_words (accepted P) z h = of_program P h
    of_words (refused d q) z h = omega (arith, same_place d q h, (place_small words d q (sym (ap said z))).1)

    settled : (b : Bool) → report_read_by (once as_written) (admit b words) round_limit step_limit output ≡ refusal c p → p ≤ most_words
    settled false h = omega (arith, same_place 9 0 h)
    settled true h = of_words (read words) refl h

-- of a result there is none
no_place : (e : round.End) → get_or (end_numbers (report_ended (ran (record { end = e; round = 0; steps = 0; answers = []; cut = 0 })))) 2 0 ≡ 0
no_place round.finished = refl
no_place round.rounds_used = refl
no_place round.steps_used = refl
no_place round.output_full = refl
no_place (round.path_limit b) = refl

module _ (words : List ℕ) (round_limit step_limit : ℕ) (output scratch lent : List ℕ) where
  place_of : (x : definition.Report) → returns_by (once as_written) words round_limit step_limit (length output) (length scratch) ≡ x → get_or (end_numbers (report_ended (leave x output scratch).report)) 2 0 ≤ most_words
  place_of (refusal c p) e = settled_place words round_limit step_limit (length output) (length scratch) c p e
  place_of (ran r) e = omega (arith, no_place r.end)

  pub place_fits : (r : Result Report Refusal) (output' scratch' : List ℕ) → RunPromise words round_limit step_limit output scratch r output' scratch' → IfErr r (λ e. refusal_place e < 4294967296)
  place_fits (Ok r) output' scratch' k = tt
  place_fits (Err e) output' scratch' k =
      let z : get_or (end_numbers (report_ended (run_as_written words round_limit step_limit output scratch).report)) 2 0 ≡ refusal_place e = ap (λ (ns : List ℕ). get_or ns 2 0) (sym (ap end_numbers k.says.is_end)) in
      omega (arith, z, place_of (returns_by (once as_written) words round_limit step_limit (length output) (length scratch)) refl)

  -- too few words are lent
  pub called_short : length lent < 8 → CallPromise words round_limit step_limit output scratch lent 0 output scratch lent
  called_short h = record { is_call = simp (lt-leb 8 (length lent) h); demands = λ e. absurd (omega arith) }

  pub called_run : (r : Result Report Refusal) (output' scratch' : List ℕ) → 8 ≤ length lent → RunPromise words round_limit step_limit output scratch r output' scratch'
      → CallPromise words round_limit step_limit output scratch lent 8 output' scratch' (numbers_of (ended r) (counts r) ++ drop 8 lent)
  called_run r output' scratch' h k =
      record {
        is_call = answered (run_as_written words round_limit step_limit output scratch) output' scratch' _ k.says.is_output k.says.is_scratch (rw (k.says.is_end, k.says.is_counts) refl);
        demands = λ z. k.demands;
      }
    where
      answered : (x : Run) (o s l : List ℕ) → o ≡ x.output → s ≡ x.scratch → l ≡ numbers x.report ++ drop 8 lent → call x output scratch lent ≡ record { result = 8; output = o; scratch = s; numbers = l }
      answered x o s l p q u = rw (p, q, u) (simp (le-leb 8 (length lent) h))
