-- What `run` promises, as the text of its list.
use Prim.Native.Nat.{ℕ, ◌≤◌}
use mathlib.Core.Path.{◌≡◌, refl, sym, ap, subst, ◌∙◌}
use mathlib.Core.List.{List, [], ◌++◌, map}
use native.Mathlib.Omega.{arith}
use lib.ListN.{length, replicate, take}
use Rattle.semantics.specs.Round.{Result, once}
use Rattle.semantics.specs.Run as run
use Rattle.std.specs.Prelude.{Result as Returned}
use Rattle.engine.specs.Report.{RunPromise, counts, ended}
use Rattle.engine.specs.declared.report.Refusal.{Refusal}
use Rattle.engine.specs.declared.report.Report.{Report}
use Rattle.semantics.specs.Path.{as_written}
use Rattle.page.specs.Page.{answers_on, refused}
use Rattle.page.proofs.AnswersLaws.{answers_step, zeros_at}
use Rattle.rules.specs.Lists.{joined}
use Rattle.list_text.specs.Listing.{TextAs, first_line, line, printed_text, report_answers, report_text, words_of}
use Rattle.list_text.specs.Writing.{Wrote}
use Rattle.rules.specs.Settings.{scratch_words}
use Rattle.list_text.proofs.TextLaws.{behind, sets_start}
use Rattle.list_text.proofs.WordLaws.{read_short, same_run, start_decides}

none_on_zeros : (n : ℕ) → answers_on (replicate n 0) ≡ []
none_on_zeros n = answers_step (replicate n 0) 0 (refused 10 0) (zeros_at [] n)

-- the page has the answers of the report
page_answers : (x : run.Run) (y : run.Report) (output scratch : List ℕ) → x ≡ run.leave y output scratch → output ≡ replicate (length output) 0 →
    ((r : Result) → x.report ≡ run.ran r → answers_on x.output ≡ map (λ a. a.1) r.answers) → answers_on x.output ≡ report_answers x.report
page_answers x (run.refusal number place) output scratch e z h = rw (e, z) (none_on_zeros (length output))
page_answers x (run.ran r) output scratch e z h = h r (ap (λ (w : run.Run). w.report) e) ∙ ap (λ (w : run.Run). report_answers w.report) (sym e)

listed : {words : List ℕ} {rounds steps : ℕ} {output scratch : List ℕ} {r : Returned Report Refusal} {output_after scratch_after : List ℕ} → output ≡ replicate (length output) 0 → RunPromise words rounds steps output scratch r output_after scratch_after →
    first_line (ended r) (counts r).round (counts r).steps (counts r).answers (counts r).cut ++ joined (map line (answers_on output_after)) ≡ report_text (run.run_as_written words rounds steps output scratch).report
listed {words} {rounds} {steps} {output} {scratch} {r} {output_after} z kept =
    let x = run.run_as_written words rounds steps output scratch in
    let s = kept.says in
    let a : answers_on x.output ≡ report_answers x.report = page_answers x (run.returns_by (once as_written) words rounds steps (length output) (length scratch)) output scratch refl z (λ w e. rw s.is_output at (kept.demands.runs w e).on_output.page_is) in
    rw (s.is_end, s.is_counts, s.is_output, a)

-- first line and answers behind it
pub list_text : {words : List ℕ} {rounds steps : ℕ} {output scratch : List ℕ} {r : Returned Report Refusal} {output_after scratch_after : List ℕ} {out mid after : List ℕ} {m next : ℕ} →
    output ≡ replicate (length output) 0 → RunPromise words rounds steps output scratch r output_after scratch_after →
    Wrote (first_line (ended r) (counts r).round (counts r).steps (counts r).answers (counts r).cut) 0 out m mid → Wrote (joined (map line (answers_on output_after))) m mid next after →
    Wrote (report_text (run.run_as_written words rounds steps output scratch).report) 0 out next after
list_text {out = out} {after = after} {next = next} z kept w v = subst (λ (t : List ℕ). Wrote t 0 out next after) (listed z kept) (behind w v)

-- the list of the words that were read, on an output of zeros, is that of the file
pub file_text : (bytes : List ℕ) {program output out after : List ℕ} {count : ℕ} (rounds steps n : ℕ) (scratch : List ℕ) → program ≡ take 16385 (words_of bytes) → output ≡ replicate n 0 →
    Wrote (report_text (run.run_as_written program rounds steps output scratch).report) 0 out count after → count ≤ 65536 →
    TextAs (report_text (run.run_as_written (words_of bytes) rounds steps (replicate n 0) scratch).report) out count after
file_text bytes {program} {output} {out} {after} {count} rounds steps n scratch p o w h =
    let words = words_of bytes in
    let same : report_text (run.run_as_written program rounds steps output scratch).report ≡ report_text (run.run_as_written words rounds steps (replicate n 0) scratch).report =
    ap (λ (ws : List ℕ). report_text (run.run_as_written ws rounds steps output scratch).report) p
    ∙ ap (λ (x : run.Run). report_text x.report) (same_run (take 16385 words) words rounds steps output scratch (read_short words))
    ∙ ap (λ (o : List ℕ). report_text (run.run_as_written words rounds steps o scratch).report) o in
    laid (subst (λ (t : List ℕ). Wrote t 0 out count after) same w) h
  where
    laid : {text out after : List ℕ} {count : ℕ} → Wrote text 0 out count after → count ≤ 65536 → TextAs text out count after
    laid {text} {out} w h = record { is_long = omega (arith, w.is_next); is_there = w.is_after ∙ sets_start text out; is_short = h }

-- The listing program reads no more bytes than 65,540: it prints what it would print of the whole file.
pub printed_start : (bytes : List ℕ) → printed_text (take 65540 bytes) ≡ printed_text bytes
printed_start bytes =
    ap (λ (x : run.Run). report_text x.report) (same_run (words_of (take 65540 bytes)) (words_of bytes) 16 1000000 (replicate 4096 0) (replicate scratch_words 0) (start_decides bytes))
