-- A run as a whole: refusals, and what the rounds and the clearing come to.
use Prim.Native.Nat.{ℕ, ◌-◌, ◌<◌, ◌≤◌}
use mathlib.Core.Path.{◌≡◌, refl, sym, ap, ◌∙◌, subst}
use mathlib.Core.Option.{some}
use mathlib.Core.Bool.{true, false}
use mathlib.Core.List.{List, [], ◌++◌}
use native.Mathlib.Omega.{arith}
use lib.ListN.{length, take, drop, replicate, get_elem?, length-replicate, get_or-replicate}
use lib.Seq.{length-take-le}
use Rattle.std.specs.Prelude.{Result as Outcome, Ok, Err}
use Rattle.rules.specs.Syntax.{Program, Relation}
use Rattle.rules.specs.Accept.{Accept, accepted, refused, read}
use Rattle.rules.specs.declared.Refusal as rules
use Rattle.rules.specs.Verdict.{yes_said, said, meaning, number_of}
use Rattle.rules.specs.Inner.{RelationsAt}
use Rattle.rules.proofs.Spelled.{stands_self}
use Rattle.rules.proofs.Checked.{refused_said}
use Rattle.rules.proofs.Accepted.{read_is_written, accepted_query}
use Rattle.rules.proofs.SettingsLaws.{settings_within, within_good}
use Rattle.semantics.specs.Round.{Result, rounds}
use Rattle.semantics.specs.Run.{Report, refusal, ran, returns, report_program, leave, run, run_as_written, usable, page, zeroed}
use Rattle.semantics.proofs.SameRuns.{run_same}
use Rattle.semantics.proofs.Words.{demands_run}
use Rattle.semantics.proofs.ZeroedLaws.{zeroed_all}
use Rattle.semantics.proofs.Lighter.{first_words_used}
use Rattle.engine.specs.declared.report.Report as code
use Rattle.engine.specs.declared.report.Refusal.{Refusal}
use Rattle.engine.specs.declared.report.Refusal.TheVariants.{Settings, Program as Refused}
use Rattle.engine.specs.Report as says
use Rattle.engine.specs.Report.{refusal_number, refusal_place, RunPromise, RunAs}
use Rattle.engine.specs.Run.{cleared, Admitted}
use Rattle.engine.specs.Rounds.{RunReady, ResultAs}
use Rattle.engine.specs.Reference.{at}
use Rattle.engine.specs.Memory.{TableIn}
use Rattle.engine.specs.Trail.{Same}
use Rattle.rules.specs.Settings.{scratch_words, settings_good}
use Rattle.engine.proofs.ClearLaws.{cleared_rest, cleared_all}

-- what was said, back to the reading
pub accepted_said : (r : Accept) → yes_said ≡ said r → (P : Program) × (r ≡ accepted P)
accepted_said (accepted P) e = (P, refl)
accepted_said (refused d q) e = absurd (let z : ◌≡◌ {A = ℕ} 0 1 = cc in omega arith)

-- the relations of an accepted program stand in its words
relations_there : (words : List ℕ) (P : Program) → read words ≡ accepted P → RelationsAt words 0 P × (length P ≤ 256)
relations_there words P e =
    let w = read_is_written words P e in
    (record { stands = rw (sym w.is_written) (stands_self words); to = omega (arith, ap length w.is_written); good = w.well_formed.relations; short = w.few_words }, w.well_formed.few)

module _ (words : List ℕ) (round_limit step_limit : ℕ) (output scratch : List ℕ) where
  comes_to : Report
  comes_to = returns words round_limit step_limit (length output) (length scratch)

  -- the demands hold of what says document 01's run
  kept_written : (r : Outcome code.Report Refusal) (output' scratch' : List ℕ) → RunAs (run_as_written words round_limit step_limit output scratch) r output' scratch' → RunPromise words round_limit step_limit output scratch r output' scratch'
  kept_written r output' scratch' t = record { says = t; demands = rw (t.is_output, t.is_scratch) (demands_run words round_limit step_limit output scratch) }

  -- and what says the run by the code's passing of arguments says that run
  kept_said : (r : Outcome code.Report Refusal) (output' scratch' : List ℕ) → RunAs (run words round_limit step_limit output scratch) r output' scratch' → RunPromise words round_limit step_limit output scratch r output' scratch'
  kept_said r output' scratch' s = kept_written r output' scratch' (rw (run_same words round_limit step_limit output scratch) at s)

  kept_refusal : (e : Refusal) → comes_to ≡ refusal (refusal_number e) (refusal_place e) → RunPromise words round_limit step_limit output scratch (Err e) output scratch
  unfolding comes_to
  kept_refusal e is =
      let z : run words round_limit step_limit output scratch ≡ leave (refusal (refusal_number e) (refusal_place e)) output scratch = ap (λ x. leave x output scratch) is in
      kept_said (Err e) output scratch (rw z (record { is_end = refl; is_counts = refl; is_output = refl; is_scratch = refl }))

  pub settings_refused : settings_good round_limit (length scratch) ≡ false → RunPromise words round_limit step_limit output scratch (Err Settings) output scratch
  unfolding comes_to
  settings_refused h = kept_refusal Settings (rw h)

  pub program_refused : (e : rules.Refusal) → settings_good round_limit (length scratch) ≡ true → meaning (Err e) ≡ said (read words) → RunPromise words round_limit step_limit output scratch (Err (Refused e)) output scratch
  unfolding comes_to
  program_refused e h is = kept_refusal (Refused e) (rw (h, refused_said (read words) (number_of e.condition) e.place is))

  pub admitted : settings_good round_limit (length scratch) ≡ true → yes_said ≡ said (read words) → Admitted words round_limit (take scratch_words scratch)
  admitted h e =
      let q = accepted_said (read words) e in
      let (i, j) = settings_within round_limit (length scratch) h in
      record { program = q.0; is_read = q.1; few_rounds = i; length_is = length-take-le scratch_words scratch j }

  -- the run with the scratch's first words is that with the whole of it, where those beyond are as lent
  pub kept_whole : (r : Outcome code.Report Refusal) (output' part : List ℕ) → settings_good round_limit (length scratch) ≡ true → RunPromise words round_limit step_limit output (take scratch_words scratch) r output' part
      → RunPromise words round_limit step_limit output scratch r output' (part ++ drop scratch_words scratch)
  kept_whole r output' part h k =
      let t = k.says in
      kept_written r output' (part ++ drop scratch_words scratch) (rw (first_words_used words round_limit step_limit output scratch (settings_within round_limit (length scratch) h).1) (record {
        is_end = t.is_end;
        is_counts = t.is_counts;
        is_output = t.is_output;
        is_scratch = ap (λ s. s ++ drop scratch_words scratch) t.is_scratch;
      }))

  -- the result of an accepted program
  module _ (a : Admitted words round_limit scratch) where
    abbrev pub query_of : Relation
    query_of = (accepted_query words a.program a.is_read).0

    is_query : get_elem? a.program 0 ≡ some query_of
    is_query = ap (λ (P : Program). get_elem? P 0) (accepted_query words a.program a.is_read).2

    comes_to_run : comes_to ≡ ran (rounds step_limit a.program query_of round_limit 0 (usable (length output)) step_limit 0 [])
    unfolding comes_to
    comes_to_run =
        let q = accepted_query words a.program a.is_read in
        rw (within_good round_limit (length scratch) a.few_rounds (omega (arith, a.length_is)), a.is_read)
        (subst (λ (P : Program). report_program P round_limit step_limit (length output) ≡ ran (rounds step_limit P q.0 round_limit 0 (usable (length output)) step_limit 0 [])) (sym q.2) refl)

    pub filling : (s : List ℕ) → s ≡ cleared scratch 0 (length scratch) → (P : Program) × RelationsAt words 0 P × (length P ≤ 256) × (scratch_words ≤ length s)
    filling s e =
        let n : length s ≡ length scratch = ap length (e ∙ cleared_all scratch) ∙ length-replicate (length scratch) 0 in
        let r = relations_there words a.program a.is_read in
        (a.program, r.0, r.1, omega (arith, a.length_is))

    -- the table filled, in a scratch that was all 0
    pub ready : (s s' : List ℕ) → s ≡ cleared scratch 0 (length scratch) → length s' ≡ length s → ((P : Program) → RelationsAt words 0 P → length P ≤ 256 → TableIn words s' P) → Same s s' 0 11776
        → RunReady words s' a.program 0 query_of round_limit
    ready s s' e l table low =
        let n : length s ≡ length scratch = ap length (e ∙ cleared_all scratch) ∙ length-replicate (length scratch) 0 in
        let r = relations_there words a.program a.is_read in
        let zeros : (i : ℕ) → i < 11776 → at s' i ≡ 0 = λ i h. low i (omega arith) h ∙ ap (λ (ws : List ℕ). at ws i) (e ∙ cleared_all scratch) ∙ get_or-replicate (length scratch) i 0 0 (omega (arith, a.length_is)) in
        record {
          is_read = a.is_read;
          query_is = is_query;
          clean = record { long = omega (arith, a.length_is); table = table a.program r.0 r.1; open_all = λ x h. zeros x (omega arith); nameless = λ i h k. zeros i (omega arith) };
          few_rounds = a.few_rounds;
        }

    pub kept_run : (s' output' : List ℕ) (r : code.Report) → length s' ≡ length scratch → length output' ≡ length output
        → ResultAs output' (rounds step_limit a.program query_of round_limit 0 (usable (length output)) step_limit 0 []) r
        → RunPromise words round_limit step_limit output scratch (Ok r) (cleared output' r.words (length output')) (cleared s' 0 (length scratch))
    unfolding comes_to
    kept_run s' output' r f g h =
        let x : Result = rounds step_limit a.program query_of round_limit 0 (usable (length output)) step_limit 0 [] in
        let z : run words round_limit step_limit output scratch ≡ leave (ran x) output scratch = ap (λ y. leave y output scratch) comes_to_run in
        let o : cleared output' r.words (length output') ≡ page x.answers ++ replicate (length output - length (page x.answers)) 0 =
        cleared_rest output' r.words ∙ ap (λ p. p ++ replicate (length output' - r.words) 0) h.page_is ∙ ap (λ m. page x.answers ++ replicate m 0) (ap (λ m. m - r.words) g ∙ ap (λ m. length output - m) h.is_words) in
        let y : cleared s' 0 (length scratch) ≡ zeroed scratch_words scratch =
        ap (cleared s' 0) (sym f) ∙ cleared_all s' ∙ ap (λ n. replicate n 0) f ∙ sym (zeroed_all scratch) ∙ ap (λ n. zeroed n scratch) a.length_is in
        kept_said (Ok r) (cleared output' r.words (length output')) (cleared s' 0 (length scratch)) (rw z (record {
          is_end = ap says.ran h.is_end;
          is_counts = cc (h.is_round, h.is_steps, h.is_answers, h.is_words, h.is_cut);
          is_output = o;
          is_scratch = y;
        }))
