-- An answer that was written is listed, or left out as a repeat.
use Prim.Native.Nat.{ℕ, ◌+◌, ◌≤◌, ◌<◌}
use mathlib.Core.Path.{◌≡◌, sym, ap, subst, ◌∙◌}
use mathlib.Core.Bool.{Bool}
use mathlib.Core.List.{List, [], ◌∷◌, ◌++◌, map-append}
use native.Mathlib.Omega.{arith}
use lib.ListN.{length, take, length-append, length-take}
use lib.Seq.{get_or-take}
use Rattle.rules.specs.Inner.{Spells}
use Rattle.rules.specs.Reading.{choose}
use Rattle.rules.proofs.Spelled.{stands_at, stands_self, stands_split}
use Rattle.semantics.specs.Round.{Tally, list_answer, once, spend, words_of, write}
use Rattle.semantics.specs.Run.{usable, page}
use Rattle.semantics.specs.Substitution.{argument}
use Rattle.semantics.proofs.Fair.{page_more}
use Rattle.engine.specs.Reference.{at}
use Rattle.engine.specs.Lines.{Rows, Wholes}
use Rattle.engine.specs.Index.{Comparing, ComparedAs, Indexed, is_repeated}
use Rattle.engine.specs.Rounds.{FilledAs, IndexAs, Listing}
use Rattle.engine.specs.declared.round.Filled.{Filled}
use Rattle.engine.specs.declared.repeats.repeated.Compared.{Compared}
use Rattle.engine.specs.declared.repeats.repeated.Compared.TheVariants.{Repeated, New}
use Rattle.engine.proofs.TermLaws.{spells_same}
use Rattle.engine.proofs.AnswerLaws.{take_same}
use Rattle.engine.proofs.RowLaws.{wholes_snoc}
use Rattle.engine.proofs.RepeatsLaws.{indexed_kept}

-- the first words of a list stand at its start
spelled_taken : (n : ℕ) (o xs : List ℕ) → take n o ≡ xs → Spells o 0 xs
spelled_taken n o xs e = spells_same xs o 0 xs (λ i lo hi. let l : i < n = omega (arith, ap length e, length-take n o) in sym (get_or-take n o i 0 l) ∙ ap (λ ys. at ys i) e) (stands_self xs)

module _ {o output : List ℕ} {f : Filled} {next : ℕ} {a : Tally} {ws : List ℕ} (g : Listing o output f next a ws) {end : ℕ} (is_end : end ≡ usable (length output)) where
  end_was : end ≡ usable (length o)
  end_was = is_end ∙ ap usable g.same_length

  page_here : take f.used output ≡ page a.written
  page_here = g.kept ∙ g.before.page_is

  all_here : take next output ≡ page a.written ++ ws
  all_here = g.stands.stands ∙ ap (λ xs. xs ++ ws) g.before.page_is

  earlier : Rows output 0 f.used (words_of a.written)
  earlier = record { stretch = record { words = spelled_taken f.used output (page a.written) page_here; ends = omega (arith, g.before.used) }; whole = g.index.whole }

  pub comparing : Comparing output f.used next end f.index (words_of a.written) ws
  comparing = record {
    earlier = earlier;
    words = record {
      words = stands_at output (0 + length (page a.written)) f.used ws (omega (arith, g.before.used)) (stands_split output 0 (page a.written) ws (spelled_taken next output (page a.written ++ ws) all_here)).1;
      ends = g.stands.used_now;
    };
    whole = g.stands.whole;
    fits = omega (arith, g.stands.fits, end_was);
    room = record { inside = omega (arith, is_end); short = omega (arith, is_end) };
    indexed = λ h. indexed_kept (λ i lo hi. g.stands.behind i (omega arith)) (omega arith) (subst (λ e. Indexed o e f.index (words_of a.written)) (sym end_was) g.index.indexed);
  }

  module _ (k l : ℕ) {output' : List ℕ} {r : Compared} (same : length output' ≡ length output) (told : ComparedAs output output' f.used next end (words_of a.written) ws r) where
    end_is : end ≡ usable (length output')
    end_is = is_end ∙ ap usable (sym same)

    kept : (n : ℕ) → n ≤ next → take n output' ≡ take n output
    kept n h = take_same n output output' same (λ i j. told.touched.below i (omega arith))

    -- the output is filled so, with this tally
    abbrev Listed : Filled → Tally → Type 0
    Listed f' t = FilledAs output' f' t × IndexAs output' f' t

    -- what the definition lists
    listed : {b : Bool} → is_repeated r ≡ b → choose b (λ _. spend a l) (λ _. write a k l ws) ≡ list_answer (once argument) a k l ws
    listed e = ap (λ b. choose b (λ _. spend a l) (λ _. write a k l ws)) (sym e ∙ told.says)

    pub is_repeat : {index : ℕ} → r ≡ Repeated index → Listed (record { used = f.used; answers = f.answers; index = index }) (list_answer (once argument) a k l ws)
    is_repeat {index} e =
        let (fits, indexed) = told.repeated index e in
        subst (Listed (record { used = f.used; answers = f.answers; index = index })) (listed (ap is_repeated e)) (
          record { used = g.before.used; room = omega (arith, g.before.room, g.same_length, same); answers = g.before.answers; page_is = kept f.used (omega (arith, g.stands.used_now)) ∙ page_here },
          record { whole = g.index.whole; fits = omega (arith, fits, end_is); indexed = subst (λ e. Indexed output' e index (words_of a.written)) end_is indexed },
        )

    pub is_new : {index : ℕ} → r ≡ New index → Listed (record { used = next; answers = f.answers + 1; index = index }) (list_answer (once argument) a k l ws)
    is_new {index} e =
        let (fits, indexed) = told.new index e in
        let more : page (a.written ++ ((k, ws) ∷ [])) ≡ page a.written ++ ws = page_more a.written k ws in
        let words_more : length (page (a.written ++ ((k, ws) ∷ []))) ≡ length (page a.written) + length ws = ap length more ∙ length-append (page a.written) ws in
        let one_more : length (a.written ++ ((k, ws) ∷ [])) ≡ length a.written + 1 = length-append a.written ((k, ws) ∷ []) in
        let words_are : words_of (a.written ++ ((k, ws) ∷ [])) ≡ words_of a.written ++ (ws ∷ []) = map-append (λ b. b.1) a.written ((k, ws) ∷ []) in
        subst (Listed (record { used = next; answers = f.answers + 1; index = index })) (listed (ap is_repeated e)) (
          record {
            used = omega (arith, words_more, g.stands.used_now, g.before.used);
            room = omega (arith, g.stands.used_now, g.stands.fits, g.before.room, g.same_length, same);
            answers = omega (arith, one_more, g.before.answers);
            page_is = kept next (omega arith) ∙ all_here ∙ sym more;
          },
          record {
            whole = subst Wholes (sym words_are) (wholes_snoc (words_of a.written) ws g.index.whole g.stands.whole);
            fits = omega (arith, fits, end_is);
            indexed = subst (λ xs. Indexed output' (usable (length output')) index xs) (sym words_are) (subst (λ e. Indexed output' e index (words_of a.written ++ (ws ∷ []))) end_is indexed);
          },
        )
