-- The answer of a path: its page's begin and end, the scratch as it was, and the words as the definition has them.
use Prim.Native.Nat.{ℕ, zero, suc, ◌+◌, ◌-◌, ◌<◌, ◌≤◌}
use mathlib.Core.Path.{◌≡◌, refl, sym, ap, ap₂, subst, ◌∙◌}
use mathlib.Core.Bool.{Bool, true, false}
use mathlib.Core.List.{List, [], ◌∷◌, ◌++◌, append-nil, map}
use native.Mathlib.Omega.{arith}
use native.Mathlib.Nat.{zero-add, suc-add}
use native.Mathlib.Decide.{dec_lt}
use lib.Dec.{ltb}
use lib.ListN.{length, take}
use borrow.Author.Tests.{ltb-true, le-ltb}
use Rattle.std.specs.Prelude.{Result, Ok, Err, Option, Some, None, unwrap_or}
use Rattle.rules.specs.Lists.{Each, joined}
use Rattle.rules.specs.Reading.{choose}
use Rattle.rules.specs.Syntax.{Term, var, Constraint, Program}
use Rattle.rules.specs.Written.{part}
use Rattle.rules.specs.Inner.{Spells}
use Rattle.rules.proofs.Spelled.{stands_getD as spells_getD}
use Rattle.semantics.specs.Substitution.{Substitution, resolve}
use Rattle.semantics.specs.Steps.{Outcome, done, and_then}
use Rattle.semantics.specs.Path.{Path, ChoicePoint}
use Rattle.semantics.specs.Run.{usable}
use Rattle.semantics.specs.Answer.{vars_in, Line, parameters, query_terms, names_of, answer_words, all_lines, answer}
use Rattle.semantics.specs.Invariant.{Sound}
use Rattle.semantics.proofs.Basics.{clash, compared, same, other}
use Rattle.semantics.proofs.Names.{appear_all_has}
use Rattle.engine.specs.Reference.{at}
use Rattle.engine.specs.Memory.{BindingsIn, Nameless, Stored}
use Rattle.engine.specs.Walk.{Binds}
use Rattle.engine.specs.Trail.{Apart}
use Rattle.engine.specs.Review.{ConstraintsHeld}
use Rattle.engine.specs.Names.{top_from, word_from, Distinct, Names, NamesGiven, Named}
use Rattle.engine.specs.Term.{Room, Touched, Laid, Placed, all_laid, some_missing}
use Rattle.engine.specs.Lines.{add_lines, Wholes, AnswerSoFar, Writing}
use Rattle.engine.specs.Query.{Known, query_words, Query}
use Rattle.engine.specs.Look.{ThroughAs}
use Rattle.engine.specs.Constraint.{added_says, AddedAs}
use Rattle.engine.specs.Take.{PathHeld, registers}
use Rattle.engine.specs.Answer.{Answering, AnswerLeft, AnswerStands, AnsweredAs, Ends, answer_end, EndedAs}
use Rattle.engine.specs.declared.search.state.State.{State}
use Rattle.engine.specs.declared.steps.Stopped.{Stopped}
use Rattle.engine.proofs.TrailLaws.{fresh_few}
use Rattle.engine.proofs.FrameLaws.{bindings_same, kept_same}
use Rattle.engine.proofs.StoredLaws.{trailed, rebound, stored_binds}
use Rattle.engine.proofs.NameLaws.{names_apart}
use Rattle.engine.proofs.TermLaws.{room_same, touched_wide}
use Rattle.engine.proofs.AddLineLaws.{page_over, lines_listed}
use Rattle.engine.proofs.QueryLaws.{binds_named}

-- the first words of a list, by what stands at each place
pub take_same : (n : ℕ) (o o' : List ℕ) → length o' ≡ length o → ((i : ℕ) → i < n → at o' i ≡ at o i) → take n o' ≡ take n o
take_same zero o o' e f = refl
take_same (suc n) [] [] e f = refl
take_same (suc n) [] (y ∷ o') e f = absurd (omega arith)
take_same (suc n) (x ∷ o) [] e f = absurd (omega arith)
take_same (suc n) (x ∷ o) (y ∷ o') e f = ap₂ ◌∷◌ (f 0 (omega arith)) (take_same n o o' (omega arith) (λ i l. f (suc i) (omega arith)))

take_here : (o ws : List ℕ) → length ws ≤ length o → ((i : ℕ) → i < length ws → at o i ≡ at ws i) → take (length ws) o ≡ ws
take_here o [] l f = refl
take_here [] (w ∷ ws) l f = absurd (omega arith)
take_here (x ∷ o) (w ∷ ws) l f = ap₂ ◌∷◌ (f 0 (omega arith)) (take_here o ws (omega arith) (λ i k. f (suc i) (omega arith)))

take_behind : (n : ℕ) (o ws : List ℕ) → n + length ws ≤ length o → ((i : ℕ) → i < length ws → at o (n + i) ≡ at ws i) → take (n + length ws) o ≡ take n o ++ ws
take_behind zero o ws l f = ap (λ k. take k o) (zero-add (length ws)) ∙ take_here o ws (omega arith) (λ i k. subst (λ j. at o j ≡ at ws i) (zero-add i) (f i k))
take_behind (suc n) [] ws l f = absurd (omega arith)
take_behind (suc n) (x ∷ o) ws l f =
    ap (λ k. take k (x ∷ o)) (suc-add n (length ws)) ∙ ap (λ (r : List ℕ). x ∷ r) (take_behind n o ws (omega arith) (λ i k. subst (λ j. at (x ∷ o) j ≡ at ws i) (suc-add n i) (f i k)))

pub take_spelled : (n : ℕ) (o ws : List ℕ) → n + length ws ≤ length o → Spells o n ws → take (n + length ws) o ≡ take n o ++ ws
take_spelled n o ws l h = take_behind n o ws l (λ i k. spells_getD o n ws i h k)

-- the page begins
bare : (head : List ℕ) → length (head ++ joined []) ≡ length head
bare head = ap length (append-nil head)

pub begin_put : {o o' : List ℕ} {from end : ℕ} {head : List ℕ} {r : Option ℕ} → Placed o o' from end true head r → AnswerSoFar o o' from (unwrap_or r (end + 1)) end (unwrap_or r (end + 1)) head []
unfolding Wholes
begin_put {o} {o'} {from} {end} {head} (all_laid {e = next} d) = record {
  stands = λ _. subst (λ v. Laid o o' from end true v next) (sym (append-nil head)) d;
  whole = λ _. tt;
  begins = λ _. d.is;
  over = λ q. absurd (omega (arith, d.fits));
  touched = touched_wide from end (omega arith) (omega (arith, d.fits)) d.touched;
}
begin_put {head = head} (some_missing m) = page_over (omega arith) (omega (arith, m.no_room refl, bare head)) m.touched

-- the page ends
wider : {o₀ o : List ℕ} {start end : ℕ} → Touched o₀ o (start + 1) end → Touched o₀ o start end
wider {o₀} {o} {start} {end} t = touched_wide start end (omega arith) (omega arith) t

module _ (o₀ o : List ℕ) (start end : ℕ) (v : List ℕ) (place : ℕ) where
  pub ended_written : {o' : List ℕ} {q : Option ℕ} → Ends o₀ o start end v place → place ≤ end → Placed o₀ o' start end true (part 15 v) q → EndedAs o₀ o o' start end v place (Some place)
  ended_written {o'} h f p = record {
    says = rw (le-ltb end place f) refl;
    written = λ n z. let k : place ≡ n = cc in subst (Laid o₀ o' start end true (part 15 v)) k laid;
    touched = λ _. touched_wide start end (omega arith) (omega arith) laid.touched;
  }
    where
      placed : {q : Option ℕ} → Placed o₀ o' start end true (part 15 v) q → place ≡ start + 1 + length v → Laid o₀ o' start end true (part 15 v) place
      placed (all_laid {e = k} l) a = let z : k ≡ place = omega (arith, l.is) in subst (Laid o₀ o' start end true (part 15 v)) z l
      placed (some_missing m) a = absurd (omega (arith, m.no_room refl))

      laid : Laid o₀ o' start end true (part 15 v) place
      laid = placed p (h f).is

-- no room: the lines end behind the page's end
overrun : (end place : ℕ) → None ≡ answer_end end place → end < place
overrun end place e = go (ltb end place) refl e
  where
    go : (b : Bool) → ltb end place ≡ b → None ≡ choose b (λ _. None) (λ _. Some place) → end < place
    go true q f = ltb-true end place q
    go false q f = clash (cc)

-- names: none before, none after
pub unnamed : {s : List ℕ} → Nameless s → Names s 0 []
unfolding top_from word_from Distinct
unnamed h = record { top_is = refl; words = λ y l. h (4096 + y) (omega arith) (omega arith); distinct = tt }

pub nameless_again : {s : List ℕ} → Names s 0 [] → Nameless s
unfolding word_from
nameless_again {s} h = λ i lo hi. let e : 4096 + (i - 4096) ≡ i = omega arith in subst (λ j. at s j ≡ 0) e (h.words (i - 4096) (omega arith))

-- the open variables of the query terms have names
each_parameter : (Q : Term → Type 0) (i n x : ℕ) → Each Q (parameters i n) → i ≤ x → x < i + n → Q (var x)
each_parameter Q i zero x e l m = absurd (omega arith)
each_parameter Q i (suc n) x e l m = elim (compared i x) [
  | same q z ↦ subst (λ j. Q (var j)) q e.0
  | other d z ↦ each_parameter Q (suc i) n x e.1 (omega arith) (omega arith)
]

each_resolved : (Q : Term → Type 0) (bs : Substitution) (ts : List Term) → Each Q (map (resolve bs) ts) → Each (λ t. Q (resolve bs t)) ts
each_resolved Q bs [] e = tt
each_resolved Q bs (t ∷ ts) e = (e.0, each_resolved Q bs ts e.1)

pub query_known : (bs : Substitution) (n : ℕ) → Known bs (names_of bs n) n
query_known bs n = λ x l. each_parameter (λ t. vars_in (names_of bs n) (resolve bs t) ≡ true) 0 n x (each_resolved (λ t. vars_in (names_of bs n) t ≡ true) bs (parameters 0 n) (appear_all_has [] (query_terms bs 0 n))) (omega arith) (omega arith)

-- the words of an answer but its own, and with it
abbrev pub page_words : Substitution → ℕ → List Line → List ℕ
page_words bs n ls = query_words bs (names_of bs n) 0 n ++ joined (add_lines (names_of bs n) [] ls)

words_are : (bs : Substitution) (n : ℕ) (ls : List Line) → part 15 (page_words bs n ls) ≡ answer_words bs n ls
words_are bs n ls = ap (λ v. part 15 (query_words bs (names_of bs n) 0 n ++ v)) (lines_listed (names_of bs n) [] [] ls (λ v. refl))

-- Answering, in the order of the code's calls.
module _ {P : Program} {ws s output : List ℕ} {st : State} {p : Path} {cs : List ChoicePoint} {params used : ℕ} (a : Answering P ws s output st p cs params used) where
  abbrev bs : Substitution
  bs = p.bindings

  abbrev names : List ℕ
  names = names_of bs params

  pub answer_low : params ≤ 2048
  answer_low = omega (arith, a.few_params, a.sound.few_made)

  pub answer_binds : Binds ws s bs
  answer_binds = stored_binds a.stored a.short a.sound.good

  as_before : AnswerLeft P ws s output s output st p cs used
  as_before = record { stored = a.stored; scratch_length = refl; output_length = refl; before = refl }

  -- the steps of the query terms
  pub answer_stops : (e : Stopped) → ThroughAs bs (parameters 0 params) st.steps (Err e) → AnsweredAs P ws s output s output st p cs used (answer p params st.steps) (Err e)
  unfolding ThroughAs
  answer_stops e h = record { leaves_lent = as_before; words = []; says = rw h; written = λ n l q. clash (cc); full = λ l q. clash (cc) }

  pub answer_on : (left : ℕ) → ThroughAs bs (parameters 0 params) st.steps (Ok left) → answer p params st.steps ≡ and_then (all_lines bs p.kept left) (λ ls m. done (answer_words bs params ls) m)
  unfolding ThroughAs
  answer_on left h = ap (λ o. and_then o (λ _ l. and_then (all_lines bs p.kept l) (λ ls m. done (answer_words bs params ls) m))) h

  -- with names
  module _ {s₁ : List ℕ} {top : ℕ} (m : Named s s₁ top names) where
    pub answer_given : NamesGiven s₁ names
    answer_given = record { long = (binds_named m answer_binds).long; top = top; named = m.given }

    pub answer_query : Query ws s₁ params bs names
    answer_query = record { binds = binds_named m answer_binds; given = answer_given; known = query_known bs params }

    pub answer_kept : ConstraintsHeld ws s₁ bs p.kept st.trail st.constraints
    answer_kept =
        let k : st.constraints ≡ length p.kept = a.stored.path_in.kept in
        record {
          held = binds_named m answer_binds;
          kept_in = kept_same ws s s₁ 0 p.kept (λ i lo hi. m.above i (omega arith)) a.stored.kept_in;
          kept_is = k;
          few = a.stored.roomy.kept;
          trail_is = a.stored.path_in.trail;
        }

    -- with the query terms put
    module _ {out₁ : List ℕ} {end place : ℕ} (room : Room output end) (page : AnswerSoFar output out₁ (used + 1) place end place (query_words bs names 0 params) []) where
      abbrev pub answer_writing : Writing s₁ out₁ place end place
      answer_writing = record { before = output; begin = used + 1; head = query_words bs names 0 params; lines = []; names = names; page = page; given = answer_given; room = room_same page.touched.long room }

      -- with the lines of the constraints
      module _ {s₂ out₂ : List ℕ} (o : Outcome (List Line)) (r : Result (ℕ × ℕ) Stopped) (d : AddedAs ws s₁ s₂ answer_writing out₂ bs o r) where
        pub answer_named : Names s₂ top names
        answer_named = names_apart d.apart m.given

        pub answer_ends : (next left : ℕ) → r ≡ Ok (next, left) → Ends output out₂ used end (page_words bs params d.lines) next
        answer_ends next left e = (d.page next left e).stands

        -- without names again
        pub answer_stored : {s₃ : List ℕ} → Named s₂ s₃ 0 [] → PathHeld P ws s₃ st p cs
        answer_stored {s₃} c =
            let h : Stored P ws s (registers st) st.choices p cs = a.stored in
            let empty : Nameless s₃ = nameless_again c.given in
            let far : Apart s s₃ = record {
              long = c.long ∙ d.apart.long ∙ m.long;
              middle = λ i lo hi. middle empty i lo hi;
              above = λ i lo. c.above i (omega arith) ∙ d.apart.above i lo ∙ m.above i (omega arith);
            } in
            let b : BindingsIn ws s₃ bs = bindings_same ws s₂ s₃ bs (λ i lo hi. c.below i (omega arith)) (λ i lo hi. c.below i (omega (arith, fresh_few bs d.bindings_in.fresh))) d.bindings_in in
            subst (λ z. Stored P ws s₃ (trailed (registers st) z) st.choices p cs) (sym h.path_in.trail) (rebound [] bs refl far b h)
          where
            middle : Nameless s₃ → (i : ℕ) → 4096 ≤ i → i < 10752 → at s₃ i ≡ at s i
            middle empty i lo hi = elim (dec_lt i 6144) [
              | yes q ↦ empty i lo q ∙ sym (a.stored.nameless i lo q)
              | no q ↦ c.above i (omega arith) ∙ d.apart.middle i lo hi ∙ m.above i (omega arith)
            ]

        answer_left : {s₃ out₃ : List ℕ} → Named s₂ s₃ 0 [] → Touched output out₃ used end → AnswerLeft P ws s output s₃ out₃ st p cs used
        answer_left {s₃} {out₃} c t = record {
          stored = answer_stored c;
          scratch_length = c.long ∙ d.apart.long ∙ m.long;
          output_length = t.long;
          before = take_same used output out₃ t.long t.below;
        }

        -- a stop
        pub answer_halted : {s₃ : List ℕ} → Named s₂ s₃ 0 [] → answer p params st.steps ≡ and_then o (λ ls k. done (answer_words bs params ls) k)
            → (e : Stopped) → r ≡ Err e → AnsweredAs P ws s output s₃ out₂ st p cs used (answer p params st.steps) (Err e)
        answer_halted c f e i = record {
          leaves_lent = answer_left c (wider d.touched);
          words = [];
          says = rw (f, d.says, i);
          written = λ n l q. clash (cc);
          full = λ l q. clash (cc);
        }

        -- and the definition's words
        module _ {next rest : ℕ} (i : r ≡ Ok (next, rest)) {out₃ : List ℕ} {q : Option ℕ} (e : EndedAs output out₂ out₃ used end (page_words bs params d.lines) next q) (is_end : end ≡ usable (length output)) where
          abbrev words : List ℕ
          words = answer_words bs params d.lines

          end_touched : Touched output out₃ used end
          end_touched = e.touched d.touched

          answer_stands : (n : ℕ) → q ≡ Some n → AnswerStands output out₃ used words n
          answer_stands n z =
              let g : Laid output out₃ used end true words n = subst (λ v. Laid output out₃ used end true v n) (words_are bs params d.lines) (e.written n z) in
              let x : n ≡ used + length words = g.is in
              let y : n ≤ end = g.fits in
              let u : length out₃ ≡ length output = end_touched.long in
              record {
                used_now = x;
                fits = omega arith;
                stands = ap (λ j. take j out₃) x ∙ take_spelled used out₃ words (omega arith) g.words ∙ ap (λ v. v ++ words) (take_same used output out₃ u end_touched.below);
                whole = record { kind = 15; rest = page_words bs params d.lines; is = sym (words_are bs params d.lines); short = omega (arith, ap length (words_are bs params d.lines), room.short) };
                behind = g.touched.above;
              }

          answer_full : q ≡ None → usable (length output) < used + length words
          answer_full z =
              let x : length (part 15 (page_words bs params d.lines)) ≡ length words = ap length (words_are bs params d.lines) in
              omega (arith, (d.page next rest i).over (overrun end next (sym z ∙ e.says)))

          pub answer_done : {s₃ : List ℕ} → Named s₂ s₃ 0 [] → answer p params st.steps ≡ and_then o (λ ls k. done (answer_words bs params ls) k)
              → AnsweredAs P ws s output s₃ out₃ st p cs used (answer p params st.steps) (Ok (q, rest))
          answer_done c f = record {
            leaves_lent = answer_left c end_touched;
            words = words;
            says = f ∙ ap (λ o. and_then o (λ ls k. done (answer_words bs params ls) k)) d.says ∙ ap (λ y. and_then (added_says d.lines y) (λ ls k. done (answer_words bs params ls) k)) i;
            written = λ n left z. answer_stands n (first_of z);
            full = λ left z. answer_full (first_of z);
          }
            where
              first_of : {w : Option ℕ} {left : ℕ} → ◌≡◌ {A = Result (Option ℕ × ℕ) Stopped} (Ok (q, rest)) (Ok (w, left)) → q ≡ w
              first_of {w} {left} z = let y : ◌≡◌ {A = Option ℕ × ℕ} (q, rest) (w, left) = cc in ap (λ (y : Option ℕ × ℕ). y.0) y

-- The same from what the calls promise, one after the other.
module _ {P : Program} {ws s output : List ℕ} {st : State} {p : Path} {cs : List ChoicePoint} {params used : ℕ} (a : Answering P ws s output st p cs params used) where
  pub stops_now : (e : Stopped) → ((bs : Substitution) → Binds ws s bs → ThroughAs bs (parameters 0 params) st.steps (Err e)) → AnsweredAs P ws s output s output st p cs used (answer p params st.steps) (Err e)
  stops_now e look = answer_stops a e (look p.bindings (answer_binds a))

  module _ {s₁ : List ℕ} {top : ℕ} (name : (bs : Substitution) → Binds ws s bs → Names s 0 [] → Named s s₁ top (names_of bs params)) where
    pub named_now : Named s s₁ top (names_of p.bindings params)
    named_now = name p.bindings (answer_binds a) (unnamed a.stored.nameless)

    pub query_now : Query ws s₁ params p.bindings (names_of p.bindings params)
    query_now = answer_query a named_now

    module _ {out₁ : List ℕ} {end place : ℕ} (room : Room output end) (begin : (bs : Substitution) (names : List ℕ) → Query ws s₁ params bs names → AnswerSoFar output out₁ (used + 1) place end place (query_words bs names 0 params) []) where
      pub page_now : AnswerSoFar output out₁ (used + 1) place end place (query_words p.bindings (names_of p.bindings params) 0 params) []
      page_now = begin p.bindings (names_of p.bindings params) query_now

      abbrev pub writing_now : Writing s₁ out₁ place end place
      writing_now = answer_writing a named_now room page_now

      module _ {s₂ out₂ : List ℕ} {left : ℕ} (d : Result (ℕ × ℕ) Stopped)
          (add : (g : Writing s₁ out₁ place end place) (bs : Substitution) (ks : List Constraint) (made : ℕ) → ConstraintsHeld ws s₁ bs ks st.trail st.constraints → Sound bs ks made → AddedAs ws s₁ s₂ g out₂ bs (all_lines bs ks left) d) where
        pub added_now : AddedAs ws s₁ s₂ writing_now out₂ p.bindings (all_lines p.bindings p.kept left) d
        added_now = add writing_now p.bindings p.kept p.made (answer_kept a named_now) a.sound

        pub apart_now : Apart s₁ s₂
        apart_now = added_now.apart

        pub touched_now : Touched output out₂ (used + 1) end
        touched_now = added_now.touched

        pub names_now : Names s₂ top (names_of p.bindings params)
        names_now = answer_named a named_now room page_now _ d added_now

        module _ (look : (bs : Substitution) → Binds ws s bs → ThroughAs bs (parameters 0 params) st.steps (Ok left)) {s₃ : List ℕ} (clear : (names : List ℕ) → Names s₂ top names → Named s₂ s₃ 0 []) where
          pub halted_now : (e : Stopped) → d ≡ Err e → AnsweredAs P ws s output s₃ out₂ st p cs used (answer p params st.steps) (Err e)
          halted_now e i = answer_halted a named_now room page_now _ d added_now (clear _ names_now) (answer_on a left (look p.bindings (answer_binds a))) e i

          module _ {next rest : ℕ} (i : d ≡ Ok (next, rest)) where
            pub ends_now : Ends output out₂ used end (page_words p.bindings params added_now.lines) next
            ends_now = answer_ends a named_now room page_now _ d added_now next rest i

            pub answered_now : {out₃ : List ℕ} {q : Option ℕ} → end ≡ usable (length output) → ((o : List ℕ) (v : List ℕ) → Ends o out₂ used end v next → EndedAs o out₂ out₃ used end v next q)
                → AnsweredAs P ws s output s₃ out₃ st p cs used (answer p params st.steps) (Ok (q, rest))
            answered_now is_end finish =
                answer_done a named_now room page_now _ d added_now i (finish output _ ends_now) is_end (clear _ names_now) (answer_on a left (look p.bindings (answer_binds a)))
