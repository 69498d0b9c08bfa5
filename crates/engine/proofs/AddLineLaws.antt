-- Lines that stay: one law for each way in which the code returns or goes on, and what the definition lists.
use Prim.Native.Nat.{ℕ, suc, ◌+◌, ◌<◌, ◌≤◌}
use mathlib.Core.Path.{◌≡◌, refl, sym, ap, subst, ◌∙◌}
use mathlib.Core.Bool.{Bool, true, false, ◌&&◌, ◌||◌, not}
use mathlib.Core.List.{List, [], ◌∷◌, ◌++◌, append_assoc, append-nil}
use native.Mathlib.Omega.{arith}
use lib.Dec.{eqb}
use lib.ListN.{length, length-append}
use Rattle.std.specs.Prelude.{Option, Some}
use Rattle.std.specs.Option.{option_eq, unwrap_or}
use Rattle.rules.specs.Lists.{joined}
use Rattle.rules.specs.Reading.{choose}
use Rattle.rules.specs.Syntax.{empty, var, atom}
use Rattle.rules.specs.Written.{part, sort_kind, atom_word, term_words, goal_words, goals_words}
use Rattle.rules.specs.Inner.{Spells}
use Rattle.rules.proofs.Spelled.{stands_at as Spells_at, stands_split as spells_split}
use Rattle.semantics.specs.Answer.{index, reify, reify_bindings, differ_goals, Line, is_sort, lacks, not_all, line_in, line_words, lines_words, same_words, any_same, listed, stays}
use Rattle.semantics.proofs.Repeats.{same_refl, same_true}
use Rattle.semantics.proofs.Basics.{by_choose, compared, same, other, joined_more}
use Rattle.engine.specs.Term.{Puts, Touched, Laid, Missing, Placed, all_laid, some_missing}
use Rattle.engine.specs.Lines.{add_line, add_lines, Wholes, Stretch, Rows, AnswerSoFar, Writing, Extended}
use Rattle.engine.proofs.TermLaws.{room_same, laid_then, touched_then}
use Rattle.engine.proofs.RowLaws.{spells_one, wholes_snoc}

-- words are compared with those that stand there
pub same_said : {o o' : List ℕ} {place next : ℕ} {v : List ℕ} {r : Option ℕ} (w : List ℕ) → Placed o o' place next false v r → Stretch o place next w → option_eq eqb r (Some next) ≡ same_words v w
same_said {o} {o'} {place} {next} {v} w (all_laid {e = e} d) there = elim (compared e next) [
  | same q r ↦
      let z : v ≡ w = spells_one o place v w (subst (λ x. Spells x place v) (d.read_only refl) d.words) there.words (omega (arith, d.is, there.ends)) in
      r ∙ sym (subst (λ x. same_words x w ≡ true) (sym z) (same_refl w))
  | other n r ↦ r ∙ differs (λ z. n (omega (arith, d.is, there.ends, ap length z)))
]
  where
    differs : ¬ (v ≡ w) → false ≡ same_words v w
    differs n = go (same_words v w) refl
      where
        go : (b : Bool) → same_words v w ≡ b → false ≡ same_words v w
        go false z = sym z
        go true z = absurd (n (same_true v w z))
same_said {o} {o'} {place} {next} {v} w (some_missing m) there = go (same_words v w) refl
  where
    go : (b : Bool) → same_words v w ≡ b → false ≡ same_words v w
    go false q = sym q
    go true q = let z : v ≡ w = same_true v w q in absurd (m.differs refl (omega (arith, ap length z, there.ends)) (subst (Spells o place) (sym z) there.words))

pub read_back : {o o' : List ℕ} {place next : ℕ} {v : List ℕ} {r : Option ℕ} → Placed o o' place next false v r → o' ≡ o
read_back (all_laid h) = h.read_only refl
read_back (some_missing h) = h.read_only refl

-- a line is compared with an earlier one, between its ends
pub puts_between : {s o o' : List ℕ} {first at place next : ℕ} {names v : List ℕ} {a : Bool} → Puts s o first at names a → length o' ≡ length o → Stretch o' place next v → next ≤ at → Puts s o' place next names a
puts_between g e h l = record { from = omega (arith, h.ends); room = record { inside = omega (arith, g.room.inside, e); short = omega (arith, g.room.short) }; given = g.given; known = g.known }

line_part : (names : List ℕ) (l : Line) → (k : ℕ) × (rest : List ℕ) × (line_words names l ≡ part k rest)
unfolding goal_words
line_part names (is_sort k x) = (sort_kind k, term_words (var (index x names)), refl)
line_part names (lacks a x) = (9, atom_word a ∷ term_words (var (index x names)), refl)
line_part names (not_all []) = (6, term_words (atom empty) ++ term_words (atom empty), refl)
line_part names (not_all (b ∷ [])) = (6, term_words (var (index b.0 names)) ++ term_words (reify names b.1), refl)
line_part names (not_all (b ∷ c ∷ bs)) = (11, goals_words (differ_goals (index b.0 names, reify names b.1) (reify_bindings names (c ∷ bs))), refl)

module _ (names : List ℕ) (ws : List (List ℕ)) (l : Line) where
  line_added : line_in names l ≡ true → any_same (line_words names l) ws ≡ false → add_line names ws l ≡ ws ++ (line_words names l ∷ [])
  unfolding add_line
  line_added e f = rw (e, f)

  line_dropped : line_in names l ≡ false → add_line names ws l ≡ ws
  unfolding add_line
  line_dropped e = rw e

  line_repeats : line_in names l ≡ true → any_same (line_words names l) ws ≡ true → add_line names ws l ≡ ws
  unfolding add_line
  line_repeats e f = rw (e, f)

  add_longer : length (joined ws) ≤ length (joined (add_line names ws l))
  unfolding add_line
  add_longer = by_choose (λ (xs : List (List ℕ)). length (joined ws) ≤ length (joined xs)) (stays names ws l) _ _
      (λ q. omega (arith, ap length (joined_more ws (line_words names l)), length-append (joined ws) (line_words names l))) (λ q. omega arith)

-- a page that does not fit
pub page_over : {o₀ o : List ℕ} {begin first end place : ℕ} {head : List ℕ} {ws : List (List ℕ)} → end < place → end < begin + length (head ++ joined ws) → Touched o₀ o begin end → AnswerSoFar o₀ o begin first end place head ws
page_over beyond long t = record { stands = λ q. absurd (omega arith); whole = λ q. absurd (omega arith); begins = λ q. absurd (omega arith); over = λ _. long; touched = t }

-- one line more for an answer under way
module _ {s out : List ℕ} {first end place : ℕ} (g : Writing s out first end place) where
  pub page_rows : place ≤ end → Rows out first place g.lines
  page_rows e =
      let d = g.page.stands e in
      let a : length (g.head ++ joined g.lines) ≡ length g.head + length (joined g.lines) = length-append g.head (joined g.lines) in
      let b : first ≡ g.begin + length g.head = g.page.begins e in
      let c : place ≡ g.begin + length (g.head ++ joined g.lines) = d.is in
      record { stretch = record { words = Spells_at out (g.begin + length g.head) first (joined g.lines) (sym b) (spells_split out g.begin g.head (joined g.lines) d.words).1; ends = omega arith }; whole = g.page.whole e }

  -- it is compared with the earlier ones, and put behind them
  module _ {all_named : Bool} (e : place ≤ end) (k : all_named ≡ true) where
    pub earlier_puts : Puts s out first place g.names all_named
    earlier_puts = record {
      from = omega (arith, (page_rows e).stretch.ends);
      room = record { inside = omega (arith, g.room.inside); short = omega (arith, g.room.short) };
      given = g.given;
      known = k;
    }

    pub behind_puts : {out' : List ℕ} → out' ≡ out → Puts s out' place end g.names all_named
    behind_puts q = record { from = e; room = room_same (ap length q) g.room; given = g.given; known = k }

  module _ (l : Line) where
    -- nothing more fits
    pub page_full : end < place → Extended g out place (l ∷ [])
    unfolding add_lines
    page_full e =
        page_over e (omega (arith, g.page.over e, length-append g.head (joined g.lines), length-append g.head (joined (add_line g.names g.lines l)), add_longer g.names g.lines l)) g.page.touched

    as_before : add_line g.names g.lines l ≡ g.lines → Extended g out place (l ∷ [])
    unfolding add_lines
    as_before q = subst (AnswerSoFar g.before out g.begin first end place g.head) (sym q) g.page

    pub page_dropped : {named : Bool} → named ≡ line_in g.names l → named ≡ false → Extended g out place (l ∷ [])
    page_dropped f n = as_before (line_dropped g.names g.lines l (sym f ∙ n))

    module _ {o₁ : List ℕ} {named again : Bool} (f : named ≡ line_in g.names l) (n : named ≡ true) (unread : o₁ ≡ out) (i : again ≡ any_same (line_words g.names l) g.lines) where
      pub page_repeated : again ≡ true → Extended g o₁ place (l ∷ [])
      page_repeated k = subst (λ x. Extended g x place (l ∷ [])) (sym unread) (as_before (line_repeats g.names g.lines l (sym f ∙ n) (sym i ∙ k)))

      module _ (e : place ≤ end) (k : again ≡ false) where
        added : add_line g.names g.lines l ≡ g.lines ++ (line_words g.names l ∷ [])
        added = line_added g.names g.lines l (sym f ∙ n) (sym i ∙ k)

        longer : g.head ++ joined (add_line g.names g.lines l) ≡ (g.head ++ joined g.lines) ++ line_words g.names l
        longer = ap (λ x. g.head ++ joined x) added ∙ ap (λ x. g.head ++ x) (joined_more g.lines (line_words g.names l)) ∙ sym (append_assoc g.head (joined g.lines) (line_words g.names l))

        page_missed : {o₂ : List ℕ} → Missing o₁ o₂ place end true (line_words g.names l) → Extended g o₂ (end + 1) (l ∷ [])
        unfolding add_lines
        page_missed {o₂} m =
            let d = g.page.stands e in
            let c : place ≡ g.begin + length (g.head ++ joined g.lines) = d.is in
            let z = m.no_room refl in
            page_over (omega arith) (omega (arith, ap length longer, length-append (g.head ++ joined g.lines) (line_words g.names l)))
            (touched_then g.begin end place end g.begin end (omega arith) (omega arith) (omega arith) (omega arith) g.page.touched (subst (λ x. Touched x o₂ place end) unread m.touched))

        page_put : {o₂ : List ℕ} {next : ℕ} → Laid o₁ o₂ place end true (line_words g.names l) next → Extended g o₂ next (l ∷ [])
        unfolding add_lines
        page_put {o₂} {next} q =
            let d = g.page.stands e in
            let u = subst (λ x. Laid x o₂ place end true (line_words g.names l) next) unread q in
            let lp = line_part g.names l in
            let c : place ≡ g.begin + length (g.head ++ joined g.lines) = d.is in
            let z : next ≡ place + length (line_words g.names l) = u.is in
            let b : next ≤ end = u.fits in
            let y : length (line_words g.names l) ≡ suc (length lp.1) = ap length lp.2 in
            record {
              stands = λ _. subst (λ x. Laid g.before o₂ g.begin end true x next) (sym longer) (laid_then d u);
              whole = λ _. subst Wholes (sym added) (wholes_snoc g.lines (line_words g.names l) (g.page.whole e) (record { kind = lp.0; rest = lp.1; is = lp.2; short = omega (arith, g.room.short) }));
              begins = λ _. g.page.begins e;
              over = λ z. absurd (omega arith);
              touched = touched_then g.begin end place next g.begin end (omega arith) (omega arith) (omega arith) (omega arith) g.page.touched u.touched;
            }

        pub page_next : {o₂ : List ℕ} {r : Option ℕ} → Placed o₁ o₂ place end true (line_words g.names l) r → Extended g o₂ (unwrap_or r (end + 1)) (l ∷ [])
        page_next (all_laid u) = page_put u
        page_next (some_missing m) = page_missed m

-- what the definition lists
pub any_snoc : (v w : List ℕ) (ws : List (List ℕ)) → any_same v (ws ++ (w ∷ [])) ≡ (same_words v w || any_same v ws)
any_snoc v w [] = refl
any_snoc v w (x ∷ ws) = ap (λ b. same_words v x || b) (any_snoc v w ws) ∙ swap (same_words v x) (same_words v w) (any_same v ws)
  where
    swap : (a b c : Bool) → (a || (b || c)) ≡ (b || (a || c))
    swap true true c = refl
    swap true false c = refl
    swap false true c = refl
    swap false false c = refl

pub lines_listed : (names : List ℕ) (ws before : List (List ℕ)) (ls : List Line) → ((v : List ℕ) → any_same v ws ≡ any_same v before) → joined (add_lines names ws ls) ≡ joined ws ++ lines_words names (listed names before ls)
unfolding add_lines add_line
lines_listed names ws before [] e = sym (append-nil (joined ws))
lines_listed names ws before (l ∷ ls) e =
    subst (λ c. joined (add_lines names (choose c (λ _. ws ++ (line_words names l ∷ [])) (λ _. ws)) ls) ≡ joined ws ++ lines_words names (listed names before (l ∷ ls)))
    (ap (λ b. line_in names l && not b) (sym (e (line_words names l))))
    (go (stays names before l)
    (lines_listed names (ws ++ (line_words names l ∷ [])) (line_words names l ∷ before) ls (λ v. any_snoc v (line_words names l) ws ∙ ap (λ b. same_words v (line_words names l) || b) (e v)))
    (lines_listed names ws before ls e))
  where
    v : List ℕ
    v = line_words names l

    go : (b : Bool) → joined (add_lines names (ws ++ (v ∷ [])) ls) ≡ joined (ws ++ (v ∷ [])) ++ lines_words names (listed names (v ∷ before) ls) → joined (add_lines names ws ls) ≡ joined ws ++ lines_words names (listed names before ls)
        → joined (add_lines names (choose b (λ _. ws ++ (v ∷ [])) (λ _. ws)) ls) ≡ joined ws ++ lines_words names (choose b (λ _. l ∷ listed names (v ∷ before) ls) (λ _. listed names before ls))
    go true h i = h ∙ ap (λ x. x ++ lines_words names (listed names (v ∷ before) ls)) (joined_more ws v) ∙ append_assoc (joined ws) v (lines_words names (listed names (v ∷ before) ls))
    go false h i = i
