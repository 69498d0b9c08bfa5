-- Paths that are alike give answers of the same words, with the same steps.
use Prim.Native.Nat.{◌+◌, ◌-◌, ◌<◌, suc, zero, ℕ}
use mathlib.Core.Bool.{◌&&◌, not}
use mathlib.Core.List.{List, [], ◌++◌, ◌∷◌}
use mathlib.Core.Option.{Option}
use mathlib.Core.Path.{◌≡◌, ap, ap₂, refl, subst}
use native.Mathlib.Omega.{arith}
use lib.Dec.{eqb}
use lib.ListN.{length}
use Rattle.rules.specs.Syntax.{Atom, Constraint, Sort, Term, pair, var}
use Rattle.rules.specs.Written.{goal_words, part, terms_words}
use Rattle.semantics.specs.Answer.{Line, all_lines, answer, answer_words, any_same, appear, appear_all, bindings_in, index, is_sort, lacks, lacks_each, line_goal, line_in, line_words, lines_of, lines_words, listed, look_through, names_of, not_all, parameters, query_terms, reify, reify_bindings, reify_line, resolve_right, stays, trial_bindings, trial_lines, typed_lines, vars_in}
use Rattle.semantics.specs.Path.{Path}
use Rattle.semantics.specs.Steps.{Bound, Outcome}
use Rattle.semantics.specs.Substitution.{Substitution, put, resolve}
use Rattle.semantics.specs.Unify.{member, never, scan}
use Rattle.semantics.proofs.Alike.{BindingsLike, ConstraintLike, ConstraintsLike, OneToOne, Renaming, TermLike, TermsLike, absento_like, atom_like, differ_like, member_like, pair_like, scan_like, typed_like, unify_terms_like, var_like, walk_like}
use Rattle.semantics.proofs.Liftings.{OptionLike, OutcomeLike, Pointwise, append_like, choose_like, cons_like, done_like, length_like, map_like, map_same, nil_like, none_like, reverse_like, some_like, take_like, then_like}

module _ (N : Renaming) (pairs : OneToOne N) where
  abbrev NamesLike : List ℕ → List ℕ → Type 0
  NamesLike = Pointwise N

  -- names
  appear_like : {xs ys : List ℕ} {s t : Term} → NamesLike xs ys → TermLike N s t → NamesLike (appear xs s) (appear ys t)
  appear_like {xs} {ys} k (var_like {x} {y} h) = choose_like NamesLike (member x xs) (member y ys) _ _ _ _ (member_like N pairs x y h k) k (append_like k (cons_like h nil_like))
  appear_like k atom_like = k
  appear_like {xs = xs} {ys = ys} k (pair_like {s = s} {t = t} {u = u} {v = v} h i) = appear_like {xs = appear xs s} {ys = appear ys u} {s = t} {t = v} (appear_like {xs = xs} {ys = ys} {s = s} {t = u} k h) i

  appear_all_like : {xs ys : List ℕ} {ss ts : List Term} → NamesLike xs ys → TermsLike N ss ts → NamesLike (appear_all xs ss) (appear_all ys ts)
  appear_all_like k nil_like = k
  appear_all_like {xs = xs} {ys = ys} k (cons_like {a = s} {b = t} {xs = ss} {ys = ts} h hs) = appear_all_like {xs = appear xs s} {ys = appear ys t} {ss = ss} {ts = ts} (appear_like {xs = xs} {ys = ys} {s = s} {t = t} k h) hs

  pub index_like : (x y : ℕ) {xs ys : List ℕ} → N x y → NamesLike xs ys → index x xs ≡ index y ys
  index_like x y h nil_like = refl
  index_like x y h (cons_like {a = u} {b = v} k ks) = choose_like (λ i j. i ≡ j) (eqb x u) (eqb y v) _ _ _ _ (pairs x u y v h k) refl (ap suc (index_like x y h ks))

  reify_like : {xs ys : List ℕ} {s t : Term} → NamesLike xs ys → TermLike N s t → reify xs s ≡ reify ys t
  reify_like k (var_like {x} {y} h) = ap var (index_like x y h k)
  reify_like k atom_like = refl
  reify_like k (pair_like h i) = ap₂ pair (reify_like k h) (reify_like k i)

  vars_in_like : {xs ys : List ℕ} {s t : Term} → NamesLike xs ys → TermLike N s t → vars_in xs s ≡ vars_in ys t
  vars_in_like k (var_like {x} {y} h) = member_like N pairs x y h k
  vars_in_like k atom_like = refl
  vars_in_like k (pair_like h i) = ap₂ (λ p q. p && q) (vars_in_like k h) (vars_in_like k i)

  -- lines
  data LineLike : Line → Line → Type 0 where
    sort_like : {k : Sort} {x y : ℕ} → N x y → LineLike (is_sort k x) (is_sort k y)
    lacks_like : {a : Atom} {x y : ℕ} → N x y → LineLike (lacks a x) (lacks a y)
    not_all_like : {bs cs : List (ℕ × Term)} → BindingsLike N bs cs → LineLike (not_all bs) (not_all cs)

  reify_bindings_like : {xs ys : List ℕ} {bs cs : List (ℕ × Term)} → NamesLike xs ys → BindingsLike N bs cs → reify_bindings xs bs ≡ reify_bindings ys cs
  reify_bindings_like k nil_like = refl
  reify_bindings_like {xs} {ys} k (cons_like {a = b} {b = c} h hs) =
      ap₂ {A = ℕ × Term} {B = List (ℕ × Term)} (λ p q. p ∷ q) (ap₂ (λ i t. (i, t)) (index_like b.0 c.0 h.0 k) (reify_like k h.1)) (reify_bindings_like k hs)

  reify_line_like : {xs ys : List ℕ} {l m : Line} → NamesLike xs ys → LineLike l m → reify_line xs l ≡ reify_line ys m
  reify_line_like k (sort_like {k = s} {x} {y} h) = ap (is_sort s) (index_like x y h k)
  reify_line_like k (lacks_like {a} {x} {y} h) = ap (lacks a) (index_like x y h k)
  reify_line_like k (not_all_like h) = ap not_all (reify_bindings_like k h)

  bindings_in_like : {xs ys : List ℕ} {bs cs : List (ℕ × Term)} → NamesLike xs ys → BindingsLike N bs cs → bindings_in xs bs ≡ bindings_in ys cs
  bindings_in_like k nil_like = refl
  bindings_in_like k (cons_like {a = b} {b = c} h hs) = ap₂ (λ p q. p && q) (ap₂ (λ p q. p && q) (member_like N pairs b.0 c.0 h.0 k) (vars_in_like k h.1)) (bindings_in_like k hs)

  line_in_like : {xs ys : List ℕ} {l m : Line} → NamesLike xs ys → LineLike l m → line_in xs l ≡ line_in ys m
  line_in_like k (sort_like {x} {y} h) = member_like N pairs x y h k
  line_in_like k (lacks_like {x} {y} h) = member_like N pairs x y h k
  line_in_like k (not_all_like h) = bindings_in_like k h

  line_words_like : {xs ys : List ℕ} (l m : Line) → NamesLike xs ys → LineLike l m → line_words xs l ≡ line_words ys m
  line_words_like l m k h = ap (λ l. goal_words (line_goal l)) (reify_line_like k h)

  stays_like : {xs ys : List ℕ} (before : List (List ℕ)) (l m : Line) → NamesLike xs ys → LineLike l m → stays xs before l ≡ stays ys before m
  stays_like before l m k h = ap₂ (λ p q. p && not (any_same q before)) (line_in_like k h) (line_words_like l m k h)

  listed_like : {xs ys : List ℕ} (before : List (List ℕ)) {ls ms : List Line} → NamesLike xs ys → Pointwise LineLike ls ms → Pointwise LineLike (listed xs before ls) (listed ys before ms)
  listed_like before k nil_like = nil_like
  listed_like {xs} {ys} before k (cons_like {a = l} {b = m} {xs = ls} {ys = ms} h hs) =
      choose_like (Pointwise LineLike) (stays xs before l) (stays ys before m) _ _ _ _ (stays_like before l m k h)
      (cons_like h (subst (λ (w : List ℕ). Pointwise LineLike (listed xs (line_words xs l ∷ before) ls) (listed ys (w ∷ before) ms)) (line_words_like l m k h) (listed_like (line_words xs l ∷ before) k hs)))
      (listed_like before k hs)

  lines_words_like : {xs ys : List ℕ} {ls ms : List Line} → NamesLike xs ys → Pointwise LineLike ls ms → lines_words xs ls ≡ lines_words ys ms
  lines_words_like k nil_like = refl
  lines_words_like k (cons_like {a = l} {b = m} h hs) = ap₂ (λ p q. p ++ q) (line_words_like l m k h) (lines_words_like k hs)

  -- resolved terms
  put_like : (x y : ℕ) (u v : Unit {0} → Term) {s t : Term} → N x y → TermLike N (u tt) (v tt) → TermLike N s t → TermLike N (put x u s) (put y v t)
  put_like x y u v n k (var_like {x = p} {y = q} h) = choose_like (TermLike N) (eqb x p) (eqb y q) _ _ _ _ (pairs x p y q n h) k (var_like h)
  put_like x y u v n k atom_like = atom_like
  put_like x y u v n k (pair_like h i) = pair_like (put_like x y u v n k h) (put_like x y u v n k i)

  resolve_like : {bs cs : Substitution} {s t : Term} → BindingsLike N bs cs → TermLike N s t → TermLike N (resolve bs s) (resolve cs t)
  resolve_like nil_like h = h
  resolve_like (cons_like {a = b} {b = c} k ks) h = put_like b.0 c.0 _ _ k.0 (resolve_like ks k.1) (resolve_like ks h)

  -- the query terms: their variables are the same on both sides
  parameters_like : (i n : ℕ) → ((x : ℕ) → x < i + n → N x x) → TermsLike N (parameters i n) (parameters i n)
  parameters_like i zero f = nil_like
  parameters_like i (suc n) f = cons_like (var_like (f i (omega arith))) (parameters_like (suc i) n (λ x h. f x (omega arith)))

  -- lines of constraints
  typed_lines_like : (k : Sort) {s t : Term} → TermLike N s t → Pointwise LineLike (typed_lines k s) (typed_lines k t)
  typed_lines_like k (var_like h) = cons_like (sort_like h) nil_like
  typed_lines_like k atom_like = nil_like
  typed_lines_like k (pair_like h i) = nil_like

  lacks_each_like : (a : Atom) {xs ys : List ℕ} → NamesLike xs ys → Pointwise LineLike (lacks_each a xs) (lacks_each a ys)
  lacks_each_like a nil_like = nil_like
  lacks_each_like a (cons_like h hs) = cons_like (lacks_like h) (lacks_each_like a hs)

  trial_bindings_like : {bs cs bs' cs' : Substitution} → BindingsLike N bs cs → BindingsLike N bs' cs' → BindingsLike N (trial_bindings bs bs') (trial_bindings cs cs')
  trial_bindings_like {bs} {cs} {bs'} {cs'} h k = rw (length_like h, length_like k) (reverse_like (take_like (length cs' - length cs) k) nil_like)

  resolve_right_like : {bs cs : Substitution} {ds es : List (ℕ × Term)} → BindingsLike N bs cs → BindingsLike N ds es → BindingsLike N (resolve_right bs ds) (resolve_right cs es)
  resolve_right_like b nil_like = nil_like
  resolve_right_like b (cons_like h hs) = cons_like (h.0, resolve_like b h.1) (resolve_right_like b hs)

  answer_words_like : (n : ℕ) {bs cs : Substitution} {ls ms : List Line} → ((x : ℕ) → x < n → N x x) → BindingsLike N bs cs → Pointwise LineLike ls ms → answer_words bs n ls ≡ answer_words cs n ms
  answer_words_like n {bs} {cs} {ls} {ms} f b h =
      let qs : TermsLike N (query_terms bs 0 n) (query_terms cs 0 n) = map_like (resolve bs) (resolve cs) (λ s t h. resolve_like b h) (parameters_like 0 n (λ x i. f x (omega arith))) in
      let names : NamesLike (names_of bs n) (names_of cs n) = appear_all_like nil_like qs in
      ap₂ (λ ts ws. part 15 (terms_words ts ++ ws)) (map_same (reify (names_of bs n)) (reify (names_of cs n)) (λ s t h. reify_like names h) qs) (lines_words_like names (listed_like [] names h))

  module _ (Waived : Bound → Type 0) where
    -- what the writer looks at
    look_at_like : {bs cs : Substitution} {s t : Term} → BindingsLike N bs cs → TermLike N s t → (left : ℕ) → OutcomeLike Waived (λ x y. x ≡ y) (scan never bs [] s left) (scan never cs [] t left)
    look_at_like {s} {t} b h left = scan_like N pairs Waived never never (λ s t h. refl) b [] [] s t nil_like h left

    look_through_like : {bs cs : Substitution} {ss ts : List Term} → BindingsLike N bs cs → TermsLike N ss ts → (left : ℕ) → OutcomeLike Waived (λ x y. x ≡ y) (look_through bs ss left) (look_through cs ts left)
    look_through_like b nil_like left = done_like refl
    look_through_like b (cons_like h hs) left = then_like (λ x y. x ≡ y) _ _ (look_at_like b h left) (λ x y l e. look_through_like b hs l)

    abbrev LinesLike : Outcome (List Line) → Outcome (List Line) → Type 0
    LinesLike = OutcomeLike Waived (Pointwise LineLike)

    trial_lines_like : {bs cs : Substitution} {o o' : Option Substitution} → BindingsLike N bs cs → OptionLike (BindingsLike N) o o' → (left : ℕ) → LinesLike (trial_lines bs o left) (trial_lines cs o' left)
    trial_lines_like b none_like left = done_like nil_like
    trial_lines_like b (some_like k) left =
        let t = trial_bindings_like b k in
        then_like (Pointwise LineLike) _ _ (look_through_like b (map_like (λ (b : ℕ × Term). b.1) (λ (b : ℕ × Term). b.1) (λ b c h. h.1) t) left) (λ x y l e. done_like (cons_like (not_all_like (resolve_right_like b t)) nil_like))

    lines_of_like : {bs cs : Substitution} {c d : Constraint} → BindingsLike N bs cs → ConstraintLike N c d → (left : ℕ) → LinesLike (lines_of bs c left) (lines_of cs d left)
    lines_of_like b (differ_like {s} {t} {u} {v} h i) left = then_like (Pointwise LineLike) _ _ (unify_terms_like N pairs Waived s t u v b h i left) (λ o o' l e. trial_lines_like b e l)
    lines_of_like b (typed_like {k} {s} {t} h) left = then_like (Pointwise LineLike) _ _ (look_at_like b h left) (λ x y l e. done_like (typed_lines_like k (walk_like N pairs s t b h)))
    lines_of_like b (absento_like {a} h) left = then_like (Pointwise LineLike) _ _ (look_at_like b h left) (λ x y l e. done_like (lacks_each_like a (appear_like nil_like (resolve_like b h))))

    all_lines_like : {bs cs : Substitution} {ds es : List Constraint} → BindingsLike N bs cs → ConstraintsLike N ds es → (left : ℕ) → LinesLike (all_lines bs ds left) (all_lines cs es left)
    all_lines_like b nil_like left = done_like nil_like
    all_lines_like b (cons_like h hs) left =
        then_like (Pointwise LineLike) _ _ (lines_of_like b h left) (λ ls ms l e. then_like (Pointwise LineLike) _ _ (all_lines_like b hs l) (λ js ks m f. done_like (append_like e f)))

    pub answer_like : (n : ℕ) (p q : Path) → ((x : ℕ) → x < n → N x x) → BindingsLike N p.bindings q.bindings → ConstraintsLike N p.kept q.kept → (left : ℕ) →
        OutcomeLike Waived (λ x y. x ≡ y) (answer p n left) (answer q n left)
    answer_like n p q f b h left =
        then_like (λ x y. x ≡ y) _ _ (look_through_like b (parameters_like 0 n (λ x i. f x (omega arith))) left) (λ x y l e.
        then_like (λ x y. x ≡ y) _ _ (all_lines_like b h l) (λ ls ms m k. done_like (answer_words_like n f b k)))
