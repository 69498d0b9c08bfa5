-- The answer's own variables: the names are the variables of the query terms by first appearance, and an assignment of the one makes one of the other.
use Prim.Native.Nat.{◌+◌, ◌<◌, ◌≤◌, suc, ℕ}
use mathlib.Core.Bool.{Bool, ◌&&◌, ◌||◌, false, true}
use mathlib.Core.List.{List, [], ◌++◌, ◌∷◌, map}
use mathlib.Core.Logic.{◌↔◌}
use mathlib.Core.Path.{◌∙◌, ◌≡◌, ap, ap₂, refl, sym}
use native.Mathlib.Omega.{arith}
use lib.Dec.{eqb}
use lib.ListN.{get_or, length, length-append}
use borrow.Author.Tests.{eq-eqb, eqb-true}
use Rattle.word.specs.Word.{kind}
use Rattle.rules.specs.Lists.{Each}
use Rattle.rules.specs.Reading.{choose}
use Rattle.rules.specs.Syntax.{Sort, Term, atom, pair, var}
use Rattle.rules.specs.Written.{goal_words, goals_words, term_words, terms_words}
use Rattle.semantics.specs.Answer.{Line, appear, appear_all, bindings_in, differ_goal, differ_goals, index, is_sort, lacks, line_in, line_words, not_all, reify, reify_bindings, reify_line, vars_in}
use Rattle.semantics.specs.Invariant.{In, Sat, TermIn}
use Rattle.semantics.specs.Logic.{Assignment, node, value}
use Rattle.semantics.specs.Shows.{payloads}
use Rattle.semantics.specs.Unify.{member}
use Rattle.semantics.proofs.Basics.{and_true, by_choose, clash, or_right}
use Rattle.semantics.proofs.Fill.{LineGood, Met, member_left}
use Rattle.semantics.proofs.LineLaws.{LineIn}
use Rattle.rules.specs.WellFormed.{TermGood}
use Rattle.semantics.proofs.ReadBack.{EquationFits, LineFits, TermFits, TermsFit}

abbrev pub outer : List ℕ → Assignment → Assignment
outer names β x = β (index x names)

abbrev pub inner : List ℕ → Assignment → Assignment
inner names α i = α (get_or names i 0)

pub value_outer : (names : List ℕ) (β : Assignment) (t : Term) → value (outer names β) t ≡ value β (reify names t)
value_outer names β (var x) = refl
value_outer names β (atom a) = refl
value_outer names β (pair s t) = ap₂ node (value_outer names β s) (value_outer names β t)

pub values_outer : (names : List ℕ) (β : Assignment) (ts : List Term) → map (value (outer names β)) ts ≡ map (value β) (map (reify names) ts)
values_outer names β [] = refl
values_outer names β (t ∷ ts) = ap₂ ◌∷◌ (value_outer names β t) (values_outer names β ts)

equal_outer : (names : List ℕ) (β : Assignment) (bs : List (ℕ × Term)) → Sat (outer names β) bs ↔ Sat β (reify_bindings names bs)
equal_outer names β [] = (λ h. h, λ h. h)
equal_outer names β (b ∷ bs) =
    let k = equal_outer names β bs in let e = value_outer names β b.1 in
    (λ h. (h.0 ∙ e, k.0 h.1), λ h. (h.0 ∙ sym e, k.1 h.1))

pub met_outer : (names : List ℕ) (β : Assignment) (l : Line) → Met (outer names β) l ↔ Met β (reify_line names l)
met_outer names β (is_sort k x) = (λ h. h, λ h. h)
met_outer names β (lacks a x) = (λ h. h, λ h. h)
met_outer names β (not_all bs) = let k = equal_outer names β bs in (λ h q. h (k.1 q), λ h q. h (k.0 q))

at_index : (x : ℕ) (names : List ℕ) → member x names ≡ true → get_or names (index x names) 0 ≡ x
at_index x [] e = clash (cc)
at_index x (y ∷ ys) e = go (eqb x y) refl e (at_index x ys)
  where
    go : (b : Bool) → eqb x y ≡ b → (b || member x ys) ≡ true → (member x ys ≡ true → get_or ys (index x ys) 0 ≡ x) → get_or (y ∷ ys) (choose b (λ _. 0) (λ _. suc (index x ys))) 0 ≡ x
    go true q h ih = sym (eqb-true x y q)
    go false q h ih = ih h

pub inner_outer : (names : List ℕ) (α : Assignment) (x : ℕ) → member x names ≡ true → outer names (inner names α) x ≡ α x
inner_outer names α x e = ap α (at_index x names e)

pub index_less : (x : ℕ) (names : List ℕ) → member x names ≡ true → index x names < length names
index_less x [] e = clash (cc)
index_less x (y ∷ ys) e = go (eqb x y) e (index_less x ys)
  where
    go : (b : Bool) → (b || member x ys) ≡ true → (member x ys ≡ true → index x ys < length ys) → choose b (λ _. 0) (λ _. suc (index x ys)) < suc (length ys)
    go true h ih = omega arith
    go false h ih = let r = ih h in omega arith

-- what has appeared

member_last : (x : ℕ) (s : List ℕ) → member x (s ++ (x ∷ [])) ≡ true
member_last x [] = rw (eq-eqb x x refl)
member_last x (y ∷ ys) = rw (member_last x ys) (or_right (eqb x y))

appear_keeps : (x : ℕ) (s : List ℕ) (t : Term) → member x s ≡ true → member x (appear s t) ≡ true
appear_keeps x s (var y) e = by_choose (λ (r : List ℕ). member x r ≡ true) (member y s) _ _ (λ q. e) (λ q. member_left x s (y ∷ []) e)
appear_keeps x s (atom a) e = e
appear_keeps x s (pair t u) e = appear_keeps x (appear s t) u (appear_keeps x s t e)

vars_more : (s r : List ℕ) → ((x : ℕ) → member x s ≡ true → member x r ≡ true) → (t : Term) → vars_in s t ≡ true → vars_in r t ≡ true
vars_more s r h (var x) e = h x e
vars_more s r h (atom a) e = refl
vars_more s r h (pair t u) e = let (p, q) = and_true (vars_in s t) (vars_in s u) e in rw (vars_more s r h t p, vars_more s r h u q)

appear_has : (s : List ℕ) (t : Term) → vars_in (appear s t) t ≡ true
appear_has s (var x) = by_choose (λ (r : List ℕ). member x r ≡ true) (member x s) _ _ (λ q. q) (λ q. member_last x s)
appear_has s (atom a) = refl
appear_has s (pair t u) = rw (vars_more (appear s t) (appear (appear s t) u) (λ x. appear_keeps x (appear s t) u) t (appear_has s t), appear_has (appear s t) u)

appear_all_keeps : (x : ℕ) (s : List ℕ) (ts : List Term) → member x s ≡ true → member x (appear_all s ts) ≡ true
appear_all_keeps x s [] e = e
appear_all_keeps x s (t ∷ ts) e = appear_all_keeps x (appear s t) ts (appear_keeps x s t e)

pub appear_all_has : (s : List ℕ) (ts : List Term) → Each (λ t. vars_in (appear_all s ts) t ≡ true) ts
appear_all_has s [] = tt
appear_all_has s (t ∷ ts) = (vars_more (appear s t) (appear_all (appear s t) ts) (λ x. appear_all_keeps x (appear s t) ts) t (appear_has s t), appear_all_has (appear s t) ts)

-- there are no more names than words of the query terms

appear_few : (names s : List ℕ) (t : Term) → length (appear s t) ≤ length s + length (term_words (reify names t))
unfolding term_words
appear_few names s (var x) = by_choose (λ (r : List ℕ). length r ≤ length s + 1) (member x s) _ _ (λ q. omega arith) (λ q. omega (arith, length-append s (x ∷ [])))
appear_few names s (atom a) = omega arith
appear_few names s (pair t u) =
    let p = appear_few names s t in let q = appear_few names (appear s t) u in let e = length-append (term_words (reify names t)) (term_words (reify names u)) in omega arith

pub appear_all_few : (names s : List ℕ) (ts : List Term) → length (appear_all s ts) ≤ length s + length (terms_words (map (reify names) ts))
unfolding terms_words
appear_all_few names s [] = omega arith
appear_all_few names s (t ∷ ts) =
    let p = appear_few names s t in let q = appear_all_few names (appear s t) ts in let e = length-append (term_words (reify names t)) (terms_words (map (reify names) ts)) in omega arith

-- terms and lines over the names fit their words

module _ (names : List ℕ) (top : ℕ) (few : length names < payloads) where
  name_fits : (x : ℕ) → member x names ≡ true → index x names < payloads
  name_fits x e = let h = index_less x names e in omega arith

  pub term_fits : (t : Term) → vars_in names t ≡ true → TermIn top t → length (term_words (reify names t)) < payloads → TermFits (reify names t)
  unfolding term_words TermGood
  term_fits (var x) e h s = name_fits x e
  term_fits (atom a) e h s = h
  term_fits (pair t u) e h s =
      let a = length-append (term_words (reify names t)) (term_words (reify names u)) in let (p, q) = and_true (vars_in names t) (vars_in names u) e in
      (term_fits t p h.0 (omega arith), term_fits u q h.1 (omega arith))

  pub terms_fit : (ts : List Term) → Each (λ t. vars_in names t ≡ true) ts → Each (TermIn top) ts → length (terms_words (map (reify names) ts)) < payloads → TermsFit (map (reify names) ts)
  unfolding terms_words
  terms_fit [] e h s = tt
  terms_fit (t ∷ ts) e h s =
      let a = length-append (term_words (reify names t)) (terms_words (map (reify names) ts)) in (term_fits t e.0 h.0 (omega arith), terms_fit ts e.1 h.1 (omega arith))

  equation_fits : (b : ℕ × Term) → (member b.0 names && vars_in names b.1) ≡ true → TermIn top b.1 → length (goal_words (differ_goal (index b.0 names, reify names b.1))) ≤ payloads → EquationFits (index b.0 names, reify names b.1)
  unfolding goal_words term_words
  equation_fits b e h s =
      let (p, q) = and_true (member b.0 names) (vars_in names b.1) e in
      (name_fits b.0 p, term_fits b.1 q h (omega (arith, length-append (term_words (var (index b.0 names))) (term_words (reify names b.1)))))

  equations_fit : (b : ℕ × Term) (bs : List (ℕ × Term)) → bindings_in names (b ∷ bs) ≡ true → In top (b ∷ bs) → length (goals_words (differ_goals (index b.0 names, reify names b.1) (reify_bindings names bs))) ≤ payloads →
      Each EquationFits (reify_bindings names (b ∷ bs))
  unfolding goal_words
  equations_fit b [] e h s = (equation_fits b (and_true _ _ e).0 h.0.1 s, tt)
  equations_fit b (c ∷ bs) e h s =
      let (p, q) = and_true (member b.0 names && vars_in names b.1) (bindings_in names (c ∷ bs)) e in
      let a = length-append (goal_words (differ_goal (index b.0 names, reify names b.1))) (goals_words (differ_goals (index c.0 names, reify names c.1) (reify_bindings names bs))) in
      (equation_fits b p h.0.1 (omega arith), equations_fit c bs q h.1 (omega arith))

  pub line_fits : (kind : ℕ → Sort) (tags : List ℕ) (l : Line) → LineGood kind tags l → LineIn top l → line_in names l ≡ true → length (line_words names l) ≤ payloads → LineFits (reify_line names l)
  unfolding goal_words
  line_fits kind tags (is_sort k x) g h e s = name_fits x e
  line_fits kind tags (lacks a x) g h e s = (h.0, name_fits x e)
  line_fits kind tags (not_all []) g h e s = absurd g
  line_fits kind tags (not_all (b ∷ [])) g h e s = equations_fit b [] e h s
  line_fits kind tags (not_all (b ∷ c ∷ bs)) g h e s = equations_fit b (c ∷ bs) e h (omega arith)
