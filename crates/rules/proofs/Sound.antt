-- What a reader has found stands in the words, in its written form, and is good: reading goes back to writing.
use mathlib.Core.Path.{◌≡◌, refl, ap, ◌∙◌}
use mathlib.Core.Bool.{Bool, true, false, ◌&&◌}
use mathlib.Core.List.{List, [], ◌∷◌, ◌++◌}
use Prim.Native.Nat.{ℕ, zero, suc, ◌+◌, ◌-◌, ◌<◌, ◌≤◌}
use native.Mathlib.Omega.{arith}
use lib.Dec.{eqb, ltb, leb}
use lib.ListN.{length, get_or, length-append}
use borrow.Author.Tests.{ltb-true, ltb-false, leb-true, leb-false, eqb-true, eqb-false}
use Rattle.word.specs.Word.{payload, word}
use Rattle.rules.specs.Syntax.{Atom, symbol, number, Term, pair, Goal, Goals, Relation, Program}
use Rattle.rules.specs.Written.{atom_word, term_words, terms_words, goal_words, goals_words, relation_words, written, part}
use Rattle.rules.specs.Reading.{found, fill, kind_at, payload_at, after, read_word, read_leaf, read_term, read_one, read_two, read_terms, goal_kind, goal_parts, read_goal, read_goals, read_atom, read_tag, read_absento, read_call, read_body, read_variables, read_relation, read_relations, two_terms, one_term, of_goals}
use Rattle.rules.specs.WellFormed.{TagGood, TermGood, TermsGood, GoalGood, GoalsGood, RelationGood, RelationsGood}
use Rattle.rules.proofs.Combine.{found_not_refused, found_carries, require_found, choose_found, next_found, fill_found, and_true}
use Rattle.rules.specs.Inner.{Spells}
use Rattle.rules.proofs.Spelled.{stands_at, stands_append, is_word}

-- `xs`, which is good, stands from `at` up to `n`, which is not past `end`
pub record Found (ws : List ℕ) (at end : ℕ) (xs : List ℕ) (Good : Type 0) (n : ℕ) : Type 0 where
  pub stands : Spells ws at xs
  pub to : n ≡ at + length xs
  pub within : n ≤ end
  pub good : Good

abbrev pub FoundTerm : List ℕ → ℕ → ℕ → ℕ → Term → ℕ → Type 0
FoundTerm ws vars at end t n = Found ws at end (term_words t) (TermGood vars t) n

-- a word at `at`
one_word : (ws : List ℕ) (at end w : ℕ) (Good : Type 0) → get_or ws at 0 ≡ w → at < end → Good → Found ws at end (w ∷ []) Good (at + 1)
unfolding Spells
one_word ws at end w Good e l g = record { stands = (e, tt); to = refl; within = omega arith; good = g }

payload_small : (w : ℕ) → payload w < 268435456
payload_small w = omega arith

-- what stands one after the other
pub joined : (ws : List ℕ) (at end : ℕ) (xs ys : List ℕ) (G H : Type 0) (n m : ℕ) → Found ws at end xs G n → Found ws n end ys H m → Found ws at end (xs ++ ys) (G × H) m
joined ws at end xs ys G H n m f g =
    record {
      stands = stands_append ws at xs ys f.stands (stands_at ws n (at + length xs) ys f.to g.stands);
      to = simp length-append (omega (arith, f.to, g.to));
      within = g.within;
      good = (f.good, g.good);
    }

-- a part of kind k whose words fill it
pub parted : (ws : List ℕ) (k at end : ℕ) (xs : List ℕ) (G : Type 0) (n : ℕ) → kind_at ws at ≡ k → after ws at ≤ end → Found ws (at + 1) (after ws at) xs G n → after ws at ≤ n → Found ws at end (part k xs) G n
unfolding Spells
parted ws k at end xs G n e l f u =
    let z : payload_at ws at ≡ length xs = omega (arith, f.to, f.within) in
    record {
      stands = (is_word (get_or ws at 0) k e ∙ ap (word k) z, f.stands);
      to = omega (arith, f.to);
      within = omega (arith, f.within);
      good = f.good;
    }

three_left : (k : ℕ) → k ≤ 4 → (k ≡ 0 → ⊥) → (k ≡ 1 → ⊥) → (k ≡ 2 → ⊥) → (k ≡ 4 → ⊥) → k ≡ 3
three_left k l n₀ n₁ n₂ n₄ = omega arith

leaf_sound : (ws : List ℕ) (vars at end : ℕ) (t : Term) (n : ℕ) → at < end → kind_at ws at ≤ 4 → (kind_at ws at ≡ 4 → ⊥)
    → read_leaf (kind_at ws at) (payload_at ws at) vars at ≡ found t n → FoundTerm ws vars at end t n
unfolding read_leaf term_words TermGood
leaf_sound ws vars at end t n l k k4 e =
    choose_found (eqb (kind_at ws at) 0) _ _ _ e
    (λ z e₁.
    let q = require_found (ltb (payload_at ws at) vars) 5 at _ t n e₁ in
    found_carries (λ t n. FoundTerm ws vars at end t n) q.1
    (one_word ws at end (word 0 (payload_at ws at)) _ (is_word _ 0 (eqb-true _ _ z)) l (ltb-true _ _ q.0)))
    (λ z₀ e₁. choose_found (eqb (kind_at ws at) 1) _ _ _ e₁
    (λ z e₂.
    found_carries (λ t n. FoundTerm ws vars at end t n) e₂
    (one_word ws at end (word 1 (payload_at ws at)) _ (is_word _ 1 (eqb-true _ _ z)) l (payload_small _)))
    (λ z₁ e₂. choose_found (eqb (kind_at ws at) 2) _ _ _ e₂
    (λ z e₃.
    found_carries (λ t n. FoundTerm ws vars at end t n) e₃
    (one_word ws at end (word 2 (payload_at ws at)) _ (is_word _ 2 (eqb-true _ _ z)) l (payload_small _)))
    (λ z₂ e₃.
    let q = require_found (eqb (payload_at ws at) 0) 3 at _ t n e₃ in
    let k3 : kind_at ws at ≡ 3 = three_left (kind_at ws at) k (eqb-false _ 0 z₀) (eqb-false _ 1 z₁) (eqb-false _ 2 z₂) k4 in
    let p0 : payload_at ws at ≡ 0 = eqb-true _ _ q.0 in
    found_carries (λ t n. FoundTerm ws vars at end t n) q.1
    (one_word ws at end (word 3 0) _ (is_word _ 3 k3 ∙ ap (word 3) p0) l tt))))

-- a pair, from its two parts
paired : (ws : List ℕ) (vars at end : ℕ) (s t : Term) (m n : ℕ) → kind_at ws at ≡ 4 → after ws at ≤ end
    → FoundTerm ws vars (at + 1) (after ws at) s m → after ws at ≤ m → FoundTerm ws vars (after ws at) end t n → FoundTerm ws vars at end (pair s t) n
unfolding Spells term_words TermGood
paired ws vars at end s t m n k l f u g =
    let z : payload_at ws at ≡ length (term_words s) = omega (arith, f.to, f.within) in
    let y : after ws at ≡ at + 1 + length (term_words s) = omega (arith, f.to, f.within) in
    record {
      stands = (is_word (get_or ws at 0) 4 k ∙ ap (word 4) z, stands_append ws (at + 1) (term_words s) (term_words t) f.stands (stands_at ws _ _ (term_words t) y g.stands));
      to = simp length-append (omega (arith, g.to, y));
      within = g.within;
      good = (f.good, g.good);
    }

pub term_sound : (words : ℕ) (ws : List ℕ) (vars at end : ℕ) (t : Term) (n : ℕ) → read_term words ws vars at end ≡ found t n → FoundTerm ws vars at end t n
unfolding read_term
term_sound zero ws vars at end t n e = found_not_refused t n 3 end e
term_sound (suc words) ws vars at end t n e =
    let q₁ = require_found (ltb at end) 3 end _ t n e in
    let l : at < end = ltb-true _ _ q₁.0 in
    let q₂ = require_found (leb (kind_at ws at) 4) 2 at _ t n q₁.1 in
    choose_found (eqb (kind_at ws at) 4) _ _ _ q₂.1
    (λ z e₃.
    let q₃ = require_found (leb (payload_at ws at) (end - (at + 1))) 3 at _ t n e₃ in
    let v₀ : payload_at ws at ≤ end - (at + 1) = leb-true _ _ q₃.0 in
    let v : after ws at ≤ end = omega (arith, l, v₀) in
    let p₁ = next_found (fill (read_term words ws vars (at + 1) (after ws at)) (after ws at)) _ t n q₃.1 in
    let u = fill_found (read_term words ws vars (at + 1) (after ws at)) (after ws at) p₁.value p₁.to p₁.first in
    let p₃ = next_found (read_term words ws vars (after ws at) end) _ t n p₁.rest in
    let f : FoundTerm ws vars (at + 1) (after ws at) p₁.value p₁.to = term_sound words ws vars (at + 1) (after ws at) p₁.value p₁.to u.0 in
    let g : FoundTerm ws vars (after ws at) end p₃.value p₃.to = term_sound words ws vars (after ws at) end p₃.value p₃.to p₃.first in
    found_carries (λ t n. FoundTerm ws vars at end t n) p₃.rest
    (paired ws vars at end p₁.value p₃.value p₁.to p₃.to (eqb-true _ _ z) v f u.1 g))
    (λ z e₃. leaf_sound ws vars at end t n l (leb-true _ _ q₂.0) (eqb-false _ _ z) e₃)

pub one_sound : (words : ℕ) (ws : List ℕ) (vars at end : ℕ) (t : Term) (n : ℕ) → read_one words ws vars at end ≡ found t n → FoundTerm ws vars at end t n × (end ≤ n)
unfolding read_one
one_sound words ws vars at end t n e =
    let u = fill_found (read_term words ws vars at end) end t n e in
    (term_sound words ws vars at end t n u.0, u.1)

abbrev FoundTwo : List ℕ → ℕ → ℕ → ℕ → Term × Term → ℕ → Type 0
FoundTwo ws vars at end p n = Found ws at end (term_words p.0 ++ term_words p.1) (TermGood vars p.0 × TermGood vars p.1) n × (end ≤ n)

pub two_sound : (words : ℕ) (ws : List ℕ) (vars at end : ℕ) (p : Term × Term) (n : ℕ) → read_two words ws vars at end ≡ found p n → FoundTwo ws vars at end p n
unfolding read_two
two_sound words ws vars at end p n e =
    let q = next_found (read_term words ws vars at end) _ p n e in
    let r = next_found (read_one words ws vars q.to end) _ p n q.rest in
    let f = term_sound words ws vars at end q.value q.to q.first in
    let g = one_sound words ws vars q.to end r.value r.to r.first in
    found_carries (λ p n. FoundTwo ws vars at end p n) r.rest (joined ws at end _ _ _ _ q.to r.to f g.0, g.1)

abbrev pub FoundTerms : List ℕ → ℕ → ℕ → ℕ → List Term → ℕ → Type 0
FoundTerms ws vars at end ts n = Found ws at end (terms_words ts) (TermsGood vars ts) n × (end ≤ n)

pub terms_sound : (words : ℕ) (ws : List ℕ) (vars at end : ℕ) (ts : List Term) (n : ℕ) → at ≤ end → read_terms words ws vars at end ≡ found ts n → FoundTerms ws vars at end ts n
unfolding read_terms terms_words TermsGood Spells
terms_sound zero ws vars at end ts n l e = found_not_refused ts n 3 end e
terms_sound (suc words) ws vars at end ts n l e =
    choose_found (ltb at end) _ _ _ e
    (λ z e₁.
    let p = next_found (read_term words ws vars at end) _ ts n e₁ in
    let q = next_found (read_terms words ws vars p.to end) _ ts n p.rest in
    let f : FoundTerm ws vars at end p.value p.to = term_sound words ws vars at end p.value p.to p.first in
    let g = terms_sound words ws vars p.to end q.value q.to f.within q.first in
    found_carries (λ ts n. FoundTerms ws vars at end ts n) q.rest (joined ws at end _ _ _ _ p.to q.to f g.0, g.1))
    (λ z e₁.
    let u : end ≤ at = ltb-false _ _ z in
    found_carries (λ ts n. FoundTerms ws vars at end ts n) e₁ (record { stands = tt; to = omega arith; within = l; good = tt }, u))

pub word_sound : (k : ℕ) (ws : List ℕ) (at end p n : ℕ) → read_word k ws at end ≡ found p n → Found ws at end (word k p ∷ []) (p < 268435456) n × (n ≡ at + 1)
unfolding read_word
word_sound k ws at end p n e =
    let q₁ = require_found (ltb at end) 3 end _ p n e in
    let q₂ = require_found (eqb (kind_at ws at) k) 2 at _ p n q₁.1 in
    found_carries (λ p n. Found ws at end (word k p ∷ []) (p < 268435456) n × (n ≡ at + 1)) q₂.1
    (one_word ws at end (word k (payload_at ws at)) _ (is_word _ k (eqb-true _ _ q₂.0)) (ltb-true _ _ q₁.0) (payload_small _), refl)

-- of an atom whose word is of this kind, and which may be a tag
atom_sound : (k : ℕ) (make : ℕ → Atom) (ws : List ℕ) (at end : ℕ) (a : Atom) (n : ℕ)
    → ((p m : ℕ) → Found ws at end (word k p ∷ []) (p < 268435456) m → Found ws at end (atom_word (make p) ∷ []) (TagGood (make p)) m)
    → read_atom k make ws at end ≡ found a n → Found ws at end (atom_word a ∷ []) (TagGood a) n
atom_sound k make ws at end a n is e =
    let p = next_found (read_word k ws at end) _ a n e in
    found_carries (λ a n. Found ws at end (atom_word a ∷ []) (TagGood a) n) p.rest (is p.value p.to (word_sound k ws at end p.value p.to p.first).0)

pub tag_sound : (ws : List ℕ) (at end : ℕ) (a : Atom) (n : ℕ) → read_tag ws at end ≡ found a n → Found ws at end (atom_word a ∷ []) (TagGood a) n
unfolding read_tag
tag_sound ws at end a n e =
    choose_found (eqb (kind_at ws at) 1) _ _ _ e (λ _. atom_sound 1 symbol ws at end a n (λ p m f. f)) (λ _. atom_sound 2 number ws at end a n (λ p m f. f))

abbrev pub FoundGoal : List ℕ → ℕ → ℕ → ℕ → Goal → ℕ → Type 0
FoundGoal ws vars at end g n = Found ws at end (goal_words g) (GoalGood vars g) n

abbrev pub FoundGoals : List ℕ → ℕ → ℕ → ℕ → Goals → ℕ → Type 0
FoundGoals ws vars at end gs n = Found ws at end (goals_words gs) (GoalsGood vars gs) n × (end ≤ n)

-- the other of two neighbours
other : (k a b : ℕ) → b ≡ suc a → a ≤ k → k ≤ b → (k ≡ a → ⊥) → k ≡ b
other k a b e l u n = omega arith

-- a goal of one of two kinds, from what follows its word
either_goal : (ws : List ℕ) (vars at end a b k : ℕ) (xs : List ℕ) (G : Type 0) (n : ℕ) (g h : Goal) (of : Bool → Goal) → of true ≡ g → of false ≡ h
    → goal_words g ≡ part a xs → goal_words h ≡ part b xs → GoalGood vars g ≡ G → GoalGood vars h ≡ G
    → kind_at ws at ≡ k → b ≡ suc a → a ≤ k → k ≤ b → after ws at ≤ end
    → Found ws (at + 1) (after ws at) xs G n → after ws at ≤ n → FoundGoal ws vars at end (of (eqb k a)) n
either_goal ws vars at end a b k xs G n g h of og oh wg wh gg gh e ab l u v f m = go (eqb k a) refl
  where
    go : (t : Bool) → eqb k a ≡ t → FoundGoal ws vars at end (of t) n
    go true z = rw (og, wg, gg) (parted ws a at end xs G n (e ∙ eqb-true k a z) v f m)
    go false z = rw (oh, wh, gh) (parted ws b at end xs G n (e ∙ other k a b ab l u (eqb-false k a z)) v f m)

parts_sound : (words : ℕ) (ws : List ℕ) (vars at end : ℕ) → ((a e : ℕ) (gs : Goals) (n : ℕ) → read_goals words ws vars a e ≡ found gs n → FoundGoals ws vars a e gs n)
    → after ws at ≤ end → 5 ≤ kind_at ws at → kind_at ws at ≤ 12 → (g : Goal) (n : ℕ)
    → goal_parts words ws vars (kind_at ws at) (at + 1) (after ws at) (λ a e. read_goals words ws vars a e) ≡ found g n → FoundGoal ws vars at end g n
unfolding goal_words GoalGood read_absento read_call
parts_sound words ws vars at end ih v l u g n e =
    let k = kind_at ws at in
    let from : ℕ = at + 1 in
    let to : ℕ = after ws at in
    choose_found (leb k 6) _ _ _ e
    (λ z e₁.
    let p = next_found (read_two words ws vars from to) _ g n e₁ in
    let f = two_sound words ws vars from to p.value p.to p.first in
    found_carries (λ g n. FoundGoal ws vars at end g n) p.rest
    (either_goal ws vars at end 5 6 k _ _ p.to (two_terms true p.value) (two_terms false p.value) (λ t. two_terms t p.value) refl refl refl refl refl refl refl refl l (leb-true k 6 z) v f.0 f.1))
    (λ z₆ e₁. choose_found (leb k 8) _ _ _ e₁
    (λ z e₂.
    let p = next_found (read_one words ws vars from to) _ g n e₂ in
    let f = one_sound words ws vars from to p.value p.to p.first in
    found_carries (λ g n. FoundGoal ws vars at end g n) p.rest
    (either_goal ws vars at end 7 8 k _ _ p.to (one_term true p.value) (one_term false p.value) (λ t. one_term t p.value) refl refl refl refl refl refl refl refl (leb-false k 6 z₆) (leb-true k 8 z) v f.0 f.1))
    (λ z₈ e₂. choose_found (eqb k 9) _ _ _ e₂
    (λ z e₃.
    let p = next_found (read_tag ws from to) _ g n e₃ in
    let q = next_found (read_one words ws vars p.to to) _ g n p.rest in
    let f = tag_sound ws from to p.value p.to p.first in
    let h = one_sound words ws vars p.to to q.value q.to q.first in
    found_carries (λ g n. FoundGoal ws vars at end g n) q.rest
    (parted ws 9 at end _ _ q.to (eqb-true k 9 z) v (joined ws from to _ _ _ _ p.to q.to f h.0) h.1))
    (λ z₉ e₃. choose_found (leb k 11) _ _ _ e₃
    (λ z e₄.
    let p = next_found (read_goals words ws vars from to) _ g n e₄ in
    let f = ih from to p.value p.to p.first in
    let ten : 10 ≤ k = ten_left k (leb-false k 8 z₈) (eqb-false k 9 z₉) in
    found_carries (λ g n. FoundGoal ws vars at end g n) p.rest
    (either_goal ws vars at end 10 11 k _ _ p.to (of_goals true p.value) (of_goals false p.value) (λ t. of_goals t p.value) refl refl refl refl refl refl refl refl ten (leb-true k 11 z) v f.0 f.1))
    (λ z₁₁ e₄.
    let p = next_found (read_word 2 ws from to) _ g n e₄ in
    let q = next_found (read_terms words ws vars p.to to) _ g n p.rest in
    let f = word_sound 2 ws from to p.value p.to p.first in
    let h = terms_sound words ws vars p.to to q.value q.to f.0.within q.first in
    let twelve : k ≡ 12 = twelve_left k u (leb-false k 11 z₁₁) in
    found_carries (λ g n. FoundGoal ws vars at end g n) q.rest
    (parted ws 12 at end _ _ q.to twelve v (joined ws from to _ _ _ _ p.to q.to f.0 h.0) h.1)))))
  where
    ten_left : (k : ℕ) → 8 < k → (k ≡ 9 → ⊥) → 10 ≤ k
    ten_left k l n = omega arith

    twelve_left : (k : ℕ) → k ≤ 12 → 11 < k → k ≡ 12
    twelve_left k u l = omega arith

-- both readers at once, by the bound on the depth
goals_both : (words : ℕ) (ws : List ℕ) (vars : ℕ)
    → ((at end : ℕ) (g : Goal) (n : ℕ) → read_goal words ws vars at end ≡ found g n → FoundGoal ws vars at end g n)
    × ((at end : ℕ) (gs : Goals) (n : ℕ) → read_goals words ws vars at end ≡ found gs n → FoundGoals ws vars at end gs n)
unfolding read_goal read_goals goals_words GoalsGood
goals_both zero ws vars = (λ at end g n e. found_not_refused g n 3 end e, λ at end gs n e. found_not_refused gs n 3 end e)
goals_both (suc words) ws vars =
    let ih = goals_both words ws vars in (
      λ at end g n e.
          let q₁ = require_found (ltb at end) 3 end _ g n e in
          let l : at < end = ltb-true _ _ q₁.0 in
          let q₂ = require_found (goal_kind (kind_at ws at)) 2 at _ g n q₁.1 in
          let b = and_true (leb 5 (kind_at ws at)) (leb (kind_at ws at) 12) q₂.0 in
          let q₃ = require_found (leb (payload_at ws at) (end - (at + 1))) 3 at _ g n q₂.1 in
          let v₀ : payload_at ws at ≤ end - (at + 1) = leb-true _ _ q₃.0 in
          let v : after ws at ≤ end = omega (arith, l, v₀) in
          parts_sound words ws vars at end ih.1 v (leb-true _ _ b.0) (leb-true _ _ b.1) g n q₃.1,
      λ at end gs n e.
          let p = next_found (read_goal words ws vars at end) _ gs n e in
          let f : FoundGoal ws vars at end p.value p.to = ih.0 at end p.value p.to p.first in
          choose_found (ltb p.to end) _ _ _ p.rest
          (λ z e₁.
          let q = next_found (read_goals words ws vars p.to end) _ gs n e₁ in
          let h = ih.1 p.to end q.value q.to q.first in
          found_carries (λ gs n. FoundGoals ws vars at end gs n) q.rest (joined ws at end _ _ _ _ p.to q.to f h.0, h.1))
          (λ z e₁. found_carries (λ gs n. FoundGoals ws vars at end gs n) e₁ (f, ltb-false _ _ z)),
    )

pub goal_sound : (words : ℕ) (ws : List ℕ) (vars at end : ℕ) (g : Goal) (n : ℕ) → read_goal words ws vars at end ≡ found g n → FoundGoal ws vars at end g n
goal_sound words ws vars = (goals_both words ws vars).0

pub goals_sound : (words : ℕ) (ws : List ℕ) (vars at end : ℕ) (gs : Goals) (n : ℕ) → read_goals words ws vars at end ≡ found gs n → FoundGoals ws vars at end gs n
goals_sound words ws vars = (goals_both words ws vars).1

abbrev FoundVariables : List ℕ → ℕ → ℕ → ℕ → Relation → ℕ → Type 0
FoundVariables ws params at end R n = Found ws at end (word 2 R.vars ∷ goal_words R.body) (RelationGood R × (R.params ≡ params)) n × (end ≤ n)

variables_sound : (words : ℕ) (ws : List ℕ) (params at end : ℕ) (R : Relation) (n : ℕ) → read_variables words ws params at end ≡ found R n → FoundVariables ws params at end R n
unfolding read_variables read_body
variables_sound words ws params at end R n e =
    let p = next_found (read_word 2 ws at end) _ R n e in
    let q = require_found (leb p.value 255 && leb params p.value) 4 at _ R n p.rest in
    let b = and_true (leb p.value 255) (leb params p.value) q.0 in
    let r = next_found (read_body words ws p.value p.to end) _ R n q.1 in
    let u = fill_found (read_goal words ws p.value p.to end) end r.value r.to r.first in
    let f = word_sound 2 ws at end p.value p.to p.first in
    let h = goal_sound words ws p.value p.to end r.value r.to u.0 in
    let j = joined ws at end (word 2 p.value ∷ []) (goal_words r.value) _ _ p.to r.to f.0 h in
    let good : RelationGood (record { params = params; vars = p.value; body = r.value }) = record { vars_bound = leb-true _ _ b.0; params_bound = leb-true _ _ b.1; body_good = h.good } in
    found_carries (λ R n. FoundVariables ws params at end R n) r.rest
    (record { stands = j.stands; to = j.to; within = j.within; good = (good, refl) }, u.1)

pub relation_sound : (words : ℕ) (ws : List ℕ) (before at : ℕ) (R : Relation) (n : ℕ) → at < length ws → read_relation words ws before at ≡ found R n
    → Found ws at (length ws) (relation_words R) (RelationGood R) n × (before < 256) × (at < n)
unfolding read_relation
relation_sound words ws before at R n l e =
    let q₁ = require_found (eqb (kind_at ws at) 13) 2 at _ R n e in
    let q₂ = require_found (leb (payload_at ws at) (length ws - (at + 1))) 3 at _ R n q₁.1 in
    let v₀ : payload_at ws at ≤ length ws - (at + 1) = leb-true _ _ q₂.0 in
    let v : after ws at ≤ length ws = omega (arith, l, v₀) in
    let q₃ = require_found (ltb before 256) 6 at _ R n q₂.1 in
    let p = next_found (read_word 2 ws (at + 1) (after ws at)) _ R n q₃.1 in
    let f = word_sound 2 ws (at + 1) (after ws at) p.value p.to p.first in
    let g = variables_sound words ws p.value p.to (after ws at) R n p.rest in
    let j = joined ws (at + 1) (after ws at) (word 2 p.value ∷ []) (word 2 R.vars ∷ goal_words R.body) _ _ p.to n f.0 g.0 in
    let s : Spells ws (at + 1) (word 2 R.params ∷ word 2 R.vars ∷ goal_words R.body) = rw g.0.good.1 j.stands in
    let m : Found ws (at + 1) (after ws at) (word 2 R.params ∷ word 2 R.vars ∷ goal_words R.body) (RelationGood R) n =
    record { stands = s; to = j.to; within = j.within; good = g.0.good.0 } in
    let w = parted ws 13 at (length ws) _ _ n (eqb-true _ _ q₁.0) v m g.1 in
    (w, ltb-true _ _ q₃.0, omega (arith, w.to))

pub relations_sound : (words : ℕ) (ws : List ℕ) (before at : ℕ) (P : Program) (n : ℕ) → at ≤ length ws → before ≤ 256 → read_relations words ws before at ≡ found P n
    → Found ws at (length ws) (written P) (RelationsGood P × (before + length P ≤ 256)) n × (length ws ≤ n)
unfolding read_relations written RelationsGood Spells
relations_sound zero ws before at P n l b e = found_not_refused P n 3 at e
relations_sound (suc words) ws before at P n l b e =
    choose_found (ltb at (length ws)) _ _ _ e
    (λ z e₁.
    let p = next_found (read_relation words ws before at) _ P n e₁ in
    let q = next_found (read_relations words ws (before + 1) p.to) _ P n p.rest in
    let f = relation_sound words ws before at p.value p.to (ltb-true _ _ z) p.first in
    let g = relations_sound words ws (before + 1) p.to q.value q.to f.0.within (omega (arith, f.1)) q.first in
    let j = joined ws at (length ws) _ _ _ _ p.to q.to f.0 g.0 in
    let few : before + suc (length q.value) ≤ 256 = omega (arith, g.0.good.1) in
    found_carries (λ P n. Found ws at (length ws) (written P) (RelationsGood P × (before + length P ≤ 256)) n × (length ws ≤ n)) q.rest
    (record { stands = j.stands; to = j.to; within = j.within; good = ((f.0.good, g.0.good.0), few) }, g.1))
    (λ z e₁.
    let u : length ws ≤ at = ltb-false _ _ z in
    found_carries (λ P n. Found ws at (length ws) (written P) (RelationsGood P × (before + length P ≤ 256)) n × (length ws ≤ n)) e₁
    (record { stands = tt; to = omega arith; within = l; good = (tt, omega arith) }, u))
