-- The written form of what is good is read back: writing goes back to reading.
use mathlib.Core.Path.{◌≡◌, refl, sym, ap, ◌∙◌}
use mathlib.Core.List.{List, [], ◌∷◌, ◌++◌}
use Prim.Native.Nat.{ℕ, zero, suc, ◌+◌, ◌-◌, ◌*◌, ◌<◌, ◌≤◌}
use native.Mathlib.Omega.{arith}
use lib.Dec.{eqb}
use lib.ListN.{length, get_or, length-append}
use borrow.Author.Tests.{lt-ltb, le-ltb, le-leb, lt-leb, eq-eqb, ne_eqb}
use Rattle.word.specs.Word.{word}
use Rattle.rules.specs.Syntax.{Atom, symbol, number, empty, Term, var, atom, pair, symbols, numbers, Constraint, differ, typed, absento, Goal, Goals, equal, constrain, conj, disj, call, one, more, Relation, Program}
use Rattle.rules.specs.Written.{atom_word, term_words, terms_words, constraint_words, goal_words, goals_words, relation_words, written, part}
use Rattle.rules.specs.Reading.{found, kind_at, payload_at, read_word, read_leaf, read_term, read_one, read_two, read_terms, goal_parts, read_goal, read_goals, read_tag, read_absento, read_call, read_body, read_variables, read_relation, read_relations, two_terms, one_term, of_goals}
use Rattle.rules.specs.WellFormed.{TagGood, TermGood, TermsGood, ConstraintGood, GoalGood, GoalsGood, RelationGood, RelationsGood}
use Rattle.rules.specs.Inner.{Spells}
use Rattle.rules.specs.Settings.{most_words}
use Rattle.rules.proofs.Spelled.{stands_split, term_some, goal_some, goals_some, kind_of, payload_of}

-- where a part is read: deep enough, with variables and places below 2^28, and not past its end
pub record Room (words vars at end n : ℕ) : Type 0 where
  pub deep : end - at < words
  pub few : vars ≤ 268435456
  pub short : end ≤ 268435456
  pub fits : at + n ≤ end

leaf_word : (words : ℕ) (ws : List ℕ) (vars at end k p : ℕ) → get_or ws at 0 ≡ word k p → p < 268435456 → k < 4 → at < end
    → read_term (suc words) ws vars at end ≡ read_leaf k p vars at
unfolding read_term
leaf_word words ws vars at end k p e l k4 r =
    let x : kind_at ws at ≡ k = kind_of ws at k p e l in
    let y : payload_at ws at ≡ p = payload_of ws at k p e l in
    simp (lt-ltb at end r, x, y, le-leb k 4 (omega arith), ne_eqb k 4 (omega arith))

pair_word : (words : ℕ) (ws : List ℕ) (vars at end n m : ℕ) (s t : Term) → kind_at ws at ≡ 4 → payload_at ws at ≡ n → at + 1 + n ≤ end
    → read_term words ws vars (at + 1) (at + 1 + n) ≡ found s (at + 1 + n) → read_term words ws vars (at + 1 + n) end ≡ found t m
    → read_term (suc words) ws vars at end ≡ found (pair s t) m
unfolding read_term
pair_word words ws vars at end n m s t x y l e f =
    simp (lt-ltb at end (omega arith), x, y, le-leb n (end - (at + 1)) (omega arith), e, le-leb (at + 1 + n) (at + 1 + n) (omega arith), f)

pub term_complete : (words : ℕ) (ws : List ℕ) (vars at end : ℕ) (t : Term) → TermGood vars t → Spells ws at (term_words t) → Room words vars at end (length (term_words t))
    → read_term words ws vars at end ≡ found t (at + length (term_words t))
unfolding TermGood term_words Spells
term_complete zero ws vars at end t g s r = absurd (omega arith)
term_complete (suc words) ws vars at end (var x) g s r =
    leaf_word words ws vars at end 0 x s.0 (omega (arith, r.few)) (omega arith) (omega (arith, r.fits)) ∙ (unfold read_leaf in simp (lt-ltb x vars g))
term_complete (suc words) ws vars at end (atom (symbol p)) g s r =
    leaf_word words ws vars at end 1 p s.0 g (omega arith) (omega (arith, r.fits)) ∙ (unfold read_leaf in refl)
term_complete (suc words) ws vars at end (atom (number p)) g s r =
    leaf_word words ws vars at end 2 p s.0 g (omega arith) (omega (arith, r.fits)) ∙ (unfold read_leaf in refl)
term_complete (suc words) ws vars at end (atom empty) g s r =
    leaf_word words ws vars at end 3 0 s.0 (omega arith) (omega arith) (omega (arith, r.fits)) ∙ (unfold read_leaf in refl)
term_complete (suc words) ws vars at end (pair s t) g h r =
    let a : ℕ = length (term_words s) in
    let b : ℕ = length (term_words t) in
    let q = stands_split ws (at + 1) (term_words s) (term_words t) h.1 in
    let whole : at + suc (a + b) ≤ end = rw length-append at r.fits in
    let l : a < 268435456 = omega (arith, r.short, whole) in
    let e : read_term words ws vars (at + 1) (at + 1 + a) ≡ found s (at + 1 + a) =
    term_complete words ws vars (at + 1) (at + 1 + a) s g.0 q.0
    (record { deep = omega (arith, r.deep, whole); few = r.few; short = omega (arith, r.short, whole); fits = omega arith }) in
    let f : read_term words ws vars (at + 1 + a) end ≡ found t (at + 1 + a + b) =
    term_complete words ws vars (at + 1 + a) end t g.1 q.1
    (record { deep = omega (arith, r.deep, whole); few = r.few; short = r.short; fits = omega (arith, whole) }) in
    let z : at + 1 + a + b ≡ at + suc (length (term_words s ++ term_words t)) = simp length-append (omega arith) in
    pair_word words ws vars at end a (at + 1 + a + b) s t (kind_of ws at 4 a h.0 l) (payload_of ws at 4 a h.0 l) (omega (arith, whole)) e f ∙ ap (found (pair s t)) z

pub one_complete : (words : ℕ) (ws : List ℕ) (vars at end : ℕ) (t : Term) → TermGood vars t → Spells ws at (term_words t) → Room words vars at end (length (term_words t))
    → end ≡ at + length (term_words t) → read_one words ws vars at end ≡ found t end
unfolding read_one
one_complete words ws vars at end t g s r e = simp (term_complete words ws vars at end t g s r, ← e, le-leb end end (omega arith))

pub two_complete : (words : ℕ) (ws : List ℕ) (vars at end : ℕ) (s t : Term) → TermGood vars s × TermGood vars t → Spells ws at (term_words s ++ term_words t)
    → Room words vars at end (length (term_words s ++ term_words t)) → end ≡ at + length (term_words s ++ term_words t)
    → read_two words ws vars at end ≡ found (s, t) end
unfolding read_two
two_complete words ws vars at end s t g w r e =
    let q = stands_split ws at (term_words s) (term_words t) w in
    let z : length (term_words s ++ term_words t) ≡ length (term_words s) + length (term_words t) = length-append (term_words s) (term_words t) in
    let f : read_term words ws vars at end ≡ found s (at + length (term_words s)) =
    term_complete words ws vars at end s g.0 q.0 (record { deep = r.deep; few = r.few; short = r.short; fits = omega (arith, r.fits) }) in
    let k : read_one words ws vars (at + length (term_words s)) end ≡ found t end =
    one_complete words ws vars (at + length (term_words s)) end t g.1 q.1
    (record { deep = omega (arith, r.deep); few = r.few; short = r.short; fits = omega arith }) (omega arith) in
    simp (f, k)

pub terms_complete : (words : ℕ) (ws : List ℕ) (vars at end : ℕ) (ts : List Term) → TermsGood vars ts → Spells ws at (terms_words ts)
    → Room words vars at end (length (terms_words ts)) → end ≡ at + length (terms_words ts) → end - at + 1 < words
    → read_terms words ws vars at end ≡ found ts end
unfolding read_terms TermsGood terms_words
terms_complete zero ws vars at end ts g s r e d = absurd (omega arith)
terms_complete (suc words) ws vars at end [] g s r e d = let z : at ≡ end = omega arith in simp (le-ltb at end (omega arith)) (ap (found []) z)
terms_complete (suc words) ws vars at end (t ∷ ts) g s r e d =
    let a : ℕ = length (term_words t) in
    let b : ℕ = length (terms_words ts) in
    let q = stands_split ws at (term_words t) (terms_words ts) s in
    let z : end ≡ at + (a + b) = rw length-append at e in
    let o : 0 < a = term_some t in
    let f : read_term words ws vars at end ≡ found t (at + a) =
    term_complete words ws vars at end t g.0 q.0 (record { deep = omega arith; few = r.few; short = r.short; fits = omega arith }) in
    let h : read_terms words ws vars (at + a) end ≡ found ts end =
    terms_complete words ws vars (at + a) end ts g.1 q.1
    (record { deep = omega arith; few = r.few; short = r.short; fits = omega arith }) (omega arith) (omega arith) in
    simp (lt-ltb at end (omega arith), f, h)

word_complete : (k : ℕ) (ws : List ℕ) (at end p : ℕ) → get_or ws at 0 ≡ word k p → p < 268435456 → at < end → read_word k ws at end ≡ found p (at + 1)
unfolding read_word
word_complete k ws at end p e l r =
    simp (lt-ltb at end r, eq-eqb (kind_at ws at) k (kind_of ws at k p e l), payload_of ws at k p e l)

tag_complete : (ws : List ℕ) (at end : ℕ) (a : Atom) → get_or ws at 0 ≡ atom_word a → TagGood a → at < end → read_tag ws at end ≡ found a (at + 1)
unfolding read_tag
tag_complete ws at end (symbol p) e g r = simp (eq-eqb (kind_at ws at) 1 (kind_of ws at 1 p e g), word_complete 1 ws at end p e g r)
tag_complete ws at end (number p) e g r = simp (ne_eqb (kind_at ws at) 1 (λ h. omega (arith, h, kind_of ws at 2 p e g)), word_complete 2 ws at end p e g r)
tag_complete ws at end empty e g r = absurd g

goal_word : (words : ℕ) (ws : List ℕ) (vars at end k n : ℕ) → get_or ws at 0 ≡ word k n → 5 ≤ k → k ≤ 12 → at + 1 + n ≤ end → end ≤ 268435456
    → read_goal (suc words) ws vars at end ≡ goal_parts words ws vars k (at + 1) (at + 1 + n) (λ a e. read_goals words ws vars a e)
unfolding read_goal
goal_word words ws vars at end k n e l u r s =
    let x : kind_at ws at ≡ k = kind_of ws at k n e (omega arith) in
    let y : payload_at ws at ≡ n = payload_of ws at k n e (omega arith) in
    simp (lt-ltb at end (omega arith), x, y, le-leb 5 k l, le-leb k 12 u, le-leb n (end - (at + 1)) (omega arith))

-- a goal that holds a sequence, from the reading of the sequence
nested : (words : ℕ) (ws : List ℕ) (vars at end k : ℕ) (gs : Goals) → get_or ws at 0 ≡ word k (length (goals_words gs)) → 10 ≤ k → k ≤ 11
    → at + 1 + length (goals_words gs) ≤ end → end ≤ 268435456
    → read_goals words ws vars (at + 1) (at + 1 + length (goals_words gs)) ≡ found gs (at + 1 + length (goals_words gs))
    → read_goal (suc words) ws vars at end ≡ found (of_goals (eqb k 10) gs) (at + 1 + length (goals_words gs))
nested words ws vars at end k gs e l u r s f =
    goal_word words ws vars at end k (length (goals_words gs)) e (omega arith) (omega arith) r s
    ∙ simp (lt-leb k 6 (omega arith), lt-leb k 8 (omega arith), ne_eqb k 9 (omega arith), le-leb k 11 u, f)

-- where a goal's part ends
ends_at : (at n : ℕ) → at + 1 + n ≡ at + suc n
ends_at at n = omega arith

pub record GoalRoom (words vars at end n : ℕ) : Type 0 where
  pub deep : 2 * (end - at) + 1 < words
  pub few : vars ≤ 268435456
  pub short : end ≤ 268435456
  pub fits : at + n ≤ end

-- the room of what follows a goal's word
inner : (words vars at end n : ℕ) → GoalRoom (suc words) vars at end (suc n) → Room words vars (at + 1) (at + 1 + n) n
inner words vars at end n r = record { deep = omega (arith, r.deep, r.fits); few = r.few; short = omega (arith, r.short, r.fits); fits = omega arith }

-- a goal of two terms, and of one
two_goal : (words : ℕ) (ws : List ℕ) (vars at end k : ℕ) (s t : Term) → TermGood vars s × TermGood vars t → Spells ws at (part k (term_words s ++ term_words t))
    → GoalRoom (suc words) vars at end (suc (length (term_words s ++ term_words t))) → 5 ≤ k → k ≤ 6
    → read_goal (suc words) ws vars at end ≡ found (two_terms (eqb k 5) (s, t)) (at + suc (length (term_words s ++ term_words t)))
unfolding Spells
two_goal words ws vars at end k s t g h r l u =
    let n : ℕ = length (term_words s ++ term_words t) in
    goal_word words ws vars at end k n h.0 l (omega arith) (omega (arith, r.fits)) r.short
    ∙ simp (le-leb k 6 u, two_complete words ws vars (at + 1) (at + 1 + n) s t g h.1 (inner words vars at end n r) (omega arith)) (ap (found (two_terms (eqb k 5) (s, t))) (ends_at at n))

one_goal : (words : ℕ) (ws : List ℕ) (vars at end k : ℕ) (t : Term) → TermGood vars t → Spells ws at (part k (term_words t))
    → GoalRoom (suc words) vars at end (suc (length (term_words t))) → 7 ≤ k → k ≤ 8
    → read_goal (suc words) ws vars at end ≡ found (one_term (eqb k 7) t) (at + suc (length (term_words t)))
unfolding Spells
one_goal words ws vars at end k t g h r l u =
    let n : ℕ = length (term_words t) in
    goal_word words ws vars at end k n h.0 (omega arith) (omega arith) (omega (arith, r.fits)) r.short
    ∙ simp (lt-leb k 6 (omega arith), le-leb k 8 u, one_complete words ws vars (at + 1) (at + 1 + n) t g h.1 (inner words vars at end n r) (omega arith)) (ap (found (one_term (eqb k 7) t)) (ends_at at n))

constraint_complete : (words : ℕ) (ws : List ℕ) (vars at end : ℕ) (c : Constraint) → ConstraintGood vars c → Spells ws at (constraint_words c)
    → GoalRoom (suc words) vars at end (length (constraint_words c)) → read_goal (suc words) ws vars at end ≡ found (constrain c) (at + length (constraint_words c))
unfolding Spells read_absento
constraint_complete words ws vars at end (differ s t) g h r = two_goal words ws vars at end 6 s t g h r (omega arith) (omega arith)
constraint_complete words ws vars at end (typed symbols t) g h r = one_goal words ws vars at end 7 t g h r (omega arith) (omega arith)
constraint_complete words ws vars at end (typed numbers t) g h r = one_goal words ws vars at end 8 t g h r (omega arith) (omega arith)
constraint_complete words ws vars at end (absento a t) g h r =
    let n : ℕ = length (term_words t) in
    let stop : ℕ = at + 1 + suc n in
    let i = inner words vars at end (suc n) r in
    let w : read_tag ws (at + 1) (at + 1 + suc n) ≡ found a (at + 1 + 1) = tag_complete ws (at + 1) (at + 1 + suc n) a h.1.0 g.0 (omega arith) in
    let o : read_one words ws vars (at + 1 + 1) (at + 1 + suc n) ≡ found t (at + 1 + suc n) =
    one_complete words ws vars (at + 1 + 1) (at + 1 + suc n) t g.1 h.1.1
    (record { deep = omega (arith, i.deep); few = i.few; short = i.short; fits = omega arith }) (omega arith) in
    goal_word words ws vars at end 9 (suc n) h.0 (omega arith) (omega arith) (omega (arith, r.fits)) r.short
    ∙ simp (w, o) (ap (found (constrain (absento a t))) (ends_at at (suc n)))

-- what is read of goals with less depth
ReadsGoal : ℕ → List ℕ → ℕ → Type 0
ReadsGoal words ws vars = (at end : ℕ) (g : Goal) → GoalGood vars g → Spells ws at (goal_words g) → GoalRoom words vars at end (length (goal_words g))
    → read_goal words ws vars at end ≡ found g (at + length (goal_words g))

ReadsGoals : ℕ → List ℕ → ℕ → Type 0
ReadsGoals words ws vars = (at end : ℕ) (gs : Goals) → GoalsGood vars gs → Spells ws at (goals_words gs) → GoalRoom words vars at end (length (goals_words gs))
    → 2 * (end - at) + 2 < words → end ≡ at + length (goals_words gs) → read_goals words ws vars at end ≡ found gs end

goal_now : (words : ℕ) (ws : List ℕ) (vars : ℕ) → ReadsGoals words ws vars → ReadsGoal (suc words) ws vars
unfolding ReadsGoal ReadsGoals goal_words GoalGood Spells read_call
goal_now words ws vars ih at end (equal s t) g h r = two_goal words ws vars at end 5 s t g h r (omega arith) (omega arith)
goal_now words ws vars ih at end (constrain c) g h r = constraint_complete words ws vars at end c g h r
goal_now words ws vars ih at end (conj gs) g h r =
    let n : ℕ = length (goals_words gs) in
    let i = inner words vars at end n r in
    nested words ws vars at end 10 gs h.0 (omega arith) (omega arith) (omega (arith, r.fits)) r.short
    (ih (at + 1) (at + 1 + n) gs g h.1 (record { deep = omega (arith, r.deep, r.fits); few = i.few; short = i.short; fits = i.fits }) (omega (arith, r.deep, r.fits)) (omega arith))
    ∙ ap (found (conj gs)) (ends_at at n)
goal_now words ws vars ih at end (disj gs) g h r =
    let n : ℕ = length (goals_words gs) in
    let i = inner words vars at end n r in
    nested words ws vars at end 11 gs h.0 (omega arith) (omega arith) (omega (arith, r.fits)) r.short
    (ih (at + 1) (at + 1 + n) gs g h.1 (record { deep = omega (arith, r.deep, r.fits); few = i.few; short = i.short; fits = i.fits }) (omega (arith, r.deep, r.fits)) (omega arith))
    ∙ ap (found (disj gs)) (ends_at at n)
goal_now words ws vars ih at end (call p ts) g h r =
    let n : ℕ = length (terms_words ts) in
    let i = inner words vars at end (suc n) r in
    let w : read_word 2 ws (at + 1) (at + 1 + suc n) ≡ found p (at + 1 + 1) = word_complete 2 ws (at + 1) (at + 1 + suc n) p h.1.0 g.0 (omega arith) in
    let o : read_terms words ws vars (at + 1 + 1) (at + 1 + suc n) ≡ found ts (at + 1 + suc n) =
    terms_complete words ws vars (at + 1 + 1) (at + 1 + suc n) ts g.1 h.1.1
    (record { deep = omega (arith, i.deep); few = i.few; short = i.short; fits = omega arith }) (omega arith) (omega (arith, r.deep, r.fits)) in
    goal_word words ws vars at end 12 (suc n) h.0 (omega arith) (omega arith) (omega (arith, r.fits)) r.short
    ∙ simp (w, o) (ap (found (call p ts)) (ends_at at (suc n)))

goals_now : (words : ℕ) (ws : List ℕ) (vars : ℕ) → ReadsGoal words ws vars → ReadsGoals words ws vars → ReadsGoals (suc words) ws vars
unfolding ReadsGoal ReadsGoals goals_words GoalsGood read_goals
goals_now words ws vars ig ih at end (one g) q h r d e =
    let f : read_goal words ws vars at end ≡ found g (at + length (goal_words g)) =
    ig at end g q h (record { deep = omega arith; few = r.few; short = r.short; fits = r.fits }) in
    simp (f, le-ltb (at + length (goal_words g)) end (omega arith)) (ap (found (one g)) (sym e))
goals_now words ws vars ig ih at end (more g gs) q h r d e =
    let a : ℕ = length (goal_words g) in
    let b : ℕ = length (goals_words gs) in
    let s = stands_split ws at (goal_words g) (goals_words gs) h in
    let z : end ≡ at + (a + b) = rw length-append at e in
    let o : 0 < a = goal_some g in
    let p : 0 < b = goals_some gs in
    let f : read_goal words ws vars at end ≡ found g (at + a) =
    ig at end g q.0 s.0 (record { deep = omega arith; few = r.few; short = r.short; fits = omega arith }) in
    let k : read_goals words ws vars (at + a) end ≡ found gs end =
    ih (at + a) end gs q.1 s.1 (record { deep = omega arith; few = r.few; short = r.short; fits = omega arith }) (omega arith) (omega arith) in
    simp (f, lt-ltb (at + a) end (omega arith), k)

goals_both : (words : ℕ) (ws : List ℕ) (vars : ℕ) → ReadsGoal words ws vars × ReadsGoals words ws vars
unfolding ReadsGoal ReadsGoals
goals_both zero ws vars = (λ at end g q s r. absurd (omega (arith, r.deep)), λ at end gs q s r d e. absurd (omega arith))
goals_both (suc words) ws vars =
    let ih = goals_both words ws vars in
    (goal_now words ws vars ih.1, goals_now words ws vars ih.0 ih.1)

pub goal_complete : (words : ℕ) (ws : List ℕ) (vars at end : ℕ) (g : Goal) → GoalGood vars g → Spells ws at (goal_words g) → GoalRoom words vars at end (length (goal_words g))
    → read_goal words ws vars at end ≡ found g (at + length (goal_words g))
unfolding ReadsGoal
goal_complete words ws vars = (goals_both words ws vars).0

pub relation_complete : (words : ℕ) (ws : List ℕ) (before at : ℕ) (R : Relation) → RelationGood R → Spells ws at (relation_words R) → before < 256
    → at + length (relation_words R) ≤ length ws → length ws ≤ most_words → 2 * (length ws - at) < words
    → read_relation words ws before at ≡ found R (at + length (relation_words R))
unfolding read_relation read_variables read_body Spells
relation_complete words ws before at R g h b l s d =
    let m : ℕ = length (goal_words R.body) in
    let n : ℕ = suc (suc m) in
    let pv : R.params < 268435456 = omega (arith, g.vars_bound, g.params_bound) in
    let vv : R.vars < 268435456 = omega (arith, g.vars_bound) in
    let nn : n < 268435456 = omega arith in
    let x : kind_at ws at ≡ 13 = kind_of ws at 13 n h.0 nn in
    let y : payload_at ws at ≡ n = payload_of ws at 13 n h.0 nn in
    let p : read_word 2 ws (at + 1) (at + 1 + n) ≡ found R.params (at + 1 + 1) = word_complete 2 ws (at + 1) (at + 1 + n) R.params h.1.0 pv (omega arith) in
    let v : read_word 2 ws (at + 1 + 1) (at + 1 + n) ≡ found R.vars (at + 1 + 1 + 1) = word_complete 2 ws (at + 1 + 1) (at + 1 + n) R.vars h.1.1.0 vv (omega arith) in
    let q : read_goal words ws R.vars (at + 1 + 1 + 1) (at + 1 + n) ≡ found R.body (at + 1 + 1 + 1 + m) =
    goal_complete words ws R.vars (at + 1 + 1 + 1) (at + 1 + n) R.body g.body_good h.1.1.1
    (record { deep = omega arith; few = omega (arith, g.vars_bound); short = omega arith; fits = omega arith }) in
    let z : at + 1 + 1 + 1 + m ≡ at + suc n = omega arith in
    simp (
      x,
      y,
      le-leb n (length ws - (at + 1)) (omega arith),
      lt-ltb before 256 b,
      p,
      v,
      le-leb R.vars 255 g.vars_bound,
      le-leb R.params R.vars g.params_bound,
      q,
      le-leb (at + 1 + n) (at + 1 + 1 + 1 + m) (omega arith),
    ) (ap (found R) z)

pub relations_complete : (words : ℕ) (ws : List ℕ) (before at : ℕ) (P : Program) → RelationsGood P → Spells ws at (written P) → before + length P ≤ 256
    → length ws ≡ at + length (written P) → length ws ≤ most_words → 2 * (length ws - at) + 1 < words
    → read_relations words ws before at ≡ found P (length ws)
unfolding read_relations RelationsGood written
relations_complete zero ws before at P g h b e s d = absurd (omega arith)
relations_complete (suc words) ws before at [] g h b e s d =
    let z : at ≡ length ws = omega arith in simp (le-ltb at (length ws) (omega arith)) (ap (found []) z)
relations_complete (suc words) ws before at (R ∷ P) g h b e s d =
    let m : ℕ = length (goal_words R.body) in
    let a : ℕ = length (relation_words R) in
    let q = stands_split ws at (relation_words R) (written P) h in
    let z : length ws ≡ at + (a + length (written P)) = e ∙ ap (λ n. at + n) (length-append (relation_words R) (written P)) in
    let f : read_relation words ws before at ≡ found R (at + a) =
    relation_complete words ws before at R g.0 q.0 (omega arith) (omega (arith, z)) s (omega arith) in
    let k : read_relations words ws (before + 1) (at + a) ≡ found P (length ws) =
    relations_complete words ws (before + 1) (at + a) P g.1 q.1 (omega arith) (omega (arith, z)) s (omega (arith, z)) in
    simp (lt-ltb at (length ws) (omega (arith, z)), f, k)
