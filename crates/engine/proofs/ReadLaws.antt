-- From the written form: the words of a term, a goal, a relation that stand at a place are that term, goal, relation there.
use Prim.Native.Nat.{ℕ, ◌+◌, ◌≤◌, ◌<◌}
use mathlib.Core.Path.{◌≡◌, refl, sym, ap, subst, ◌∙◌}
use mathlib.Core.List.{List, [], ◌∷◌, ◌++◌}
use native.Mathlib.Omega.{arith}
use lib.ListN.{length, length-append}
use Rattle.word.specs.Word.{kind, payload, word, kind_word, payload_word}
use Rattle.rules.specs.Syntax.{Atom, symbol, number, empty, Term, var, atom, pair, Constraint, differ, typed, absento, Goal, Goals, equal, constrain, conj, disj, call, one, more, Relation}
use Rattle.rules.specs.Written.{part, atom_word, sort_kind, term_words, terms_words, constraint_words, goal_words, goals_words, relation_words}
use Rattle.rules.specs.Reading.{kind_at, payload_at, after}
use Rattle.rules.specs.WellFormed.{AtomGood, TermGood, TermsGood, TagGood, ConstraintGood, GoalGood, GoalsGood, RelationGood}
use Rattle.rules.specs.Inner as inner
use Rattle.rules.proofs.Spelled.{stands_at, stands_split}
use Rattle.engine.specs.Reference.{at, Is, AtomIs, TermAt, TermsAt, ConstraintAt, GoalAt, GoalsAt, RelationAt}
use Rattle.rules.specs.Settings.{most_words}

-- the words of `xs` stand at a place, and are so few that each count is a payload
pub record Written (ws : List ℕ) (pos : ℕ) (xs : List ℕ) : Type 0 where
  pub stands : inner.Spells ws pos xs
  pub few : length xs ≤ most_words

pub written_here : (ws : List ℕ) (pos to : ℕ) (xs ys : List ℕ) → Written ws pos (xs ++ ys) → to ≡ pos + length xs → Written ws pos xs × Written ws to ys
written_here ws pos to xs ys h e =
    let z : length (xs ++ ys) ≡ length xs + length ys = length-append xs ys in
    let d = stands_split ws pos xs ys h.stands in
    (record { stands = d.0; few = omega (arith, h.few) }, record { stands = stands_at ws _ to ys (sym e) d.1; few = omega (arith, h.few) })

pub written_first : (ws : List ℕ) (pos x : ℕ) (xs : List ℕ) → Written ws pos (x ∷ xs) → (at ws pos ≡ x) × Written ws (pos + 1) xs
unfolding inner.Spells
written_first ws pos x xs h = (h.stands.0, record { stands = h.stands.1; few = omega (arith, h.few) })

is_word : (w k p : ℕ) → w ≡ word k p → p < 268435456 → Is w k p
is_word w k p e l = (ap kind e ∙ kind_word k p l, ap payload e ∙ payload_word k p l)

-- a part's word: its kind, and where the part ends
part_here : (ws : List ℕ) (pos k : ℕ) (xs : List ℕ) → Written ws pos (part k xs) → (kind_at ws pos ≡ k) × (after ws pos ≡ pos + 1 + length xs) × Written ws (pos + 1) xs
part_here ws pos k xs h =
    let f = written_first ws pos (word k (length xs)) xs h in
    let i = is_word (at ws pos) k (length xs) f.0 (omega (arith, h.few)) in
    (i.0, omega (arith, i.1), f.1)

atom_here : (w : ℕ) (a : Atom) → w ≡ atom_word a → AtomGood a → AtomIs w a
atom_here w (symbol p) e g = is_word w 1 p e g
atom_here w (number p) e g = is_word w 2 p e g
atom_here w empty e g = is_word w 3 0 e (omega arith)

pub term_at : (ws : List ℕ) (v pos to : ℕ) (t : Term) → v ≤ 255 → TermGood v t → Written ws pos (term_words t) → to ≡ pos + length (term_words t) → TermAt ws 0 pos to t
unfolding term_words TermGood
term_at ws v pos to (var x) lv g h e = let i = is_word (at ws pos) 0 x (written_first ws pos (word 0 x) [] h).0 (omega arith) in (i.0, omega (arith, i.1), omega (arith, e))
term_at ws v pos to (atom a) lv g h e = (atom_here (at ws pos) a (written_first ws pos (atom_word a) [] h).0 g, omega (arith, e))
term_at ws v pos to (pair s t) lv g h e =
    let n : ℕ = length (term_words s) in
    let z : length (term_words s ++ term_words t) ≡ n + length (term_words t) = length-append (term_words s) (term_words t) in
    let f = written_first ws pos (word 4 n) (term_words s ++ term_words t) h in
    let i = is_word (at ws pos) 4 n f.0 (omega (arith, h.few)) in
    let size : payload_at ws pos ≡ n = i.1 in
    let d = written_here ws (pos + 1) (pos + 1 + payload_at ws pos) (term_words s) (term_words t) f.1 (omega arith) in
    (i.0, term_at ws v (pos + 1) (pos + 1 + payload_at ws pos) s lv g.0 d.0 (omega arith), term_at ws v (pos + 1 + payload_at ws pos) to t lv g.1 d.1 (omega (arith, e)))

-- one term, and two, that fill their part
one_at : (ws : List ℕ) (v pos to : ℕ) (t : Term) → v ≤ 255 → TermGood v t → Written ws pos (term_words t) → to ≡ pos + length (term_words t) → TermsAt ws 0 pos to (t ∷ [])
one_at ws v pos to t lv g h e = (to, term_at ws v pos to t lv g h e, refl)

two_at : (ws : List ℕ) (v pos to : ℕ) (s t : Term) → v ≤ 255 → TermGood v s → TermGood v t → Written ws pos (term_words s ++ term_words t) → to ≡ pos + length (term_words s ++ term_words t)
    → TermsAt ws 0 pos to (s ∷ t ∷ [])
two_at ws v pos to s t lv gs gt h e =
    let mid : ℕ = pos + length (term_words s) in
    let z : length (term_words s ++ term_words t) ≡ length (term_words s) + length (term_words t) = length-append (term_words s) (term_words t) in
    let d = written_here ws pos mid (term_words s) (term_words t) h refl in
    (mid, term_at ws v pos mid s lv gs d.0 refl, one_at ws v mid to t lv gt d.1 (omega arith))

pub terms_at : (ws : List ℕ) (v pos to : ℕ) (ts : List Term) → v ≤ 255 → TermsGood v ts → Written ws pos (terms_words ts) → to ≡ pos + length (terms_words ts) → TermsAt ws 0 pos to ts
unfolding terms_words TermsGood
terms_at ws v pos to [] lv g h e = omega (arith, e)
terms_at ws v pos to (t ∷ ts) lv g h e =
    let mid : ℕ = pos + length (term_words t) in
    let z : length (term_words t ++ terms_words ts) ≡ length (term_words t) + length (terms_words ts) = length-append (term_words t) (terms_words ts) in
    let d = written_here ws pos mid (term_words t) (terms_words ts) h refl in
    (mid, term_at ws v pos mid t lv g.0 d.0 refl, terms_at ws v mid to ts lv g.1 d.1 (omega arith))

tag_here : (w : ℕ) (a : Atom) → w ≡ atom_word a → TagGood a → AtomIs w a
tag_here w (symbol p) e g = is_word w 1 p e g
tag_here w (number p) e g = is_word w 2 p e g
tag_here w empty e g = absurd g

constraint_at : (ws : List ℕ) (v pos : ℕ) (c : Constraint) → v ≤ 255 → ConstraintGood v c → Written ws pos (constraint_words c) → ConstraintAt ws 0 pos c × (after ws pos ≡ pos + length (constraint_words c))
constraint_at ws v pos (differ s t) lv g h =
    let p = part_here ws pos 6 (term_words s ++ term_words t) h in
    ((p.0, two_at ws v (pos + 1) (after ws pos) s t lv g.0 g.1 p.2 p.1), omega (arith, p.1))
constraint_at ws v pos (typed k t) lv g h =
    let p = part_here ws pos (sort_kind k) (term_words t) h in
    ((p.0, one_at ws v (pos + 1) (after ws pos) t lv g p.2 p.1), omega (arith, p.1))
constraint_at ws v pos (absento a t) lv g h =
    let p = part_here ws pos 9 (atom_word a ∷ term_words t) h in
    let f = written_first ws (pos + 1) (atom_word a) (term_words t) p.2 in
    let two : pos + 1 + 1 ≡ pos + 2 = omega arith in
    ((p.0, tag_here (at ws (pos + 1)) a f.0 g.0, one_at ws v (pos + 2) (after ws pos) t lv g.1 (subst (λ i. Written ws i (term_words t)) two f.1) (omega (arith, p.1))), omega (arith, p.1))

mutual
  unfolding goal_words GoalGood

  pub goal_at : (ws : List ℕ) (v pos : ℕ) (g : Goal) → v ≤ 255 → GoalGood v g → Written ws pos (goal_words g) → GoalAt ws pos g × (after ws pos ≡ pos + length (goal_words g))
  goal_at ws v pos (equal s t) lv g h =
      let p = part_here ws pos 5 (term_words s ++ term_words t) h in
      ((p.0, two_at ws v (pos + 1) (after ws pos) s t lv g.0 g.1 p.2 p.1), omega (arith, p.1))
  goal_at ws v pos (constrain c) lv g h = constraint_at ws v pos c lv g h
  goal_at ws v pos (conj gs) lv g h =
      let p = part_here ws pos 10 (goals_words gs) h in
      ((p.0, goals_at ws v (pos + 1) (after ws pos) gs lv g p.2 p.1), omega (arith, p.1))
  goal_at ws v pos (disj gs) lv g h =
      let p = part_here ws pos 11 (goals_words gs) h in
      ((p.0, goals_at ws v (pos + 1) (after ws pos) gs lv g p.2 p.1), omega (arith, p.1))
  goal_at ws v pos (call r ts) lv g h =
      let p = part_here ws pos 12 (word 2 r ∷ terms_words ts) h in
      let f = written_first ws (pos + 1) (word 2 r) (terms_words ts) p.2 in
      let two : pos + 1 + 1 ≡ pos + 2 = omega arith in
      ((p.0, is_word (at ws (pos + 1)) 2 r f.0 g.0, terms_at ws v (pos + 2) (after ws pos) ts lv g.1 (subst (λ i. Written ws i (terms_words ts)) two f.1) (omega (arith, p.1))), omega (arith, p.1))

  pub goals_at : (ws : List ℕ) (v pos to : ℕ) (gs : Goals) → v ≤ 255 → GoalsGood v gs → Written ws pos (goals_words gs) → to ≡ pos + length (goals_words gs) → GoalsAt ws pos to gs
  goals_at ws v pos to (one g) lv good h e = let q = goal_at ws v pos g lv good h in (q.0, q.1 ∙ sym e)
  goals_at ws v pos to (more g gs) lv good h e =
      let mid : ℕ = pos + length (goal_words g) in
      let z : length (goal_words g ++ goals_words gs) ≡ length (goal_words g) + length (goals_words gs) = length-append (goal_words g) (goals_words gs) in
      let d = written_here ws pos mid (goal_words g) (goals_words gs) h refl in
      let q = goal_at ws v pos g lv good.0 d.0 in
      (q.0, subst (λ i. GoalsAt ws i to gs) (sym q.1) (goals_at ws v mid to gs lv good.1 d.1 (omega (arith, e))))

pub relation_at : (ws : List ℕ) (pos : ℕ) (R : Relation) → RelationGood R → Written ws pos (relation_words R) → pos + length (relation_words R) ≤ length ws → length ws ≤ most_words → RelationAt ws pos R
relation_at ws pos R g h within short =
    let lv : R.vars ≤ 255 = g.vars_bound in
    let lp : R.params ≤ R.vars = g.params_bound in
    let p = part_here ws pos 13 (word 2 R.params ∷ word 2 R.vars ∷ goal_words R.body) h in
    let f = written_first ws (pos + 1) (word 2 R.params) (word 2 R.vars ∷ goal_words R.body) p.2 in
    let s = written_first ws (pos + 1 + 1) (word 2 R.vars) (goal_words R.body) f.1 in
    let two : pos + 1 + 1 ≡ pos + 2 = omega arith in
    let three : pos + 1 + 1 + 1 ≡ pos + 3 = omega arith in
    let b = goal_at ws R.vars (pos + 3) R.body lv g.body_good (subst (λ i. Written ws i (goal_words R.body)) three s.1) in
    let end : after ws (pos + 3) ≤ length ws = omega (arith, b.1) in
    record {
      is_kind = p.0;
      params = is_word (at ws (pos + 1)) 2 R.params f.0 (omega arith);
      vars = is_word (at ws (pos + 2)) 2 R.vars (subst (λ i. at ws i ≡ word 2 R.vars) two s.0) (omega arith);
      body = b.0;
      inside = end;
      small = omega arith;
    }
