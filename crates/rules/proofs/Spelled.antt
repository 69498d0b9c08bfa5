-- Words that stand at a place of a list.
use mathlib.Core.Path.{◌≡◌, refl, ◌∙◌}
use mathlib.Core.List.{List, [], ◌∷◌, ◌++◌}
use Prim.Native.Nat.{ℕ, zero, suc, ◌+◌, ◌<◌}
use native.Mathlib.Omega.{arith}
use native.Mathlib.Numerals.{add-one}
use lib.ListN.{length, get_or, length-append}
use lib.Seq.{ext_get_or}
use Rattle.word.specs.Word.{kind, payload, word}
use Rattle.rules.specs.Syntax.{Term, var, atom, pair, Constraint, differ, typed, absento, Goal, Goals, equal, constrain, conj, disj, call, one, more}
use Rattle.rules.specs.Written.{term_words, constraint_words, goal_words, goals_words}
use Rattle.rules.specs.Inner.{Spells}

-- the same from a place that is written otherwise
pub stands_at : (ws : List ℕ) (at to : ℕ) (xs : List ℕ) → at ≡ to → Spells ws at xs → Spells ws to xs
stands_at ws at to xs e h = rw e at h

pub stands_append : (ws : List ℕ) (at : ℕ) (xs ys : List ℕ) → Spells ws at xs → Spells ws (at + length xs) ys → Spells ws at (xs ++ ys)
unfolding Spells
stands_append ws at [] ys h k = let e : at + 0 ≡ at = omega arith in stands_at ws (at + 0) at ys e k
stands_append ws at (x ∷ xs) ys h k =
    let e : at + suc (length xs) ≡ at + 1 + length xs = omega arith in
    (h.0, stands_append ws (at + 1) xs ys h.1 (stands_at ws _ _ ys e k))

pub stands_split : (ws : List ℕ) (at : ℕ) (xs ys : List ℕ) → Spells ws at (xs ++ ys) → Spells ws at xs × Spells ws (at + length xs) ys
unfolding Spells
stands_split ws at [] ys h = let e : at ≡ at + 0 = omega arith in (tt, stands_at ws at (at + 0) ys e h)
stands_split ws at (x ∷ xs) ys h =
    let e : at + 1 + length xs ≡ at + suc (length xs) = omega arith in
    let q = stands_split ws (at + 1) xs ys h.1 in
    ((h.0, q.0), stands_at ws _ _ ys e q.1)

-- a list stands at its own start ..
pub stands_tail : (w : ℕ) (ws : List ℕ) (at : ℕ) (xs : List ℕ) → Spells ws at xs → Spells (w ∷ ws) (at + 1) xs
unfolding Spells
stands_tail w ws at [] h = tt
stands_tail w ws at (x ∷ xs) h =
    let e : get_or (w ∷ ws) (at + 1) 0 ≡ get_or ws at 0 = rw add-one in
    (e ∙ h.0, stands_tail w ws (at + 1) xs h.1)

pub stands_self : (ws : List ℕ) → Spells ws 0 ws
unfolding Spells
stands_self [] = tt
stands_self (w ∷ ws) = (refl, stands_tail w ws 0 ws (stands_self ws))

-- .. and is all that stands there with its length
pub stands_getD : (ws : List ℕ) (at : ℕ) (xs : List ℕ) (i : ℕ) → Spells ws at xs → i < length xs → get_or ws (at + i) 0 ≡ get_or xs i 0
unfolding Spells
stands_getD ws at [] i h l = absurd (omega arith)
stands_getD ws at (x ∷ xs) zero h l = let e : at + 0 ≡ at = omega arith in rw e h.0
stands_getD ws at (x ∷ xs) (suc i) h l = let e : at + suc i ≡ at + 1 + i = omega arith in rw e (stands_getD ws (at + 1) xs i h.1 (omega arith))

pub stands_whole : (ws xs : List ℕ) → Spells ws 0 xs → length ws ≡ length xs → ws ≡ xs
stands_whole ws xs h e = ext_get_or 0 ws xs e (λ i l. let z : 0 + i ≡ i = omega arith in rw z at (stands_getD ws 0 xs i h (omega arith)))

-- a written term has a word at least; so have goals
pub term_some : (t : Term) → 0 < length (term_words t)
unfolding term_words
term_some (var x) = omega arith
term_some (atom a) = omega arith
term_some (pair s t) = omega arith

pub constraint_some : (c : Constraint) → 0 < length (constraint_words c)
constraint_some (differ s t) = omega arith
constraint_some (typed k t) = omega arith
constraint_some (absento a t) = omega arith

pub goal_some : (g : Goal) → 0 < length (goal_words g)
unfolding goal_words
goal_some (equal s t) = omega arith
goal_some (constrain c) = constraint_some c
goal_some (conj gs) = omega arith
goal_some (disj gs) = omega arith
goal_some (call r ts) = omega arith

pub goals_some : (gs : Goals) → 0 < length (goals_words gs)
unfolding goals_words
goals_some (one g) = goal_some g
goals_some (more g gs) = simp length-append (omega (arith, goal_some g))

-- a word is that of its kind and payload
pub is_word : (w k : ℕ) → kind w ≡ k → w ≡ word k (payload w)
is_word w k e = omega arith

-- the kind and the payload of a word that stands
pub kind_of : (ws : List ℕ) (at k p : ℕ) → get_or ws at 0 ≡ word k p → p < 268435456 → kind (get_or ws at 0) ≡ k
kind_of ws at k p e l = omega arith

pub payload_of : (ws : List ℕ) (at k p : ℕ) → get_or ws at 0 ≡ word k p → p < 268435456 → payload (get_or ws at 0) ≡ p
payload_of ws at k p e l = omega arith
