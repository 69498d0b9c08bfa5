-- A refusal's place is at most the word count, and its number is among 1 to 8.
use mathlib.Core.Path.{◌≡◌, refl, ap}
use mathlib.Core.Bool.{Bool, true, false, ◌&&◌}
use mathlib.Core.Option.{Option, some, none}
use mathlib.Core.List.{List, [], ◌∷◌, ◌++◌}
use Prim.Native.Nat.{ℕ, zero, suc, ◌+◌, ◌-◌, ◌*◌, ◌<◌, ◌≤◌}
use native.Mathlib.Omega.{arith}
use lib.Dec.{eqb, ltb, leb}
use lib.ListN.{length, get_elem?, length-append}
use borrow.Author.Tests.{ltb-true, leb-true}
use Rattle.rules.specs.Syntax.{Atom, symbol, number, Goal, Goals, equal, constrain, conj, disj, call, one, more, Relation, Program}
use Rattle.rules.specs.Written.{goal_words, goals_words, relation_words, written}
use Rattle.rules.specs.Reading.{Reading, found, refuse, next, require, choose, filled, fill, kind_at, payload_at, after, read_word, read_leaf, read_term, read_one, read_two, read_terms, goal_kind, goal_parts, read_goal, read_goals, read_atom, read_tag, read_absento, read_call, read_body, read_variables, read_relation, read_relations, read_structure}
use Rattle.rules.specs.Calls.{Fault, sound, fault, or_else, counted, call_fault, goal_fault, goals_fault, relations_fault}
use Rattle.rules.specs.Accept.{refused, judge, calls_read, read}
use Rattle.rules.specs.Settings.{most_words}
use Rattle.rules.proofs.Sound.{term_sound, word_sound, goal_sound, relation_sound}
use Rattle.rules.proofs.Accepted.{structure_written}

pub record Placed (end c p : ℕ) : Type 0 where
  pub from_one : 1 ≤ c
  pub to_eight : c ≤ 8
  pub within : p ≤ end

-- a refusal of this reading is placed at `end` or before it
abbrev Bounded : {A : Type 0} → ℕ → Reading A → Type 0
Bounded end (found a n) = Unit {0}
Bounded end (refuse c p) = Placed end c p

module _ {A : Type 0} where
  bounded_more : (near end : ℕ) (r : Reading A) → near ≤ end → Bounded near r → Bounded end r
  bounded_more near end (found a n) l h = tt
  bounded_more near end (refuse c p) l h = record { from_one = h.from_one; to_eight = h.to_eight; within = omega (arith, h.within) }

  bounded_require : (end c p : ℕ) (t : Bool) (k : Unit {0} → Reading A) → Placed end c p → (t ≡ true → Bounded end (k tt)) → Bounded end (require t c p k)
  bounded_require end c p true k h f = f refl
  bounded_require end c p false k h f = h

  bounded_choose : (end : ℕ) (t : Bool) (x y : Unit {0} → Reading A) → (t ≡ true → Bounded end (x tt)) → (t ≡ false → Bounded end (y tt)) → Bounded end (choose t x y)
  bounded_choose end true x y f g = f refl
  bounded_choose end false x y f g = g refl

  bounded_next : {B : Type 0} (end : ℕ) (r : Reading B) (k : B → ℕ → Reading A) → Bounded end r → ((b : B) (n : ℕ) → r ≡ found b n → Bounded end (k b n)) → Bounded end (next r k)
  bounded_next end (found b n) k h f = f b n refl
  bounded_next end (refuse c p) k h f = h

  bounded_filled : (end : ℕ) (a : A) (n stop : ℕ) → n ≤ end → Bounded end (filled a n stop)
  bounded_filled end a n stop l = bounded_require end 3 n (leb stop n) _ (record { from_one = omega arith; to_eight = omega arith; within = l }) (λ _. tt)

  bounded_fill : (end : ℕ) (r : Reading A) → Bounded end r → ((a : A) (n : ℕ) → r ≡ found a n → n ≤ end) → Bounded end (fill r end)
  bounded_fill end r h f = bounded_next end r (λ a n. filled a n end) h (λ a n e. bounded_filled end a n end (f a n e))

-- every number that a reader gives is in range, at a place up to `end`
placed : (end c p : ℕ) → 1 ≤ c → c ≤ 8 → p ≤ end → Placed end c p
placed end c p f t w = record { from_one = f; to_eight = t; within = w }

word_bounded : (k : ℕ) (ws : List ℕ) (at end : ℕ) → Bounded end (read_word k ws at end)
unfolding read_word
word_bounded k ws at end =
    bounded_require end 3 end (ltb at end) _ (placed end 3 end (omega arith) (omega arith) (omega arith)) (λ z.
    let l : at < end = ltb-true at end z in
    bounded_require end 2 at (eqb (kind_at ws at) k) _ (placed end 2 at (omega arith) (omega arith) (omega arith)) (λ _. tt))

atom_bounded : (k : ℕ) (make : ℕ → Atom) (ws : List ℕ) (at end : ℕ) → Bounded end (read_atom k make ws at end)
atom_bounded k make ws at end = bounded_next end (read_word k ws at end) _ (word_bounded k ws at end) (λ p n _. tt)

tag_bounded : (ws : List ℕ) (at end : ℕ) → Bounded end (read_tag ws at end)
unfolding read_tag
tag_bounded ws at end = bounded_choose end (eqb (kind_at ws at) 1) _ _ (λ _. atom_bounded 1 symbol ws at end) (λ _. atom_bounded 2 number ws at end)

leaf_bounded : (k p vars at end : ℕ) → at ≤ end → Bounded end (read_leaf k p vars at)
unfolding read_leaf
leaf_bounded k p vars at end l =
    bounded_choose end (eqb k 0) _ _ (λ _. bounded_require end 5 at (ltb p vars) _ (placed end 5 at (omega arith) (omega arith) l) (λ _. tt)) (λ _.
    bounded_choose end (eqb k 1) _ _ (λ _. tt) (λ _.
    bounded_choose end (eqb k 2) _ _ (λ _. tt) (λ _.
    bounded_require end 3 at (eqb p 0) _ (placed end 3 at (omega arith) (omega arith) l) (λ _. tt))))

-- where a part ends that does not overrun
after_within : (ws : List ℕ) (at end : ℕ) → at < end → leb (payload_at ws at) (end - (at + 1)) ≡ true → after ws at ≤ end
after_within ws at end l z = let v : payload_at ws at ≤ end - (at + 1) = leb-true _ _ z in omega arith

term_bounded : (words : ℕ) (ws : List ℕ) (vars at end : ℕ) → Bounded end (read_term words ws vars at end)
unfolding read_term
term_bounded zero ws vars at end = placed end 3 end (omega arith) (omega arith) (omega arith)
term_bounded (suc words) ws vars at end =
    bounded_require end 3 end (ltb at end) _ (placed end 3 end (omega arith) (omega arith) (omega arith)) (λ z.
    let l : at < end = ltb-true at end z in
    bounded_require end 2 at (leb (kind_at ws at) 4) _ (placed end 2 at (omega arith) (omega arith) (omega arith)) (λ _.
    bounded_choose end (eqb (kind_at ws at) 4) _ _
    (λ _. bounded_require end 3 at (leb (payload_at ws at) (end - (at + 1))) _ (placed end 3 at (omega arith) (omega arith) (omega arith)) (λ y.
    let v = after_within ws at end l y in
    bounded_next end (fill (read_term words ws vars (at + 1) (after ws at)) (after ws at)) _
    (bounded_more (after ws at) end (fill (read_term words ws vars (at + 1) (after ws at)) (after ws at)) v
    (bounded_fill (after ws at) (read_term words ws vars (at + 1) (after ws at)) (term_bounded words ws vars (at + 1) (after ws at)) (λ s n e. (term_sound words ws vars (at + 1) (after ws at) s n e).within))) (λ s m _.
    bounded_next end (read_term words ws vars (after ws at) end) _ (term_bounded words ws vars (after ws at) end) (λ t e _. tt))))
    (λ _. leaf_bounded (kind_at ws at) (payload_at ws at) vars at end (omega arith))))

one_bounded : (words : ℕ) (ws : List ℕ) (vars at end : ℕ) → Bounded end (read_one words ws vars at end)
unfolding read_one
one_bounded words ws vars at end = bounded_fill end (read_term words ws vars at end) (term_bounded words ws vars at end) (λ t n e. (term_sound words ws vars at end t n e).within)

two_bounded : (words : ℕ) (ws : List ℕ) (vars at end : ℕ) → Bounded end (read_two words ws vars at end)
unfolding read_two
two_bounded words ws vars at end =
    bounded_next end (read_term words ws vars at end) _ (term_bounded words ws vars at end) (λ s n e.
    bounded_next end (read_one words ws vars n end) _ (one_bounded words ws vars n end) (λ t m _. tt))

terms_bounded : (words : ℕ) (ws : List ℕ) (vars at end : ℕ) → Bounded end (read_terms words ws vars at end)
unfolding read_terms
terms_bounded zero ws vars at end = placed end 3 end (omega arith) (omega arith) (omega arith)
terms_bounded (suc words) ws vars at end =
    bounded_choose end (ltb at end) _ _
    (λ z. bounded_next end (read_term words ws vars at end) _ (term_bounded words ws vars at end) (λ t n e.
    bounded_next end (read_terms words ws vars n end) _ (terms_bounded words ws vars n end) (λ ts m _. tt)))
    (λ _. tt)

goals_both_bounded : (words : ℕ) (ws : List ℕ) (vars : ℕ) → ((at end : ℕ) → Bounded end (read_goal words ws vars at end)) × ((at end : ℕ) → Bounded end (read_goals words ws vars at end))
unfolding read_goal read_goals read_absento read_call
goals_both_bounded zero ws vars =
    (λ at end. placed end 3 end (omega arith) (omega arith) (omega arith), λ at end. placed end 3 end (omega arith) (omega arith) (omega arith))
goals_both_bounded (suc words) ws vars =
    let ih = goals_both_bounded words ws vars in (
      λ at end.
          bounded_require end 3 end (ltb at end) _ (placed end 3 end (omega arith) (omega arith) (omega arith)) (λ z.
          let l : at < end = ltb-true at end z in
          bounded_require end 2 at (goal_kind (kind_at ws at)) _ (placed end 2 at (omega arith) (omega arith) (omega arith)) (λ _.
          bounded_require end 3 at (leb (payload_at ws at) (end - (at + 1))) _ (placed end 3 at (omega arith) (omega arith) (omega arith)) (λ y.
          let from : ℕ = at + 1 in
          let to : ℕ = after ws at in
          let k : ℕ = kind_at ws at in
          bounded_more (after ws at) end (goal_parts words ws vars k from to (λ a e. read_goals words ws vars a e)) (after_within ws at end l y)
          (bounded_choose to (leb k 6) _ _ (λ _. bounded_next to (read_two words ws vars from to) _ (two_bounded words ws vars from to) (λ p n _. tt)) (λ _.
          bounded_choose to (leb k 8) _ _ (λ _. bounded_next to (read_one words ws vars from to) _ (one_bounded words ws vars from to) (λ t n _. tt)) (λ _.
          bounded_choose to (eqb k 9) _ _
          (λ _. bounded_next to (read_tag ws from to) _ (tag_bounded ws from to) (λ a n _.
          bounded_next to (read_one words ws vars n to) _ (one_bounded words ws vars n to) (λ t m _. tt))) (λ _.
          bounded_choose to (leb k 11) _ _ (λ _. bounded_next to (read_goals words ws vars from to) _ (ih.1 from to) (λ gs n _. tt)) (λ _.
          bounded_next to (read_word 2 ws from to) _ (word_bounded 2 ws from to) (λ r n _.
          bounded_next to (read_terms words ws vars n to) _ (terms_bounded words ws vars n to) (λ ts m _. tt)))))))))),
      λ at end.
          bounded_next end (read_goal words ws vars at end) _ (ih.0 at end) (λ g n e.
          bounded_choose end (ltb n end) _ _ (λ _. bounded_next end (read_goals words ws vars n end) _ (ih.1 n end) (λ gs m _. tt)) (λ _. tt)),
    )

variables_bounded : (words : ℕ) (ws : List ℕ) (params at end : ℕ) → at ≤ end → Bounded end (read_variables words ws params at end)
unfolding read_variables read_body
variables_bounded words ws params at end l =
    bounded_next end (read_word 2 ws at end) _ (word_bounded 2 ws at end) (λ vars n _.
    bounded_require end 4 at (leb vars 255 && leb params vars) _ (placed end 4 at (omega arith) (omega arith) l) (λ _.
    bounded_next end (read_body words ws vars n end) _
    (bounded_fill end (read_goal words ws vars n end) ((goals_both_bounded words ws vars).0 n end) (λ g q f. (goal_sound words ws vars n end g q f).within))
    (λ g m _. tt)))

relation_bounded : (words : ℕ) (ws : List ℕ) (before at : ℕ) → at < length ws → Bounded (length ws) (read_relation words ws before at)
unfolding read_relation
relation_bounded words ws before at l =
    let end : ℕ = length ws in
    bounded_require end 2 at (eqb (kind_at ws at) 13) _ (placed end 2 at (omega arith) (omega arith) (omega arith)) (λ _.
    bounded_require end 3 at (leb (payload_at ws at) (end - (at + 1))) _ (placed end 3 at (omega arith) (omega arith) (omega arith)) (λ y.
    bounded_require end 6 at (ltb before 256) _ (placed end 6 at (omega arith) (omega arith) (omega arith)) (λ _.
    bounded_more (after ws at) end (next (read_word 2 ws (at + 1) (after ws at)) (λ params n. read_variables words ws params n (after ws at))) (after_within ws at end l y)
    (bounded_next (after ws at) (read_word 2 ws (at + 1) (after ws at)) _ (word_bounded 2 ws (at + 1) (after ws at)) (λ params n e.
    variables_bounded words ws params n (after ws at) (word_sound 2 ws (at + 1) (after ws at) params n e).0.within)))))

relations_bounded : (words : ℕ) (ws : List ℕ) (before at : ℕ) → at ≤ length ws → Bounded (length ws) (read_relations words ws before at)
unfolding read_relations
relations_bounded zero ws before at l = placed (length ws) 3 at (omega arith) (omega arith) l
relations_bounded (suc words) ws before at l =
    let end : ℕ = length ws in
    bounded_choose end (ltb at end) _ _
    (λ z. bounded_next end (read_relation words ws before at) _ (relation_bounded words ws before at (ltb-true at end z)) (λ R n e.
    let f = relation_sound words ws before at R n (ltb-true at end z) e in
    bounded_next end (read_relations words ws (before + 1) n) _ (relations_bounded words ws (before + 1) n f.0.within) (λ P m _. tt)))
    (λ _. tt)

structure_bounded : (ws : List ℕ) → Bounded (length ws) (read_structure ws)
structure_bounded ws =
    bounded_require (length ws) 1 0 (leb 1 (length ws) && leb (length ws) most_words) _ (placed (length ws) 1 0 (omega arith) (omega arith) (omega arith))
    (λ _. relations_bounded (2 * length ws + 4) ws 0 0 (omega arith))

-- the same of the calls' faults
BoundedFault : ℕ → Fault → Type 0
BoundedFault end sound = Unit {0}
BoundedFault end (fault c p) = Placed end c p

fault_else : (end : ℕ) (a b : Fault) → BoundedFault end a → BoundedFault end b → BoundedFault end (or_else a b)
unfolding BoundedFault
fault_else end sound b h k = k
fault_else end (fault c p) b h k = h

fault_more : (near end : ℕ) (f : Fault) → near ≤ end → BoundedFault near f → BoundedFault end f
unfolding BoundedFault
fault_more near end sound l h = tt
fault_more near end (fault c p) l h = record { from_one = h.from_one; to_eight = h.to_eight; within = omega (arith, h.within) }

counted_bounded : (t : Bool) (at : ℕ) → BoundedFault at (counted t at)
unfolding BoundedFault
counted_bounded true at = tt
counted_bounded false at = placed at 8 at (omega arith) (omega arith) (omega arith)

call_bounded : (o : Option Relation) (args at : ℕ) → BoundedFault at (call_fault o args at)
unfolding BoundedFault
call_bounded none args at = placed at 7 at (omega arith) (omega arith) (omega arith)
call_bounded (some R) args at = counted_bounded (eqb args R.params) at

mutual
  unfolding goal_fault goals_fault goal_words goals_words BoundedFault

  goal_fault_bounded : (g : Goal) (P : Program) (at : ℕ) → BoundedFault (at + length (goal_words g)) (goal_fault g P at)
  goal_fault_bounded (equal s t) P at = tt
  goal_fault_bounded (constrain c) P at = tt
  goal_fault_bounded (conj gs) P at = fault_more _ _ (goals_fault gs P (at + 1)) (omega arith) (goals_fault_bounded gs P (at + 1))
  goal_fault_bounded (disj gs) P at = fault_more _ _ (goals_fault gs P (at + 1)) (omega arith) (goals_fault_bounded gs P (at + 1))
  goal_fault_bounded (call r ts) P at = fault_more at _ (call_fault (get_elem? P r) (length ts) at) (omega arith) (call_bounded (get_elem? P r) (length ts) at)

  goals_fault_bounded : (gs : Goals) (P : Program) (at : ℕ) → BoundedFault (at + length (goals_words gs)) (goals_fault gs P at)
  goals_fault_bounded (one g) P at = goal_fault_bounded g P at
  goals_fault_bounded (more g gs) P at =
      let z : length (goal_words g ++ goals_words gs) ≡ length (goal_words g) + length (goals_words gs) = length-append (goal_words g) (goals_words gs) in
      fault_else _ (goal_fault g P at) (goals_fault gs P (at + length (goal_words g)))
      (fault_more (at + length (goal_words g)) _ (goal_fault g P at) (omega arith) (goal_fault_bounded g P at))
      (fault_more _ _ (goals_fault gs P (at + length (goal_words g))) (omega arith) (goals_fault_bounded gs P (at + length (goal_words g))))

relations_fault_bounded : (Rs : List Relation) (P : Program) (at : ℕ) → BoundedFault (at + length (written Rs)) (relations_fault Rs P at)
unfolding relations_fault written BoundedFault
relations_fault_bounded [] P at = tt
relations_fault_bounded (R ∷ Rs) P at =
    let z : length (relation_words R ++ written Rs) ≡ length (relation_words R) + length (written Rs) = length-append (relation_words R) (written Rs) in
    fault_else _ (goal_fault R.body P (at + 3)) (relations_fault Rs P (at + length (relation_words R)))
    (fault_more (at + 3 + length (goal_words R.body)) _ (goal_fault R.body P (at + 3)) (omega (arith, z)) (goal_fault_bounded R.body P (at + 3)))
    (fault_more _ _ (relations_fault Rs P (at + length (relation_words R))) (omega (arith, z)) (relations_fault_bounded Rs P (at + length (relation_words R))))

judge_placed : (end : ℕ) (P : Program) (f : Fault) (c p : ℕ) → BoundedFault end f → judge P f ≡ refused c p → Placed end c p
unfolding BoundedFault
judge_placed end P sound c p h e = cc
judge_placed end P (fault d q) c p h e = let x : d ≡ c = cc in let y : q ≡ p = cc in rw (x, y) at h

calls_placed : (ws : List ℕ) (r : Reading Program) → read_structure ws ≡ r → (c p : ℕ) → Bounded (length ws) r → calls_read r ≡ refused c p → Placed (length ws) c p
calls_placed ws (found P n) s c p h e =
    let w : length ws ≡ length (written P) = ap length (structure_written ws P n s).0 in
    judge_placed (length ws) P (relations_fault P P 0) c p (fault_more (0 + length (written P)) (length ws) _ (omega arith) (relations_fault_bounded P P 0)) e
calls_placed ws (refuse d q) s c p h e = let x : d ≡ c = cc in let y : q ≡ p = cc in rw (x, y) at h

pub refusal_placed : (ws : List ℕ) (c p : ℕ) → read ws ≡ refused c p → Placed (length ws) c p
unfolding read
refusal_placed ws c p e = calls_placed ws (read_structure ws) refl c p (structure_bounded ws) e
