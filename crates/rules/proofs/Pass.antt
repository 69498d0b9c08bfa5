-- The second pass: what it skips, finds and goes on to, one law for each way in which its functions return or go on.
use mathlib.Core.Path.{◌≡◌, refl, sym, ap, ◌∙◌}
use mathlib.Core.Option as maybe
use mathlib.Core.List.{List, [], ◌∷◌, ◌++◌, append_assoc}
use Prim.Native.Nat.{ℕ, zero, suc, ◌+◌, ◌<◌, ◌≤◌}
use native.Mathlib.Omega.{arith}
use lib.ListN.{length, get_or, get_elem?, length-append}
use borrow.Author.Tests.{eq-eqb, ne_eqb}
use Rattle.std.specs.Prelude.{Option, Some, None}
use Rattle.word.specs.Word.{word}
use Rattle.rules.specs.Syntax.{symbol, number, empty, Term, var, atom, pair, symbols, numbers, Constraint, differ, typed, absento, Goal, Goals, equal, constrain, conj, disj, call, one, more, Relation, Program}
use Rattle.rules.specs.Written.{atom_word, term_words, terms_words, goal_words, goals_words, relation_words, written, part, sort_kind}
use Rattle.rules.specs.WellFormed.{TermGood, TermsGood, GoalGood, GoalsGood, RelationGood, RelationsGood}
use Rattle.rules.specs.Calls.{Fault, sound, fault, or_else, call_fault, goal_fault, goals_fault, relations_fault}
use Rattle.rules.specs.Inner.{Spells, PartAt, GoodTermAt, GoodTermsAt, RelationsAt, Item, relation, goal, item_words, item_fault, items_words, ItemsGood, items_fault, Rest, Moves, params_of, ends, stops}
use Rattle.rules.proofs.Spelled.{stands_at, stands_append, stands_split, term_some, kind_of, payload_of}

-- what a part at a place is, where its word is known
part_kind : (ws : List ℕ) (at k p q n : ℕ) → PartAt ws at k p → get_or ws at 0 ≡ word q n → n < 268435456 → k ≡ q
part_kind ws at k p q n s e l = s.is_kind ∙ kind_of ws at q n e l

part_size : (ws : List ℕ) (at k p q n : ℕ) → PartAt ws at k p → get_or ws at 0 ≡ word q n → n < 268435456 → p ≡ n
part_size ws at k p q n s e l = s.is_size ∙ payload_of ws at q n e l

-- past a term
pub term_inside : (ws : List ℕ) (at : ℕ) (t : Term) → GoodTermAt ws at t → at < length ws
term_inside ws at t h = omega (arith, h.within, term_some t)

pub record Onward (ws : List ℕ) (at to : ℕ) (t : Term) : Type 0 where
  pub rest : Term
  pub there : GoodTermAt ws to rest
  pub same : to + length (term_words rest) ≡ at + length (term_words t)
  pub forward : at < to

differs : {C : Type 0} (k a b : ℕ) → k ≡ a → k ≡ b → (a ≡ b → ⊥) → C
differs k a b e f n = absurd (n (sym e ∙ f))

pub skip_pair : (ws : List ℕ) (at k p : ℕ) (t : Term) → GoodTermAt ws at t → PartAt ws at k p → k ≡ 4 → Onward ws at (at + 1 + p) t
unfolding term_words TermGood Spells
skip_pair ws at k p (var x) h s e = differs k 4 0 e (part_kind ws at k p 0 x s h.stands.0 (omega (arith, h.good, h.few))) (omega arith)
skip_pair ws at k p (atom (symbol q)) h s e = differs k 4 1 e (part_kind ws at k p 1 q s h.stands.0 h.good) (omega arith)
skip_pair ws at k p (atom (number q)) h s e = differs k 4 2 e (part_kind ws at k p 2 q s h.stands.0 h.good) (omega arith)
skip_pair ws at k p (atom empty) h s e = differs k 4 3 e (part_kind ws at k p 3 0 s h.stands.0 (omega arith)) (omega arith)
skip_pair ws at k p (pair a b) h s e =
    let n : ℕ = length (term_words a) in
    let z : length (term_words a ++ term_words b) ≡ length (term_words a) + length (term_words b) = length-append (term_words a) (term_words b) in
    let q : p ≡ n = part_size ws at k p 4 n s h.stands.0 (omega (arith, h.within, h.short, z)) in
    let d = stands_split ws (at + 1) (term_words a) (term_words b) h.stands.1 in
    record {
      rest = b;
      there = record { vars = h.vars; few = h.few; good = h.good.1; stands = stands_at ws (at + 1 + n) (at + 1 + p) (term_words b) (omega arith) d.1; within = omega (arith, h.within, z); short = h.short };
      same = omega (arith, z);
      forward = omega arith;
    }

pub skip_leaf : (ws : List ℕ) (at k p : ℕ) (t : Term) → GoodTermAt ws at t → PartAt ws at k p → (k ≡ 4 → ⊥) → length (term_words t) ≡ 1
unfolding term_words Spells
skip_leaf ws at k p (var x) h s n = refl
skip_leaf ws at k p (atom a) h s n = refl
skip_leaf ws at k p (pair a b) h s n =
    let z : length (term_words a ++ term_words b) ≡ length (term_words a) + length (term_words b) = length-append (term_words a) (term_words b) in
    absurd (n (part_kind ws at k p 4 (length (term_words a)) s h.stands.0 (omega (arith, h.within, h.short, z))))

-- counting terms
pub record Counted (ws : List ℕ) (at end : ℕ) (t : Term) (ts : List Term) : Type 0 where
  pub term : GoodTermAt ws at t
  pub rest : GoodTermsAt ws (at + length (term_words t)) end ts

pub terms_split : (ws : List ℕ) (at end : ℕ) (t : Term) (ts : List Term) → GoodTermsAt ws at end (t ∷ ts) → Counted ws at end t ts
unfolding terms_words TermsGood
terms_split ws at end t ts h =
    let z : length (term_words t ++ terms_words ts) ≡ length (term_words t) + length (terms_words ts) = length-append (term_words t) (terms_words ts) in
    let d = stands_split ws at (term_words t) (terms_words ts) h.stands in
    record {
      term = record { vars = h.vars; few = h.few; good = h.good.0; stands = d.0; within = omega (arith, h.to, h.within, z); short = h.short };
      rest = record { vars = h.vars; few = h.few; good = h.good.1; stands = d.1; to = omega (arith, h.to, z); within = h.within; short = h.short };
    }

-- there is a term before the end, and none at it
pub terms_some : (ws : List ℕ) (at end : ℕ) (ts : List Term) → GoodTermsAt ws at end ts → at < end → (t : Term) × (us : List Term) × (ts ≡ t ∷ us)
unfolding terms_words
terms_some ws at end [] h l = absurd (omega (arith, h.to))
terms_some ws at end (t ∷ us) h l = (t, us, refl)

pub terms_none : (ws : List ℕ) (at end : ℕ) (ts : List Term) → GoodTermsAt ws at end ts → end ≤ at → length ts ≡ 0
unfolding terms_words
terms_none ws at end [] h l = refl
terms_none ws at end (t ∷ us) h l =
    let z : length (term_words t ++ terms_words us) ≡ length (term_words t) + length (terms_words us) = length-append (term_words t) (terms_words us) in
    absurd (omega (arith, h.to, term_some t, z))

-- from relation to relation
pub record Ahead (ws : List ℕ) (at k p : ℕ) (R : Relation) (Rs : List Relation) : Type 0 where
  pub good : RelationGood R
  pub params_there : at + 1 < length ws
  pub params_word : get_or ws (at + 1) 0 ≡ word 2 R.params
  pub body : Spells ws (at + 3) (goal_words R.body)
  pub size : p ≡ suc (suc (length (goal_words R.body)))
  pub rest : RelationsAt ws (at + 1 + p) Rs

pub relations_split : (ws : List ℕ) (at k p : ℕ) (R : Relation) (Rs : List Relation) → RelationsAt ws at (R ∷ Rs) → PartAt ws at k p → Ahead ws at k p R Rs
unfolding written RelationsGood Spells
relations_split ws at k p R Rs h s =
    let n : ℕ = suc (suc (length (goal_words R.body))) in
    let z : length (relation_words R ++ written Rs) ≡ suc n + length (written Rs) = length-append (relation_words R) (written Rs) in
    let d = stands_split ws at (relation_words R) (written Rs) h.stands in
    let q : p ≡ n = part_size ws at k p 13 n s d.0.0 (omega (arith, h.to, h.short, z)) in
    record {
      good = h.good.0;
      params_there = omega (arith, h.to, z);
      params_word = d.0.1.0;
      body = stands_at ws (at + 1 + 1 + 1) (at + 3) (goal_words R.body) (omega arith) d.0.1.1.1;
      size = q;
      rest = record { stands = stands_at ws (at + suc n) (at + 1 + p) (written Rs) (omega arith) d.1; to = omega (arith, h.to, z); good = h.good.1; short = h.short };
    }

pub relations_some : (ws : List ℕ) (at : ℕ) (Rs : List Relation) → RelationsAt ws at Rs → at < length ws → (R : Relation) × (Qs : List Relation) × (Rs ≡ R ∷ Qs)
unfolding written
relations_some ws at [] h l = absurd (omega (arith, h.to))
relations_some ws at (R ∷ Qs) h l = (R, Qs, refl)

pub relations_none : (ws : List ℕ) (at : ℕ) (Rs : List Relation) → RelationsAt ws at Rs → length ws ≤ at → Rs ≡ []
unfolding written
relations_none ws at [] h l = refl
relations_none ws at (R ∷ Qs) h l =
    let z : length (relation_words R ++ written Qs) ≡ suc (suc (suc (length (goal_words R.body)))) + length (written Qs) = length-append (relation_words R) (written Qs) in
    absurd (omega (arith, h.to, z))

pub params_read : (ws : List ℕ) (at k p q m : ℕ) (R : Relation) (Rs : List Relation) → Ahead ws at k p R Rs → PartAt ws (at + 1) q m → m ≡ R.params
params_read ws at k p q m R Rs a s = part_size ws (at + 1) q m 2 R.params s a.params_word (omega (arith, a.good.vars_bound, a.good.params_bound))

-- the empty list has no relation
pub lookup_none : (n : ℕ) → get_elem? {A = Relation} [] n ≡ maybe.none
lookup_none zero = refl
lookup_none (suc n) = refl

-- items: the kind of the first word, and what follows it
item_kind : Item → ℕ
item_kind (relation R) = 13
item_kind (goal vars (equal s t)) = 5
item_kind (goal vars (constrain (differ s t))) = 6
item_kind (goal vars (constrain (typed k t))) = sort_kind k
item_kind (goal vars (constrain (absento a t))) = 9
item_kind (goal vars (conj gs)) = 10
item_kind (goal vars (disj gs)) = 11
item_kind (goal vars (call r ts)) = 12

item_inner : Item → List ℕ
item_inner (relation R) = word 2 R.params ∷ word 2 R.vars ∷ goal_words R.body
item_inner (goal vars (equal s t)) = term_words s ++ term_words t
item_inner (goal vars (constrain (differ s t))) = term_words s ++ term_words t
item_inner (goal vars (constrain (typed k t))) = term_words t
item_inner (goal vars (constrain (absento a t))) = atom_word a ∷ term_words t
item_inner (goal vars (conj gs)) = goals_words gs
item_inner (goal vars (disj gs)) = goals_words gs
item_inner (goal vars (call r ts)) = word 2 r ∷ terms_words ts

item_is : (i : Item) → item_words i ≡ part (item_kind i) (item_inner i)
unfolding item_kind item_inner goal_words
item_is (relation R) = refl
item_is (goal vars (equal s t)) = refl
item_is (goal vars (constrain (differ s t))) = refl
item_is (goal vars (constrain (typed k t))) = refl
item_is (goal vars (constrain (absento a t))) = refl
item_is (goal vars (conj gs)) = refl
item_is (goal vars (disj gs)) = refl
item_is (goal vars (call r ts)) = refl

-- what stands at the first of the items that are left
record First (ws : List ℕ) (P : Program) (at k p : ℕ) (i : Item) (is : List Item) : Type 0 where
  pub kind : k ≡ item_kind i
  pub size : p ≡ length (item_inner i)
  pub inner : Spells ws (at + 1) (item_inner i)
  pub width : length (item_words i) ≡ p + 1
  pub rest : Rest ws P (at + 1 + p) is

first : (ws : List ℕ) (P : Program) (at k p : ℕ) (i : Item) (is : List Item) → Rest ws P at (i ∷ is) → PartAt ws at k p → First ws P at k p i is
unfolding Spells
first ws P at k p i is h s =
    let e : item_words i ≡ part (item_kind i) (item_inner i) = item_is i in
    let n : ℕ = length (item_inner i) in
    let z : length (item_words i ++ items_words is) ≡ length (item_words i) + length (items_words is) = length-append (item_words i) (items_words is) in
    let w : length (item_words i) ≡ suc n = ap length e in
    let d = stands_split ws at (item_words i) (items_words is) h.stands in
    let c : Spells ws at (part (item_kind i) (item_inner i)) = rw e at d.0 in
    let l : n < 268435456 = omega (arith, h.to, h.whole.short, z, w) in
    let q : p ≡ n = part_size ws at k p (item_kind i) n s c.0 l in
    record {
      kind = part_kind ws at k p (item_kind i) n s c.0 l;
      size = q;
      inner = c.1;
      width = omega (arith, w, q);
      rest = record { whole = h.whole; stands = stands_at ws (at + length (item_words i)) (at + 1 + p) (items_words is) (omega (arith, w, q)) d.1; to = omega (arith, h.to, z, w, q); good = h.good.1 };
    }

-- the goals of a sequence as items
goals_items : ℕ → Goals → List Item → List Item
goals_items vars (one g) is = goal vars g ∷ is
goals_items vars (more g gs) is = goal vars g ∷ goals_items vars gs is

goals_items_words : (vars : ℕ) (gs : Goals) (is : List Item) → items_words (goals_items vars gs is) ≡ goals_words gs ++ items_words is
unfolding goals_items goals_words
goals_items_words vars (one g) is = refl
goals_items_words vars (more g gs) is = ap (λ ws. goal_words g ++ ws) (goals_items_words vars gs is) ∙ sym (append_assoc (goal_words g) (goals_words gs) (items_words is))

goals_items_good : (vars : ℕ) (gs : Goals) (is : List Item) → vars ≤ 255 → GoalsGood vars gs → ItemsGood is → ItemsGood (goals_items vars gs is)
unfolding goals_items GoalsGood
goals_items_good vars (one g) is f h k = ((h, f), k)
goals_items_good vars (more g gs) is f h k = ((h.0, f), goals_items_good vars gs is f h.1 k)

or_else_assoc : (a b c : Fault) → or_else (or_else a b) c ≡ or_else a (or_else b c)
or_else_assoc sound b c = refl
or_else_assoc (fault d p) b c = refl

goals_items_fault : (vars : ℕ) (gs : Goals) (is : List Item) (P : Program) (at : ℕ)
    → items_fault (goals_items vars gs is) P at ≡ or_else (goals_fault gs P at) (items_fault is P (at + length (goals_words gs)))
unfolding goals_items goals_fault goals_words
goals_items_fault vars (one g) is P at = refl
goals_items_fault vars (more g gs) is P at =
    let a : ℕ = at + length (goal_words g) in
    let z : at + length (goal_words g) + length (goals_words gs) ≡ at + length (goal_words g ++ goals_words gs) = simp length-append (omega arith) in
    ap (λ f. or_else (goal_fault g P at) f) (goals_items_fault vars gs is P a ∙ ap (λ n. or_else (goals_fault gs P a) (items_fault is P n)) z)
    ∙ sym (or_else_assoc (goal_fault g P at) (goals_fault gs P a) (items_fault is P (at + length (goal_words g ++ goals_words gs))))

-- a kind of constraint is none of the others'
constraint_kinds : (vars : ℕ) (c : Constraint) → (6 ≤ item_kind (goal vars (constrain c))) × (item_kind (goal vars (constrain c)) ≤ 9)
unfolding item_kind
constraint_kinds vars (differ s t) = (omega arith, omega arith)
constraint_kinds vars (typed symbols t) = (omega arith, omega arith)
constraint_kinds vars (typed numbers t) = (omega arith, omega arith)
constraint_kinds vars (absento a t) = (omega arith, omega arith)

-- items that begin with a relation, a sequence, a call, or neither
data Shape : Item → Type 0 where
  of_relation : (R : Relation) → Shape (relation R)
  of_conj : (vars : ℕ) (gs : Goals) → Shape (goal vars (conj gs))
  of_disj : (vars : ℕ) (gs : Goals) → Shape (goal vars (disj gs))
  of_call : (vars n : ℕ) (ts : List Term) → Shape (goal vars (call n ts))
  of_plain : (vars : ℕ) (g : Goal) → item_kind (goal vars g) < 10 → ((P : Program) (at : ℕ) → goal_fault g P at ≡ sound) → Shape (goal vars g)

shape : (i : Item) → Shape i
unfolding goal_fault item_kind
shape (relation R) = of_relation R
shape (goal vars (equal s t)) = of_plain vars (equal s t) (omega arith) (λ P at. refl)
shape (goal vars (constrain c)) = of_plain vars (constrain c) (omega (arith, (constraint_kinds vars c).1)) (λ P at. refl)
shape (goal vars (conj gs)) = of_conj vars gs
shape (goal vars (disj gs)) = of_disj vars gs
shape (goal vars (call n ts)) = of_call vars n ts

relation_kind : (R : Relation) → item_kind (relation R) ≡ 13
unfolding item_kind
relation_kind R = refl

conj_kind : (vars : ℕ) (gs : Goals) → item_kind (goal vars (conj gs)) ≡ 10
unfolding item_kind
conj_kind vars gs = refl

disj_kind : (vars : ℕ) (gs : Goals) → item_kind (goal vars (disj gs)) ≡ 11
unfolding item_kind
disj_kind vars gs = refl

call_kind : (vars n : ℕ) (ts : List Term) → item_kind (goal vars (call n ts)) ≡ 12
unfolding item_kind
call_kind vars n ts = refl

-- into a relation
enter_relation : (ws : List ℕ) (P : Program) (at k p : ℕ) (R : Relation) (is : List Item) → Rest ws P at (relation R ∷ is) → First ws P at k p (relation R) is
    → Moves ws P at (relation R ∷ is) (ends (at + 3))
unfolding item_inner Spells
enter_relation ws P at k p R is h f =
    let n : ℕ = length (goal_words R.body) in
    let q : p ≡ suc (suc n) = f.size in
    let z : length (goal_words R.body ++ items_words is) ≡ n + length (items_words is) = length-append (goal_words R.body) (items_words is) in
    let y : at + length (relation_words R) ≡ at + 3 + n = omega arith in (
      goal R.vars R.body ∷ is,
      record {
        whole = h.whole;
        stands = stands_append ws (at + 3) (goal_words R.body) (items_words is) (stands_at ws (at + 1 + 1 + 1) (at + 3) (goal_words R.body) (omega arith) f.inner.1.1)
            (stands_at ws (at + 1 + p) (at + 3 + n) (items_words is) (omega (arith, q)) f.rest.stands);
        to = omega (arith, f.rest.to, q, z);
        good = ((h.good.0.body_good, h.good.0.vars_bound), f.rest.good);
      },
      ap (λ a. or_else (goal_fault R.body P (at + 3)) (items_fault is P a)) y,
      omega arith,
    )

-- into a sequence of goals
enter_goals : (ws : List ℕ) (P : Program) (at p vars : ℕ) (gs : Goals) (is : List Item) → RelationsAt ws 0 P → vars ≤ 255 → GoalsGood vars gs → p ≡ length (goals_words gs)
    → Spells ws (at + 1) (goals_words gs) → Rest ws P (at + 1 + p) is → (f : Fault) → f ≡ or_else (goals_fault gs P (at + 1)) (items_fault is P (at + suc (length (goals_words gs))))
    → (js : List Item) × Rest ws P (at + 1) js × (f ≡ items_fault js P (at + 1)) × (at < at + 1)
enter_goals ws P at p vars gs is w few good q s r f e =
    let z : length (goals_words gs ++ items_words is) ≡ length (goals_words gs) + length (items_words is) = length-append (goals_words gs) (items_words is) in
    let v : items_words (goals_items vars gs is) ≡ goals_words gs ++ items_words is = goals_items_words vars gs is in
    let y : at + suc (length (goals_words gs)) ≡ at + 1 + length (goals_words gs) = omega arith in (
      goals_items vars gs is,
      record {
        whole = w;
        stands = rw v (stands_append ws (at + 1) (goals_words gs) (items_words is) s (stands_at ws (at + 1 + p) (at + 1 + length (goals_words gs)) (items_words is) (omega arith) r.stands));
        to = rw v (omega (arith, r.to, q, z));
        good = goals_items_good vars gs is few good r.good;
      },
      e ∙ ap (λ a. or_else (goals_fault gs P (at + 1)) (items_fault is P a)) y ∙ sym (goals_items_fault vars gs is P (at + 1)),
      omega arith,
    )

-- past an item without a fault
pass_item : (ws : List ℕ) (P : Program) (at k p : ℕ) (i : Item) (is : List Item) → First ws P at k p i is → item_fault i P at ≡ sound → Moves ws P at (i ∷ is) (ends (at + 1 + p))
pass_item ws P at k p i is f e =
    let y : at + length (item_words i) ≡ at + 1 + p = omega (arith, f.width) in
    (is, f.rest, ap (λ x. or_else x (items_fault is P (at + length (item_words i)))) e ∙ ap (items_fault is P) y, omega arith)

module _ (ws : List ℕ) (P : Program) (at k p : ℕ) (is : List Item) (s : PartAt ws at k p) where
  pub move_relation : (i : Item) → Rest ws P at (i ∷ is) → k ≡ 13 → Moves ws P at (i ∷ is) (ends (at + 3))
  move_relation i h e = go (shape i) h (first ws P at k p i is h s)
    where
      go : {i : Item} → Shape i → Rest ws P at (i ∷ is) → First ws P at k p i is → Moves ws P at (i ∷ is) (ends (at + 3))
      go (of_relation R) h f = enter_relation ws P at k p R is h f
      go (of_conj v gs) h f = differs k 13 10 e (f.kind ∙ conj_kind v gs) (omega arith)
      go (of_disj v gs) h f = differs k 13 11 e (f.kind ∙ disj_kind v gs) (omega arith)
      go (of_call v n ts) h f = differs k 13 12 e (f.kind ∙ call_kind v n ts) (omega arith)
      go (of_plain v g l z) h f = absurd (omega (arith, f.kind, l, e))

  pub move_nested : (i : Item) → Rest ws P at (i ∷ is) → 10 ≤ k → k ≤ 11 → Moves ws P at (i ∷ is) (ends (at + 1))
  unfolding item_inner goal_fault goal_words GoalGood
  move_nested i h a b = go (shape i) h (first ws P at k p i is h s)
    where
      go : {i : Item} → Shape i → Rest ws P at (i ∷ is) → First ws P at k p i is → Moves ws P at (i ∷ is) (ends (at + 1))
      go (of_relation R) h f = absurd (omega (arith, f.kind, relation_kind R))
      go (of_conj v gs) h f = enter_goals ws P at p v gs is h.whole h.good.0.1 h.good.0.0 f.size f.inner f.rest _ refl
      go (of_disj v gs) h f = enter_goals ws P at p v gs is h.whole h.good.0.1 h.good.0.0 f.size f.inner f.rest _ refl
      go (of_call v n ts) h f = absurd (omega (arith, f.kind, call_kind v n ts))
      go (of_plain v g l z) h f = absurd (omega (arith, f.kind, l))

  pub move_plain : (i : Item) → Rest ws P at (i ∷ is) → (k ≡ 13 → ⊥) → (k ≡ 12 → ⊥) → (k ≡ 10 → ⊥) → (k ≡ 11 → ⊥) → Moves ws P at (i ∷ is) (ends (at + 1 + p))
  move_plain i h n₁₃ n₁₂ n₁₀ n₁₁ = go (shape i) (first ws P at k p i is h s)
    where
      go : {i : Item} → Shape i → First ws P at k p i is → Moves ws P at (i ∷ is) (ends (at + 1 + p))
      go (of_relation R) f = absurd (n₁₃ (f.kind ∙ relation_kind R))
      go (of_conj v gs) f = absurd (n₁₀ (f.kind ∙ conj_kind v gs))
      go (of_disj v gs) f = absurd (n₁₁ (f.kind ∙ disj_kind v gs))
      go (of_call v n ts) f = absurd (n₁₂ (f.kind ∙ call_kind v n ts))
      go (of_plain v g l z) f = pass_item ws P at k p (goal v g) is f (z P at)

  pub is_call : (i : Item) → Rest ws P at (i ∷ is) → k ≡ 12 → (vars : ℕ) × (n : ℕ) × (ts : List Term) × (i ≡ goal vars (call n ts))
  is_call i h e = go (shape i) (first ws P at k p i is h s)
    where
      go : {i : Item} → Shape i → First ws P at k p i is → (vars : ℕ) × (n : ℕ) × (ts : List Term) × (i ≡ goal vars (call n ts))
      go (of_relation R) f = differs k 12 13 e (f.kind ∙ relation_kind R) (omega arith)
      go (of_conj v gs) f = differs k 12 10 e (f.kind ∙ conj_kind v gs) (omega arith)
      go (of_disj v gs) f = differs k 12 11 e (f.kind ∙ disj_kind v gs) (omega arith)
      go (of_call v n ts) f = (v, n, ts, refl)
      go (of_plain v g l z) f = absurd (omega (arith, f.kind, l, e))

  -- a call: where its number and its arguments stand, and what it comes to
  module _ (vars n : ℕ) (ts : List Term) (h : Rest ws P at (goal vars (call n ts) ∷ is)) where
    called : First ws P at k p (goal vars (call n ts)) is
    called = first ws P at k p (goal vars (call n ts)) is h s

    pub call_inside : at + 1 < length ws
    unfolding item_inner
    call_inside = omega (arith, called.rest.to, called.size)

    pub call_wanted : (q m : ℕ) → PartAt ws (at + 1) q m → m ≡ n
    unfolding item_inner Spells GoalGood
    call_wanted q m t = part_size ws (at + 1) q m 2 n t called.inner.0 h.good.0.0.0

    pub call_terms : GoodTermsAt ws (at + 2) (at + 1 + p) ts
    unfolding item_inner Spells GoalGood
    call_terms = record {
      vars = vars;
      few = h.good.0.1;
      good = h.good.0.0.1;
      stands = stands_at ws (at + 1 + 1) (at + 2) (terms_words ts) (omega arith) called.inner.1;
      to = omega (arith, called.size);
      within = omega (arith, called.rest.to);
      short = h.whole.short;
    }

    -- what was found of the relation that the call's number word names
    pub call_params : (q m : ℕ) → PartAt ws (at + 1) q m → (o : Option ℕ) → o ≡ params_of (get_elem? P m) → params_of (get_elem? P n) ≡ o
    call_params q m t o e = sym (e ∙ ap (λ m. params_of (get_elem? P m)) (call_wanted q m t))

    pub call_missing : params_of (get_elem? P n) ≡ None → Moves ws P at (goal vars (call n ts) ∷ is) (stops 7 at)
    unfolding goal_fault
    call_missing e = go (get_elem? P n) e
      where
        go : (o : maybe.Option Relation) → params_of o ≡ None → or_else (call_fault o (length ts) at) (items_fault is P (at + length (goal_words (call n ts)))) ≡ fault 7 at
        go maybe.none e = refl
        go (maybe.some R) e = cc

    pub call_wrong : (c : ℕ) → params_of (get_elem? P n) ≡ Some c → (length ts ≡ c → ⊥) → Moves ws P at (goal vars (call n ts) ∷ is) (stops 8 at)
    unfolding goal_fault
    call_wrong c e d = go (get_elem? P n) e
      where
        go : (o : maybe.Option Relation) → params_of o ≡ Some c → or_else (call_fault o (length ts) at) (items_fault is P (at + length (goal_words (call n ts)))) ≡ fault 8 at
        go maybe.none e = cc
        go (maybe.some R) e = let z : R.params ≡ c = cc in simp (ne_eqb (length ts) R.params (λ y. d (y ∙ z)))

    pub call_right : (c : ℕ) → params_of (get_elem? P n) ≡ Some c → length ts ≡ c → Moves ws P at (goal vars (call n ts) ∷ is) (ends (at + 1 + p))
    unfolding goal_fault
    call_right c e d = pass_item ws P at k p (goal vars (call n ts)) is called (go (get_elem? P n) e)
      where
        go : (o : maybe.Option Relation) → params_of o ≡ Some c → call_fault o (length ts) at ≡ sound
        go maybe.none e = cc
        go (maybe.some R) e = let z : R.params ≡ c = cc in simp (eq-eqb (length ts) R.params (d ∙ sym z))

-- the items that a program starts with, and whether any are left
relation_items : List Relation → List Item
relation_items [] = []
relation_items (R ∷ Rs) = relation R ∷ relation_items Rs

relation_items_words : (Rs : List Relation) → items_words (relation_items Rs) ≡ written Rs
unfolding relation_items written
relation_items_words [] = refl
relation_items_words (R ∷ Rs) = ap (λ ws. relation_words R ++ ws) (relation_items_words Rs)

relation_items_good : (Rs : List Relation) → RelationsGood Rs → ItemsGood (relation_items Rs)
unfolding relation_items RelationsGood
relation_items_good [] g = tt
relation_items_good (R ∷ Rs) g = (g.0, relation_items_good Rs g.1)

relation_items_fault : (Rs : List Relation) (P : Program) (at : ℕ) → relations_fault Rs P at ≡ items_fault (relation_items Rs) P at
unfolding relation_items relations_fault
relation_items_fault [] P at = refl
relation_items_fault (R ∷ Rs) P at = ap (λ f. or_else (goal_fault R.body P (at + 3)) f) (relation_items_fault Rs P (at + length (relation_words R)))

pub start_items : (ws : List ℕ) (P : Program) → RelationsAt ws 0 P → (is : List Item) × Rest ws P 0 is × (relations_fault P P 0 ≡ items_fault is P 0)
start_items ws P h =
    let v : items_words (relation_items P) ≡ written P = relation_items_words P in
    (relation_items P, record { whole = h; stands = rw v h.stands; to = rw v h.to; good = relation_items_good P h.good }, relation_items_fault P P 0)

item_some : (i : Item) → 0 < length (item_words i)
item_some i = omega (arith, ap length (item_is i))

pub items_some : (ws : List ℕ) (P : Program) (at : ℕ) (is : List Item) → Rest ws P at is → at < length ws → (i : Item) × (js : List Item) × (is ≡ i ∷ js)
items_some ws P at [] h l = absurd (omega (arith, h.to))
items_some ws P at (i ∷ js) h l = (i, js, refl)

pub items_none : (ws : List ℕ) (P : Program) (at : ℕ) (is : List Item) → Rest ws P at is → length ws ≤ at → items_fault is P at ≡ sound
items_none ws P at [] h l = refl
items_none ws P at (i ∷ js) h l = absurd (omega (arith, h.to, item_some i, length-append (item_words i) (items_words js)))

-- on the way from relation to relation: relation `wanted` of the program is relation `left` of what is left
abbrev pub Seeking : List ℕ → Program → ℕ → ℕ → ℕ → Type 0
Seeking ws P wanted at left = (Rs : List Relation) × RelationsAt ws at Rs × (get_elem? P wanted ≡ get_elem? Rs left)

-- the relation at a place that is not the end
relation_there : (ws : List ℕ) (at k p : ℕ) (Rs : List Relation) → RelationsAt ws at Rs → at < length ws → PartAt ws at k p → (R : Relation) × (Qs : List Relation) × (Rs ≡ R ∷ Qs) × Ahead ws at k p R Qs
unfolding written
relation_there ws at k p [] h l s = absurd (omega (arith, h.to))
relation_there ws at k p (R ∷ Qs) h l s = (R, Qs, refl, relations_split ws at k p R Qs h s)

pub relation_inside : (ws : List ℕ) (at : ℕ) (Rs : List Relation) → RelationsAt ws at Rs → at < length ws → at + 1 < length ws
relation_inside ws at Rs h l = (relation_there ws at _ _ Rs h l (record { is_kind = refl; is_size = refl })).3.params_there

pub seek_here : (ws : List ℕ) (P : Program) (wanted at left q m : ℕ) → Seeking ws P wanted at left → at < length ws → left ≡ 0 → PartAt ws (at + 1) q m → Some m ≡ params_of (get_elem? P wanted)
seek_here ws P wanted at left q m h l z s =
    let r = relation_there ws at _ _ h.0 h.1 l (record { is_kind = refl; is_size = refl }) in
    let e : get_elem? P wanted ≡ maybe.some r.0 = h.2 ∙ ap (λ Rs. get_elem? Rs left) r.2 ∙ ap (get_elem? (r.0 ∷ r.1)) z in
    ap Some (params_read ws at _ _ q m r.0 r.1 r.3 s) ∙ sym (ap params_of e)

pub seek_on : (ws : List ℕ) (P : Program) (wanted at left k p : ℕ) → Seeking ws P wanted at (suc left) → at < length ws → PartAt ws at k p → Seeking ws P wanted (at + 1 + p) left
seek_on ws P wanted at left k p h l s =
    let r = relation_there ws at k p h.0 h.1 l s in
    (r.1, r.3.rest, h.2 ∙ ap (λ Rs. get_elem? Rs (suc left)) r.2)

pub seek_none : (ws : List ℕ) (P : Program) (wanted at left : ℕ) → Seeking ws P wanted at left → length ws ≤ at → None ≡ params_of (get_elem? P wanted)
seek_none ws P wanted at left h l =
    let e : get_elem? P wanted ≡ maybe.none = h.2 ∙ ap (λ Rs. get_elem? Rs left) (relations_none ws at h.0 h.1 l) ∙ lookup_none left in
    sym (ap params_of e)

-- the first of terms that are left, and the rest of them
pub term_first : (ws : List ℕ) (at end : ℕ) (us : List Term) → GoodTermsAt ws at end us → at < end → (t : Term) × GoodTermAt ws at t
term_first ws at end us h l =
    let q = terms_some ws at end us h l in
    (q.0, (terms_split ws at end q.0 q.1 (rw q.2 at h)).term)

pub term_rest : (ws : List ℕ) (at end n : ℕ) (us : List Term) → GoodTermsAt ws at end us → at < end → ((t : Term) → GoodTermAt ws at t → n ≡ at + length (term_words t))
    → (vs : List Term) × GoodTermsAt ws n end vs × (length us ≡ length vs + 1) × (at < n)
term_rest ws at end n us h l f =
    let q = terms_some ws at end us h l in
    let d = terms_split ws at end q.0 q.1 (rw q.2 at h) in
    let e : n ≡ at + length (term_words q.0) = f q.0 d.term in
    let z : length us ≡ suc (length q.1) = ap length q.2 in
    (q.1, rw e d.rest, omega arith, omega (arith, term_some q.0))

-- the first of items that are left
pub item_inside : (ws : List ℕ) (P : Program) (at : ℕ) (i : Item) (is : List Item) → Rest ws P at (i ∷ is) → at < length ws
item_inside ws P at i is h = omega (arith, h.to, item_some i, length-append (item_words i) (items_words is))

pub next_item : (ws : List ℕ) (P : Program) (at : ℕ) (f : Fault) → (is : List Item) × Rest ws P at is × (f ≡ items_fault is P at) → at < length ws
    → (i : Item) × (js : List Item) × Rest ws P at (i ∷ js) × (f ≡ items_fault (i ∷ js) P at)
next_item ws P at f h l =
    let r = items_some ws P at h.0 h.1 l in
    (r.0, r.1, rw r.2 at h.1, h.2 ∙ ap (λ is. items_fault is P at) r.2)
