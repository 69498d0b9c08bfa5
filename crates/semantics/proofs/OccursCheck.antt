-- Document 02, Note 10: the occurs check that enters each bound variable at most one time, beside the one before it.
use Prim.Native.Nat.{◌*◌, ◌+◌, ◌<◌, ◌≤◌, suc, zero, ℕ}
use mathlib.Core.Bool.{Bool, ◌||◌, false, not, or_assoc, or-false, true}
use mathlib.Core.List.{List, [], ◌++◌, ◌∷◌}
use mathlib.Core.Logic.{◌⊎◌, inl, inr, ⊎_elim}
use mathlib.Core.Option.{Option, none, some}
use mathlib.Core.Path.{◌∙◌, ◌≡◌, ap, fun_ext, refl, subst, sym}
use native.Mathlib.Nat.{mul-suc}
use native.Mathlib.Omega.{arith}
use lib.Dec.{eqb}
use lib.ListN.{length, length-append}
use borrow.Author.Tests.{eq-eqb, lt-ltb}
use Rattle.rules.specs.Lists.{Each}
use Rattle.rules.specs.Reading.{choose}
use Rattle.rules.specs.Syntax.{Term, atom, empty, pair, var}
use Rattle.rules.specs.Written.{term_words}
use Rattle.semantics.specs.Earlier.{occurs_check_before_10, parts_before_10}
use Rattle.semantics.specs.Invariant.{Good}
use Rattle.semantics.specs.Published.{passes}
use Rattle.semantics.specs.Steps.{Outcome, done, most, no_steps, stop, waiting}
use Rattle.semantics.specs.Substitution.{Substitution, lookup, resolve, walk}
use Rattle.semantics.specs.Unify.{Node, enter, is_var, member, node_at, occurs_check, passed, scan, scan_next, scan_parts, was_entered, way_end}
use Rattle.semantics.proofs.Basics.{clash, compared, none_of, other, same}
use Rattle.semantics.proofs.OccursLaws.{Below, NodeView, OccursStep, goes_down, goes_further, is_entered, is_full, is_hit, is_last, is_leaf, is_new, is_sought, node_below, node_view, occurs_alone, occurs_step, way_pair}
use Rattle.semantics.proofs.Plain.{Scanned, finds, goes_on, scanned}
use Rattle.semantics.proofs.ScanLaws.{Leaf, ScanStep, down, full, further, hit, is_var_heads, last, passes_resolved, scan_step}
use Rattle.semantics.proofs.SubstitutionLaws.{Seen, followed_follow, lift, lookup_other, lookup_same, resolve_lookup, resolve_walk, size, size_pair, walk_seen}
use Rattle.semantics.proofs.TermLaws.{inside, term_size}

-- How many nodes a check looks at

-- a term has as many nodes as words
abbrev nodes : Term → ℕ
nodes t = length (term_words t)

nodes_pair : (s t : Term) → nodes (pair s t) ≡ suc (nodes s + nodes t)
unfolding term_words
nodes_pair s t = ap suc (length-append (term_words s) (term_words t))

some_nodes : (t : Term) → 0 < nodes t
unfolding term_words
some_nodes (var x) = omega arith
some_nodes (atom a) = omega arith
some_nodes (pair s t) = omega arith

abbrev all_nodes : List Term → ℕ
all_nodes [] = 0
all_nodes (t ∷ ts) = nodes t + all_nodes ts

-- the nodes of the values that were not entered
abbrev unentered : List ℕ → Substitution → ℕ
unentered es [] = 0
unentered es (b ∷ bs) = lift (not (member b.0 es)) (nodes b.1) + unentered es bs

lift_fewer : (c d : Bool) (n : ℕ) → lift (not (c || d)) n ≤ lift (not d) n
lift_fewer true true n = omega arith
lift_fewer true false n = omega arith
lift_fewer false true n = omega arith
lift_fewer false false n = omega arith

unentered_fewer : (z : ℕ) (es : List ℕ) (bs : Substitution) → unentered (z ∷ es) bs ≤ unentered es bs
unentered_fewer z es [] = omega arith
unentered_fewer z es (b ∷ bs) = let h = lift_fewer (eqb b.0 z) (member b.0 es) (nodes b.1) in let i = unentered_fewer z es bs in omega arith

-- to enter a variable takes its value's nodes away
unentered_less : (z : ℕ) (es : List ℕ) (bs : Substitution) (t : Term) → lookup bs z ≡ some t → member z es ≡ false → unentered (z ∷ es) bs + nodes t ≤ unentered es bs
unentered_less z es [] t e n = clash (cc)
unentered_less z es (b ∷ bs) t e n = elim (compared b.0 z) [
  | same p q ↦
      let r : b.1 ≡ t = cc (lookup_same b.0 b.1 bs z q) in let m : member b.0 es ≡ false = rw p n in let h = unentered_fewer z es bs in
      rw (q, m, sym r) (omega arith)
  | other d q ↦
      let h = unentered_less z es bs t (sym (lookup_other b.0 b.1 bs z q) ∙ e) n in let i = lift_fewer (eqb b.0 z) (member b.0 es) (nodes b.1) in
      omega arith
]

-- the steps left
abbrev pub steps_left : {A : Type 0} → Outcome A → ℕ
steps_left (done a l) = l
steps_left (stop why l) = l

module _ (x : ℕ) (bs : Substitution) where
  abbrev Looks : ℕ → Type 0
  Looks left = (es : List ℕ) (ws : List Term) (t : Term) → left ≤ steps_left (occurs_check x bs es ws t left) + (nodes t + all_nodes ws + unentered es bs)

  looks : (left : ℕ) → Looks left
  looks zero es ws t = omega arith
  looks (suc left) es ws t = go (occurs_step x bs es ws t left) (looks left)
    where
      Fewer : ℕ → Type 0
      Fewer l = suc left ≤ l + (nodes t + all_nodes ws + unentered es bs)

      -- into a pair of the term itself, or of a bound variable's value
      into : (a b : Term) → walk bs t ≡ pair a b → (o : Option ℕ) → way_end bs t ≡ o → was_entered o es ≡ false →
          nodes a + (nodes b + all_nodes ws) + unentered (enter o es) bs < nodes t + all_nodes ws + unentered es bs
      into a b e (some z) w n = let h = unentered_less z es bs (pair a b) (way_pair bs t z a b w e) n in let k = nodes_pair a b in let i = some_nodes t in omega arith
      into a b e none w n = itself t e w
        where
          itself : (u : Term) → walk bs u ≡ pair a b → way_end bs u ≡ none → nodes a + (nodes b + all_nodes ws) + unentered es bs < nodes u + all_nodes ws + unentered es bs
          itself (var y) q v = clash (cc)
          itself (atom c) q v = clash (cc (followed_follow (length bs) bs (atom c) tt))
          itself (pair c d) q v = let k = nodes_pair c d in let r : pair c d ≡ pair a b = sym (followed_follow (length bs) bs (pair c d) tt) ∙ q in let p : c ≡ a = cc in let s : d ≡ b = cc in rw (sym p, sym s) (omega arith)

      below_less : (ds : List ℕ) (a b : Term) → Below x bs es t ds a b → nodes a + (nodes b + all_nodes ws) + unentered ds bs < nodes t + all_nodes ws + unentered es bs
      below_less ds a b k = rw (sym k.entered) (into a b k.is_pair (way_end bs t) refl k.is_first)

      go : OccursStep x bs es ws t left (occurs_check x bs es ws t (suc left)) → Looks left → Fewer (steps_left (occurs_check x bs es ws t (suc left)))
      go (is_hit q r) ih = let i = some_nodes t in rw r (omega arith)
      go (is_full ds a b q o r) ih = rw r (omega arith)
      go (goes_down ds a b q o r) ih = let h = ih ds (b ∷ ws) a in let i = below_less ds a b (node_below x bs es t ds a b q) in rw r (omega arith)
      go (is_last q n r) ih = let i = some_nodes t in rw r (omega arith)
      go (goes_further v vs q n r) ih = let h = ih es vs v in let i = some_nodes t in rw (r, n) (omega arith)

-- "Then one check looks at no more than T times (v + 1) nodes", where no term that is bound, nor the one that is checked, has more than T words; v are the bindings
pub check_looks : (x : ℕ) (bs : Substitution) (T : ℕ) → Each (λ (b : ℕ × Term). length (term_words b.1) ≤ T) bs → (t : Term) → length (term_words t) ≤ T → (left : ℕ) → left ≤ steps_left (occurs_check x bs [] [] t left) + T * (length bs + 1)
check_looks x bs T short t h left = let k = looks x bs left [] [] t in let i = values bs short in let m : T * (length bs + 1) ≡ T * length bs + T = ap (λ n. T * n) (omega arith) ∙ mul-suc T (length bs) in omega arith
  where
    values : (bs : Substitution) → Each (λ (b : ℕ × Term). length (term_words b.1) ≤ T) bs → unentered [] bs ≤ T * length bs
    values [] s = omega arith
    values (b ∷ bs) s = let i = values bs s.1 in let m : T * suc (length bs) ≡ T * length bs + T = mul-suc T (length bs) in omega (arith, s.0)

-- The check before Note 10

-- in the room of document 01 it is the traversal that absento reviews and the writer have
pub before_scan : (x : ℕ) (bs : Substitution) (left : ℕ) (ws : List Term) (t : Term) → occurs_check_before_10 (most waiting) x bs ws t left ≡ scan (is_var x) bs ws t left
before_scan x bs zero ws t = refl
before_scan x bs (suc left) ws t =
    ap (λ (go : List Term → Term → Outcome Bool). choose (is_var x (walk bs t)) (λ _. done true left) (λ _. parts_before_10 (most waiting) (walk bs t) ws left go)) (fun_ext (λ vs. fun_ext (λ v. before_scan x bs left vs v)))
    ∙ ap (λ (o : Outcome Bool). choose (is_var x (walk bs t)) (λ _. done true left) (λ _. o)) (same_parts (walk bs t) (λ vs v. scan (is_var x) bs vs v left))
  where
    same_parts : (f : Term) (go : List Term → Term → Outcome Bool) → parts_before_10 (most waiting) f ws left go ≡ scan_parts f ws left go
    same_parts (var y) go = refl
    same_parts (atom a) go = refl
    same_parts (pair a b) go = refl

-- What a check says that came to an end

module _ (x : ℕ) (bs : Substitution) (good : Good bs) where
  -- is x in the resolved term, or in one of several?
  abbrev within : Term → Bool
  within t = inside x (resolve bs t)

  abbrev within_some : List Term → Bool
  within_some [] = false
  within_some (t ∷ ts) = within t || within_some ts

  within_leaf : (t : Term) → is_var x (walk bs t) ≡ false → Leaf (walk bs t) → within t ≡ false
  within_leaf t e l = go (walk bs t) refl
    where
      go : (f : Term) → walk bs t ≡ f → within t ≡ false
      go (var y) q = ap (inside x) (subst (Seen bs (resolve bs t)) q (walk_seen bs good t)).1 ∙ ap (is_var x) (sym q) ∙ e
      go (atom a) q = ap (inside x) (subst (Seen bs (resolve bs t)) q (walk_seen bs good t))
      go (pair a b) q = absurd (subst Leaf q l)

  within_pair : (t a b : Term) → walk bs t ≡ pair a b → within t ≡ (within a || within b)
  within_pair t a b q = ap (inside x) (subst (Seen bs (resolve bs t)) q (walk_seen bs good t))

  -- a resolved term with so many pairs has twice as many nodes and one more
  abbrev pub all_of : Term → ℕ
  all_of t = suc (size bs t + size bs t)

  -- with steps and room enough it goes through all of the term, or up to x
  record Goes (room : ℕ) (ws : List Term) (t : Term) (left : ℕ) : Type 0 where
    comes_to : within t ≡ true → (l : ℕ) × (occurs_check_before_10 room x bs ws t left ≡ done true l)
    goes_by : within t ≡ false → (m : ℕ) × (m + all_of t ≡ left) × (occurs_check_before_10 room x bs ws t left ≡ scan_next ws m (λ vs v. occurs_check_before_10 room x bs vs v m))

  before_goes : (room n : ℕ) (t : Term) → size bs t < n → (ws : List Term) (left : ℕ) → length ws + size bs t ≤ room → all_of t ≤ left → Goes room ws t left
  before_goes room zero t s ws left r h = absurd (omega arith)
  before_goes room (suc n) t s ws zero r h = absurd (omega arith)
  before_goes room (suc n) t s ws (suc left) r h = go (walk bs t) refl (before_goes room n)
    where
      old : List Term → Term → ℕ → Outcome Bool
      old vs v l = occurs_check_before_10 room x bs vs v l

      open_var : (y : ℕ) → walk bs t ≡ var y → within t ≡ eqb x y → size bs t ≡ 0 → (c : Bool) → eqb x y ≡ c → Goes room ws t (suc left)
      open_var y e w z true i = record { comes_to = λ _. (left, rw (e, i)); goes_by = λ q. clash (cc) }
      open_var y e w z false i = record { comes_to = λ q. clash (cc); goes_by = λ _. (left, omega arith, rw (e, i)) }

      second : (a b : Term) (m : ℕ) → within t ≡ within b → old ws t (suc left) ≡ old ws b m → m + all_of a ≡ left → size bs t ≡ suc (size bs a + size bs b) → Goes room ws b m → Goes room ws t (suc left)
      second a b m w e f z g = record {
        comes_to = λ q. let k = g.comes_to (sym w ∙ q) in (k.0, e ∙ k.1);
        goes_by = λ q. let k = g.goes_by (sym w ∙ q) in (k.0, omega (arith, k.1), e ∙ k.2);
      }

      first : (a b : Term) → within t ≡ (within a || within b) → old ws t (suc left) ≡ old (b ∷ ws) a left → size bs t ≡ suc (size bs a + size bs b) → Goes room (b ∷ ws) a left →
          ((m : ℕ) → all_of b ≤ m → Goes room ws b m) → (c : Bool) → within a ≡ c → Goes room ws t (suc left)
      first a b w e z g ih true i = record { comes_to = λ q. let k = g.comes_to i in (k.0, e ∙ k.1); goes_by = λ q. let p = (none_of (within a) (within b) (sym w ∙ q)).0 in clash (cc) }
      first a b w e z g ih false i = let k = g.goes_by i in second a b k.0 (w ∙ ap (λ c. c || within b) i) (e ∙ k.2) k.1 z (ih k.0 (omega (arith, k.1)))

      go : (f : Term) → walk bs t ≡ f → ((t : Term) → size bs t < n → (ws : List Term) (left : ℕ) → length ws + size bs t ≤ room → all_of t ≤ left → Goes room ws t left) → Goes room ws t (suc left)
      go (var y) e ih = let r = (subst (Seen bs (resolve bs t)) e (walk_seen bs good t)).1 in open_var y e (ap (inside x) r) (ap term_size r) (eqb x y) refl
      go (atom a) e ih = let r = subst (Seen bs (resolve bs t)) e (walk_seen bs good t) in let z : size bs t ≡ 0 = ap term_size r in
          record { comes_to = λ q. let w = ap (inside x) r in clash (cc); goes_by = λ _. (left, omega arith, rw e) }
      go (pair a b) e ih =
          let z = size_pair bs good t a b e in
          let d : old ws t (suc left) ≡ old (b ∷ ws) a left = rw (e, lt-ltb (length ws) room (omega arith)) in
          first a b (within_pair t a b e) d z (ih a (omega arith) (b ∷ ws) left (omega arith) (omega arith)) (λ m i. ih b (omega arith) ws m (omega arith) i) (within a) refl

  -- "Success and failure are as before": a check that comes to an end finds the variable exactly when the old one, given steps and room enough, does
  pub check_as_before : (t : Term) (left : ℕ) (b : Bool) (l : ℕ) → occurs_check x bs [] [] t left ≡ done b l →
      (room steps : ℕ) → size bs t ≤ room → all_of t ≤ steps → (m : ℕ) × (occurs_check_before_10 room x bs [] t steps ≡ done b m)
  check_as_before t left b l e room steps r h = go b (occurs_alone x bs good t left b l e) (before_goes room (suc (size bs t)) t (omega arith) [] steps (omega arith) h)
    where
      go : (b : Bool) → b ≡ within t → Goes room [] t steps → (m : ℕ) × (occurs_check_before_10 room x bs [] t steps ≡ done b m)
      go true q g = g.comes_to (sym q)
      go false q g = let k = g.goes_by (sym q) in (k.0, k.2)

  -- What the old check ended by bound 5 or by steps may go on now, and never the other way round

  -- x is below a variable that was entered: then what is looked at now, or the first of those that wait, are the rest of its value, and x is in them
  record Inside (z : ℕ) (ws : List Term) (t : Term) : Type 0 where
    parts : List Term
    later : List Term
    waits : ws ≡ parts ++ later
    smaller : size bs t < size bs (var z)
    parts_smaller : Each (λ u. size bs u < size bs (var z)) parts
    has : (within t || within_some parts) ≡ true

  abbrev Knows : List ℕ → List Term → Term → Type 0
  Knows es ws t = (z : ℕ) → member z es ≡ true → (within (var z) ≡ false) ⊎ Inside z ws t

  -- a node without x is left behind
  knows_next : (es : List ℕ) (v : Term) (vs : List Term) (t : Term) → within t ≡ false → Knows es (v ∷ vs) t → Knows es vs v
  knows_next es v vs t w h z m = ⊎_elim inl (λ i. inr (go i i.parts refl)) (h z m)
    where
      go : (i : Inside z (v ∷ vs) t) (ps : List Term) → i.parts ≡ ps → Inside z vs v
      go i [] e = let k : (within t || within_some []) ≡ true = rw e at i.has in clash (cc)
      go i (p ∷ ps) e =
          let q : v ∷ vs ≡ p ∷ (ps ++ i.later) = i.waits ∙ ap (λ us. us ++ i.later) e in let f : v ≡ p = cc in
          let s : Each (λ u. size bs u < size bs (var z)) (p ∷ ps) = subst (Each (λ u. size bs u < size bs (var z))) e i.parts_smaller in
          let k : (within t || (within p || within_some ps)) ≡ true = subst (λ us. (within t || within_some us) ≡ true) e i.has in
          record { parts = ps; later = i.later; waits = cc; smaller = rw f s.0; parts_smaller = s.1; has = rw (f) (rw w at k) }

  -- a way that ends in a pair leads to as much as its last variable
  way_resolves : (t : Term) (z : ℕ) (a b : Term) → way_end bs t ≡ some z → walk bs t ≡ pair a b → resolve bs t ≡ resolve bs (var z)
  way_resolves t z a b w e = sym (resolve_walk bs good t) ∙ ap (resolve bs) e ∙ sym (resolve_lookup bs good z (pair a b) (way_pair bs t z a b w e))

  -- into a pair
  knows_below : (es : List ℕ) (ws : List Term) (t a b : Term) → walk bs t ≡ pair a b → Knows es ws t → Knows (enter (way_end bs t) es) (b ∷ ws) a
  knows_below es ws t a b e h = go (way_end bs t) refl
    where
      part : (z : ℕ) → Inside z ws t → Inside z (b ∷ ws) a
      part z i =
          let s = size_pair bs good t a b e in let w = within_pair t a b e in
          record {
            parts = b ∷ i.parts;
            later = i.later;
            waits = ap (λ us. b ∷ us) i.waits;
            smaller = omega (arith, i.smaller);
            parts_smaller = (omega (arith, i.smaller), i.parts_smaller);
            has = sym (or_assoc (within a) (within b) (within_some i.parts)) ∙ ap (λ c. c || within_some i.parts) (sym w) ∙ i.has;
          }

      older : Knows es (b ∷ ws) a
      older z m = ⊎_elim inl (λ i. inr (part z i)) (h z m)

      newest : (z : ℕ) → way_end bs t ≡ some z → (c : Bool) → within (var z) ≡ c → (within (var z) ≡ false) ⊎ Inside z (b ∷ ws) a
      newest z w false q = inl q
      newest z w true q =
          let r = way_resolves t z a b w e in let s = size_pair bs good t a b e in let k : size bs t ≡ size bs (var z) = ap term_size r in
          inr (record {
            parts = b ∷ [];
            later = ws;
            waits = refl;
            smaller = omega arith;
            parts_smaller = (omega arith, tt);
            has = ap (λ c. within a || c) (or-false (within b)) ∙ sym (within_pair t a b e) ∙ ap (inside x) r ∙ q;
          })

      go : (o : Option ℕ) → way_end bs t ≡ o → Knows (enter o es) (b ∷ ws) a
      go none w = older
      go (some y) w = λ z m. elim (compared z y) [
        | same p c ↦ subst (λ v. (within (var v) ≡ false) ⊎ Inside v (b ∷ ws) a) (sym p) (newest y w (within (var y)) refl)
        | other n c ↦ older z (rw c at m)
      ]

  -- a variable that is come to again is without x
  again_without : (es : List ℕ) (ws : List Term) (t : Term) (z : ℕ) (a b : Term) → way_end bs t ≡ some z → walk bs t ≡ pair a b → member z es ≡ true → Knows es ws t → within t ≡ false
  again_without es ws t z a b w e m h =
      let r = way_resolves t z a b w e in let k : size bs t ≡ size bs (var z) = ap term_size r in
      ⊎_elim (λ f. ap (inside x) r ∙ f) (λ i. absurd (omega (arith, i.smaller))) (h z m)

  abbrev NoWorse : ℕ → Type 0
  NoWorse bound = (left : ℕ) → left < bound → (es : List ℕ) (ws : List Term) (t : Term) (b : Bool) (l m : ℕ) → left ≤ m → Knows es ws t → scan (is_var x) bs ws t left ≡ done b l → (l' : ℕ) × (l ≤ l') × (occurs_check x bs es ws t m ≡ done b l')

  no_worse : (bound : ℕ) → NoWorse bound
  no_worse zero left i es ws t b l m h k e = absurd (omega arith)
  no_worse (suc bound) zero i es ws t b l m h k e = clash (cc)
  no_worse (suc bound) (suc left) i es ws t b l zero h k e = absurd (omega arith)
  no_worse (suc bound) (suc left) i es ws t b l (suc m) h k e = go (node_at x bs es t) refl (node_view x bs es t) (scan_step (is_var x) bs ws t left) (no_worse bound)
    where
      Goal : Type 0
      Goal = (l' : ℕ) × (l ≤ l') × (occurs_check x bs es ws t (suc m) ≡ done b l')

      -- one node, and on to the next that waits
      past : (us : List Term) → ws ≡ us → node_at x bs es t ≡ passed → within t ≡ false → (j : ℕ) → j < suc left → scan_next us j (λ vs v. scan (is_var x) bs vs v j) ≡ done b l → NoWorse bound → Goal
      past [] n q w j f d ih = let y : ◌≡◌ {A = Outcome Bool} (done false j) (done b l) = d in let z : j ≡ l = cc in let c : false ≡ b = cc in (m, omega arith, rw (q, n, sym c) refl)
      past (v ∷ vs) n q w j f d ih = let r = ih j (omega arith) es vs v b l m (omega arith) (knows_next es v vs t w (subst (λ us. Knows es us t) n k)) d in
          let s : occurs_check x bs es ws t (suc m) ≡ occurs_check x bs es vs v m = rw (q, n) in (r.0, r.1, s ∙ r.2)

      -- the old check went through a value that is not entered again
      skipped : (z : ℕ) (a c : Term) → way_end bs t ≡ some z → walk bs t ≡ pair a c → member z es ≡ true → node_at x bs es t ≡ passed → Scanned (is_var x) bs ws (suc left) b l (passes (suc left + suc (size bs t)) (is_var x) bs t) → NoWorse bound → Goal
      skipped z a c w f n q (finds p v j) ih =
          let y = again_without es ws t z a c w f n k in let p' = passes_resolved (is_var x) (is_var_heads x) bs good (suc left + suc (size bs t)) t (omega arith) in clash (cc)
      skipped z a c w f n q (goes_on p j j< d) ih = past ws refl q (again_without es ws t z a c w f n k) j j< d ih

      go : (n : Node) → node_at x bs es t ≡ n → NodeView x bs es t n → ScanStep (is_var x) bs ws t left (scan (is_var x) bs ws t (suc left)) → NoWorse bound → Goal
      go n q (is_sought f) st ih =
          let y : scan (is_var x) bs ws t (suc left) ≡ done true left = rw (f, eq-eqb x x refl) in let z : ◌≡◌ {A = Outcome Bool} (done true left) (done b l) = sym y ∙ e in let c : true ≡ b = cc in let j : left ≡ l = cc in
          (m, omega arith, rw (q, sym c) refl)
      go n q (is_leaf f g) (hit p r) ih = clash (cc)
      go n q (is_leaf f g) (full a c p w o r) ih = clash (cc)
      go n q (is_leaf f g) (down a c p w o r) ih = absurd (subst Leaf w g)
      go n q (is_leaf f g) (last p w o r) ih = past [] o q (within_leaf t f g) left (omega arith) (sym r ∙ e) ih
      go n q (is_leaf f g) (further v vs p w o r) ih = past (v ∷ vs) o q (within_leaf t f g) left (omega arith) (sym r ∙ e) ih
      go n q (is_entered z a c w f g) st ih = skipped z a c w f g q (scanned (is_var x) bs (suc (suc left)) (suc left) (omega arith) (suc left + suc (size bs t)) (omega arith) ws t b l e) ih
      go n q (is_new a c f g) (hit p r) ih = let y : is_var x (pair a c) ≡ true = rw f at p in clash (cc)
      go n q (is_new a c f g) (full a' c' p w o r) ih = clash (cc)
      go n q (is_new a c f g) (last p w o r) ih = absurd (subst Leaf f w)
      go n q (is_new a c f g) (further v vs p w o r) ih = absurd (subst Leaf f w)
      go n q (is_new a c f g) (down a' c' p w o r) ih =
          let y : pair a' c' ≡ pair a c = sym w ∙ f in let s : a' ≡ a = cc in let u : c' ≡ c = cc in
          let d = ih left (omega arith) (enter (way_end bs t) es) (c ∷ ws) a b l m (omega arith) (knows_below es ws t a c f k) (rw (s, u) at (sym r ∙ e)) in
          let v : occurs_check x bs es ws t (suc m) ≡ occurs_check x bs (enter (way_end bs t) es) (c ∷ ws) a m = rw (q, o) in (d.0, d.1, v ∙ d.2)

  -- where the old check comes to an end, this one does: with the same find, and no fewer steps left
  pub check_goes_on : (t : Term) (left : ℕ) (b : Bool) (l : ℕ) → occurs_check_before_10 (most waiting) x bs [] t left ≡ done b l → (l' : ℕ) × (l ≤ l') × (occurs_check x bs [] [] t left ≡ done b l')
  check_goes_on t left b l e = no_worse (suc left) left (omega arith) [] [] t b l left (omega arith) (λ z m. clash (cc)) (sym (before_scan x bs left [] t) ∙ e)

-- and it does go on: two nodes fewer for a value that is come to twice
abbrev pub shared : Substitution
shared = (0, pair (atom empty) (atom empty)) ∷ []

pub goes_on_now : (occurs_check_before_10 (most waiting) 1 shared [] (pair (var 0) (var 0)) 5 ≡ stop no_steps 0) × (occurs_check 1 shared [] [] (pair (var 0) (var 0)) 5 ≡ done false 0)
goes_on_now = (refl, refl)
