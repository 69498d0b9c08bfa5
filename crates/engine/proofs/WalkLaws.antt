-- Following a reference through the bindings area arrives where `walk` does; how far it is, for the loop's measure.
use Prim.Native.Nat.{ℕ, zero, suc, ◌+◌, ◌-◌, ◌≤◌, ◌<◌}
use mathlib.Core.Path.{◌≡◌, refl, sym, ap, subst, ◌∙◌}
use mathlib.Core.Option.{Option, none, some}
use mathlib.Core.Bool.{true, false}
use mathlib.Core.List.{List}
use native.Mathlib.Omega.{arith}
use lib.Dec.{eqb}
use lib.ListN.{length}
use borrow.Author.Tests.{eq-eqb, ne_eqb}
use Rattle.word.specs.Word.{kind, payload}
use Rattle.rules.specs.Reading.{choose, kind_at}
use Rattle.rules.specs.Syntax.{Atom, symbol, number, empty, Term, var, atom, pair}
use Rattle.semantics.specs.Substitution.{Substitution, lookup, walk_for, walk}
use Rattle.semantics.specs.Unify.{way_end}
use Rattle.semantics.specs.Invariant.{Open, Good}
use Rattle.semantics.proofs.Basics.{clash}
use Rattle.semantics.proofs.SubstitutionLaws.{Followed, last_here, last_some, walk_for_open, walk_for_some, followed_follow, walk_for_enough, walk_followed, walk_some}
use Rattle.engine.specs.Layout.{most_variables}
use Rattle.engine.specs.Reference.{at, AtomIs, pos_of, base_of, Stands}
use Rattle.engine.specs.Memory.{BoundTo, Entry, BindingsIn}
use Rattle.engine.specs.Walk.{PartRead, Follows}
use Rattle.engine.proofs.TrailLaws.{fresh_few}

-- what a variable is bound to: its word, which is not 0, refers to it
pub record Binding (ws s : List ℕ) (bs : Substitution) (x : ℕ) : Type 0 where
  pub term : Term
  pub is : lookup bs x ≡ some term
  pub stands : Stands ws (at s x - 1) term

pub binding_at : {ws s : List ℕ} {bs : Substitution} (x : ℕ) → BindingsIn ws s bs → x < most_variables → ¬ (at s x ≡ 0) → Binding ws s bs x
binding_at {ws} {s} {bs} x h l n = go (lookup bs x) refl (h.words x l)
  where
    go : (o : Option Term) → lookup bs x ≡ o → Entry ws (at s x) (lookup bs x) → Binding ws s bs x
    go none q e = absurd (n (subst (Entry ws (at s x)) q e))
    go (some t) q e = record { term = t; is = q; stands = (subst (Entry ws (at s x)) q e).stands }

-- the variable that a reference to a variable's word stands for
abbrev pub var_of : List ℕ → ℕ → ℕ
var_of ws w = base_of w + payload (at ws (pos_of w))

-- what a loop that follows meets at a reference that stands for t
pub data Met (ws s : List ℕ) (bs : Substitution) (w : ℕ) (t : Term) : Type 0 where
  node : ¬ (kind_at ws (pos_of w) ≡ 0) → eqb (kind_at ws (pos_of w)) 0 ≡ false → Followed bs t → ((n : ℕ) → walk_for n bs t ≡ t) → Met ws s bs w t
  free : kind_at ws (pos_of w) ≡ 0 → eqb (kind_at ws (pos_of w)) 0 ≡ true → eqb (at s (var_of ws w)) 0 ≡ true → at s (var_of ws w) ≡ 0 → t ≡ var (var_of ws w) → Followed bs t → ((n : ℕ) → walk_for n bs t ≡ t) → Met ws s bs w t
  hop : (u : Term) → kind_at ws (pos_of w) ≡ 0 → eqb (kind_at ws (pos_of w)) 0 ≡ true → eqb (at s (var_of ws w)) 0 ≡ false → ¬ (at s (var_of ws w) ≡ 0) → t ≡ var (var_of ws w) → lookup bs (var_of ws w) ≡ some u → Stands ws (at s (var_of ws w) - 1) u
      → Met ws s bs w t

pub meet : (ws s : List ℕ) (bs : Substitution) (w : ℕ) (t : Term) → BindingsIn ws s bs → Stands ws w t → Met ws s bs w t
meet ws s bs w (atom a) b h =
    let n : ¬ (kind_at ws (pos_of w) ≡ 0) = λ e. atom_not (at ws (pos_of w)) a h.reads.0 e in
    node n (ne_eqb (kind_at ws (pos_of w)) 0 n) tt (λ n. followed_follow n bs (atom a) tt)
  where
    atom_not : (v : ℕ) (a : Atom) → AtomIs v a → kind v ≡ 0 → ⊥
    atom_not v (symbol p) i e = omega (arith, i.0)
    atom_not v (number p) i e = omega (arith, i.0)
    atom_not v empty i e = omega (arith, i.0)
meet ws s bs w (pair c d) b h =
    let n : ¬ (kind_at ws (pos_of w) ≡ 0) = λ e. omega (arith, h.reads.0) in
    node n (ne_eqb (kind_at ws (pos_of w)) 0 n) tt (λ n. followed_follow n bs (pair c d) tt)
meet ws s bs w (var x) b h = go (lookup bs x) refl (b.words x h.in_range)
  where
    k : kind_at ws (pos_of w) ≡ 0
    k = h.reads.0

    e : var_of ws w ≡ x
    e = h.reads.1

    kb : eqb (kind_at ws (pos_of w)) 0 ≡ true
    kb = eq-eqb (kind_at ws (pos_of w)) 0 k

    is_var : var x ≡ var (var_of ws w)
    is_var = ap var (sym e)

    go : (o : Option Term) → lookup bs x ≡ o → Entry ws (at s x) (lookup bs x) → Met ws s bs w (var x)
    go none q i =
        let z : at s (var_of ws w) ≡ 0 = rw e (subst (λ o. Entry ws (at s x) o) q i) in
        free k kb (eq-eqb (at s (var_of ws w)) 0 z) z is_var q (λ n. walk_for_open n bs x q)
    go (some u) q i =
        let y : BoundTo ws (at s x) u = subst (λ o. Entry ws (at s x) o) q i in
        let z : BoundTo ws (at s (var_of ws w)) u = rw e y in
        let nz : ¬ (at s (var_of ws w) ≡ 0) = λ f. omega (arith, z.some_word) in
        hop u k kb (ne_eqb (at s (var_of ws w)) 0 nz) nz is_var (rw e q) z.stands

-- how often the loop hops, with so many hops at most
unfoldable pub hops : ℕ → List ℕ → List ℕ → ℕ → ℕ
hops zero ws s w = 0
hops (suc n) ws s w = choose (eqb (kind_at ws (pos_of w)) 0) (λ _. choose (eqb (at s (var_of ws w)) 0) (λ _. 0) (λ _. suc (hops n ws s (at s (var_of ws w) - 1)))) (λ _. 0)

-- once arrived, more hops allowed change nothing
hops_enough : (n : ℕ) (ws s : List ℕ) (bs : Substitution) (w : ℕ) (t : Term) → BindingsIn ws s bs → Stands ws w t → Followed bs (walk_for n bs t) → hops (suc n) ws s w ≡ hops n ws s w
unfolding hops
hops_enough zero ws s bs w t b h f = go (meet ws s bs w t b h)
  where
    go : Met ws s bs w t → hops 1 ws s w ≡ 0
    go (node k kb g e) = rw (kb, hops) refl
    go (free k kb zb z v g e) = rw (kb, zb, hops) refl
    go (hop u k kb zb z v q st) = let o : Open bs (var_of ws w) = subst (λ r. Followed bs r) v f in clash (cc)
hops_enough (suc n) ws s bs w t b h f = go (meet ws s bs w t b h) (λ v u. hops_enough n ws s bs v u b)
  where
    go : Met ws s bs w t → ((v : ℕ) (u : Term) → Stands ws v u → Followed bs (walk_for n bs u) → hops (suc n) ws s v ≡ hops n ws s v) → hops (suc (suc n)) ws s w ≡ hops (suc n) ws s w
    go (node k kb g e) ih = rw (kb, hops) refl
    go (free k kb zb z v g e) ih = rw (kb, zb, hops) refl
    go (hop u k kb zb z v q st) ih =
        let g : Followed bs (walk_for n bs u) = subst (λ r. Followed bs r) (walk_for_some n bs (var_of ws w) u q) (subst (λ r. Followed bs (walk_for (suc n) bs r)) v f) in
        rw (kb, zb, hops) (ap suc (ih (at s (var_of ws w) - 1) u st g))

walk_for_more : (d n : ℕ) (bs : Substitution) (t : Term) → Followed bs (walk_for n bs t) → Followed bs (walk_for (d + n) bs t)
walk_for_more zero n bs t f = let e : 0 + n ≡ n = omega arith in rw e f
walk_for_more (suc d) n bs t f =
    let e : suc d + n ≡ suc (d + n) = omega arith in
    let g : Followed bs (walk_for (d + n) bs t) = walk_for_more d n bs t f in
    rw (e, walk_for_enough (d + n) bs t g) g

-- The measure of the loop, from the lists alone: it falls with each hop.
pub hops_fall : (n : ℕ) (ws s : List ℕ) (bs : Substitution) (w : ℕ) (t u : Term) → Good bs → BindingsIn ws s bs → Stands ws w t → t ≡ var (var_of ws w) → lookup bs (var_of ws w) ≡ some u → Stands ws (at s (var_of ws w) - 1) u
    → kind_at ws (pos_of w) ≡ 0 → ¬ (at s (var_of ws w) ≡ 0) → length bs ≤ suc n → hops (suc n) ws s (at s (var_of ws w) - 1) < hops (suc n) ws s w
unfolding hops
hops_fall n ws s bs w t u good b h v q st k z le =
    let y : ℕ = var_of ws w in
    let d : ℕ = suc n - length bs in
    let e : d + length bs ≡ suc n = omega arith in
    let f : Followed bs (walk_for (suc n) bs (var y)) = rw e at (walk_for_more d (length bs) bs (var y) (walk_followed bs good (var y))) in
    let g : Followed bs (walk_for n bs u) = subst (λ r. Followed bs r) (walk_for_some n bs y u q) f in
    let m : hops (suc n) ws s (at s y - 1) ≡ hops n ws s (at s y - 1) = hops_enough n ws s bs (at s y - 1) u b st g in
    let kb : eqb (kind_at ws (pos_of w)) 0 ≡ true = eq-eqb (kind_at ws (pos_of w)) 0 k in
    let zb : eqb (at s y) 0 ≡ false = ne_eqb (at s y) 0 z in
    let here : hops (suc n) ws s w ≡ suc (hops n ws s (at s y - 1)) = rw (kb, zb, hops) refl in
    omega arith

-- where the way leads on to a variable, that one's way is the rest of it; else x is its last variable
abbrev pub onward : Substitution → ℕ → Term → Option ℕ
onward bs x (var y) = way_end bs (var y)
onward bs x (atom a) = some x
onward bs x (pair a b) = some x

way_hop : (bs : Substitution) → Good bs → (x : ℕ) (t : Term) → lookup bs x ≡ some t → way_end bs (var x) ≡ onward bs x t
way_hop bs good x (var y) e = ap some (last_some bs good x y e)
way_hop bs good x (atom a) e = ap some (last_here (length bs) bs x (λ y q. clash (cc)))
way_hop bs good x (pair a b) e = ap some (last_here (length bs) bs x (λ y q. clash (cc)))

-- All that a loop needs of one reference
pub record Hopped (ws s : List ℕ) (bs : Substitution) (w : ℕ) (t : Term) : Type 0 where
  pub next : Term
  pub stands : Stands ws (at s (var_of ws w) - 1) next
  pub same_walk : walk bs t ≡ walk bs next
  pub same_way : way_end bs t ≡ onward bs (var_of ws w) next
  pub falls : hops 2048 ws s (at s (var_of ws w) - 1) < hops 2048 ws s w

pub hopped : (ws s : List ℕ) (bs : Substitution) (w : ℕ) (t : Term) → Good bs → BindingsIn ws s bs → Stands ws w t → kind_at ws (pos_of w) ≡ 0 → ¬ (at s (var_of ws w) ≡ 0) → Hopped ws s bs w t
hopped ws s bs w t good b h k z = go (meet ws s bs w t b h)
  where
    go : Met ws s bs w t → Hopped ws s bs w t
    go (node k' kb f e) = absurd (k' k)
    go (free k' kb zb z' v f e) = absurd (z z')
    go (hop u k' kb zb z' v q st) = record {
      next = u;
      stands = st;
      same_walk = subst (λ r. walk bs r ≡ walk bs u) (sym v) (walk_some bs good (var_of ws w) u q);
      same_way = ap (way_end bs) v ∙ way_hop bs good (var_of ws w) u q;
      falls = hops_fall 2047 ws s bs w t u good b h v q st k z (omega (arith, fresh_few bs b.fresh));
    }

-- The loop stops at a term that is found.
pub arrived_node : (ws s : List ℕ) (bs : Substitution) (w : ℕ) (t : Term) → BindingsIn ws s bs → Stands ws w t → ¬ (kind_at ws (pos_of w) ≡ 0) → walk bs t ≡ t
arrived_node ws s bs w t b h n = go (meet ws s bs w t b h)
  where
    go : Met ws s bs w t → walk bs t ≡ t
    go (node k kb f e) = e (length bs)
    go (free k kb zb z v f e) = absurd (n k)
    go (hop u k kb zb z v q st) = absurd (n k)

pub arrived_free : (ws s : List ℕ) (bs : Substitution) (w : ℕ) (t : Term) → BindingsIn ws s bs → Stands ws w t → kind_at ws (pos_of w) ≡ 0 → at s (var_of ws w) ≡ 0
    → (t ≡ var (var_of ws w)) × (lookup bs (var_of ws w) ≡ none) × (walk bs t ≡ t)
arrived_free ws s bs w t b h k z = go (meet ws s bs w t b h)
  where
    go : Met ws s bs w t → (t ≡ var (var_of ws w)) × (lookup bs (var_of ws w) ≡ none) × (walk bs t ≡ t)
    go (node k' kb f e) = absurd (k' k)
    go (free k' kb zb z' v f e) = (v, subst (λ r. Followed bs r) v f, e (length bs))
    go (hop u k' kb zb z' v q st) = absurd (z' z)

-- one hop of the loop, from the bound variable x
pub record Hop (ws s : List ℕ) (bs : Substitution) (w : ℕ) (t : Term) (x w' : ℕ) : Type 0 where
  pub next : Term
  pub follows : Follows ws s bs w' next
  pub same_walk : walk bs t ≡ walk bs next
  pub same_way : way_end bs t ≡ onward bs x next
  pub falls : hops 2048 ws s w' < hops 2048 ws s w

-- What the loop knows, in the shape of its tests

module _ {ws s : List ℕ} {bs : Substitution} {w : ℕ} {t : Term} {bits k p : ℕ} (f : Follows ws s bs w t) (here : PartRead ws w bits k p) where
  pub walk_still : ¬ (k ≡ 0) → walk bs t ≡ t
  walk_still n = arrived_node ws s bs w t f.binds.bindings_in f.stands (λ e. n (here.is_kind ∙ e))

  pub walk_node : ¬ (k ≡ 0) → Stands ws w (walk bs t)
  walk_node n = subst (Stands ws w) (sym (walk_still n)) f.stands

  pub walk_variable : k ≡ 0 → base_of w + p < 2048
  walk_variable e = go (meet ws s bs w t f.binds.bindings_in f.stands)
    where
      low : t ≡ var (var_of ws w) → base_of w + p < 2048
      low v = rw here.is_payload (subst (Stands ws w) v f.stands).in_range

      go : Met ws s bs w t → base_of w + p < 2048
      go (node n kb g h) = absurd (n (sym here.is_kind ∙ e))
      go (free k' kb zb z v g h) = low v
      go (hop u k' kb zb z v q st) = low v

  pub walk_free : {x : ℕ} → x ≡ base_of w + p → k ≡ 0 → at s x ≡ 0 → Stands ws w (walk bs t)
  walk_free i e z = subst (Stands ws w) (sym (arrived_free ws s bs w t f.binds.bindings_in f.stands (sym here.is_kind ∙ e) (subst (λ y. at s y ≡ 0) (i ∙ ap (λ y. base_of w + y) here.is_payload) z)).2) f.stands

  pub walk_hop : {x : ℕ} → x ≡ base_of w + p → k ≡ 0 → ¬ (at s x ≡ 0) → Hop ws s bs w t x (at s x - 1)
  walk_hop i e z =
      let h = hopped ws s bs w t f.binds.good f.binds.bindings_in f.stands (sym here.is_kind ∙ e) (subst (λ y. ¬ (at s y ≡ 0)) (i ∙ ap (λ y. base_of w + y) here.is_payload) z) in
      rw (i, here.is_payload) (record { next = h.next; follows = record { binds = f.binds; stands = h.stands }; same_walk = h.same_walk; same_way = h.same_way; falls = h.falls })
