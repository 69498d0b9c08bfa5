-- A measure of the code that goes into followed terms, from the lists alone: the size of the resolved term. It is counted with fuel, of which there is enough as the bindings are acyclic.
use Prim.Native.Nat.{ℕ, zero, suc, ◌+◌, ◌-◌, ◌≤◌, ◌<◌}
use mathlib.Core.Path.{◌≡◌, refl, ap, ap₂, subst, ◌∙◌}
use mathlib.Core.Option.{Option, none, some}
use mathlib.Core.List.{List, [], ◌∷◌}
use native.Mathlib.Omega.{arith}
use lib.Dec.{eqb}
use lib.ListN.{length, set, length-set}
use borrow.Author.Tests.{eq-eqb, ne_eqb}
use Rattle.rules.specs.Reading.{choose, kind_at}
use Rattle.rules.specs.Syntax.{Term, var, atom, pair}
use Rattle.rules.specs.Lists.{Each}
use Rattle.semantics.specs.Substitution.{Substitution, lookup, resolve}
use Rattle.semantics.specs.Invariant.{Without, Open, Good}
use Rattle.semantics.proofs.Basics.{compared, same, other}
use Rattle.semantics.proofs.SubstitutionLaws.{lookup_same, lookup_other, resolve_atom, resolve_pair, resolve_open, resolve_lookup, size}
use Rattle.semantics.proofs.TermLaws.{term_size}
use Rattle.engine.specs.Layout.{positions}
use Rattle.engine.specs.Reference.{at, pos_of, beyond, Stands}
use Rattle.engine.specs.Memory.{BoundTo, Entry, BindingsIn}
use Rattle.engine.specs.Walk.{Follows, Resolves}
use Rattle.engine.proofs.ReferenceLaws.{atom_low, parts, stands_short}
use Rattle.engine.proofs.TrailLaws.{fresh_few, unbind_in}
use Rattle.engine.proofs.WalkLaws.{var_of}

-- going into t through the bindings ends within n levels
abbrev fine_hop : Option Term → (Term → Type 0) → Type 0
fine_hop none go = Unit {0}
fine_hop (some u) go = go u

abbrev Fine : ℕ → Substitution → Term → Type 0
Fine zero bs t = ⊥
Fine (suc n) bs (var x) = fine_hop (lookup bs x) (λ u. Fine n bs u)
Fine (suc n) bs (atom a) = Unit {0}
Fine (suc n) bs (pair a b) = Fine n bs a × Fine n bs b

fine_more : (n : ℕ) (bs : Substitution) (t : Term) → Fine n bs t → Fine (suc n) bs t
fine_more zero bs t h = absurd h
fine_more (suc n) bs (var x) h = go (lookup bs x) (fine_more n bs) h
  where
    go : (o : Option Term) → ((u : Term) → Fine n bs u → Fine (suc n) bs u) → fine_hop o (λ u. Fine n bs u) → fine_hop o (λ u. Fine (suc n) bs u)
    go none ih h = tt
    go (some u) ih h = ih u h
fine_more (suc n) bs (atom a) h = tt
fine_more (suc n) bs (pair a b) h = (fine_more n bs a h.0, fine_more n bs b h.1)

fine_plus : (d n : ℕ) (bs : Substitution) (t : Term) → Fine n bs t → Fine (d + n) bs t
fine_plus zero n bs t h = let e : 0 + n ≡ n = omega arith in rw e h
fine_plus (suc d) n bs t h = let e : suc d + n ≡ suc (d + n) = omega arith in rw e (fine_more (d + n) bs t (fine_plus d n bs t h))

fine_le : (n m : ℕ) (bs : Substitution) (t : Term) → n ≤ m → Fine n bs t → Fine m bs t
fine_le n m bs t le h = let e : m - n + n ≡ m = omega arith in rw e at (fine_plus (m - n) n bs t h)

-- with no bindings
fine_start : (t : Term) → Fine (suc (term_size t)) [] t
fine_start (var x) = tt
fine_start (atom a) = tt
fine_start (pair a b) = (fine_le (suc (term_size a)) (suc (term_size a + term_size b)) [] a (omega arith) (fine_start a), fine_le (suc (term_size b)) (suc (term_size a + term_size b)) [] b (omega arith) (fine_start b))

module _ (bs : Substitution) (good : Good bs) (x : ℕ) (u : Term) (is_open : Open bs x) where
  -- a new binding of a variable that is not met changes nothing
  fine_without : (n : ℕ) (t : Term) → Without x (resolve bs t) → Fine n bs t → Fine n ((x, u) ∷ bs) t
  fine_without zero t w h = h
  fine_without (suc n) (atom a) w h = tt
  fine_without (suc n) (pair a b) w h =
      let v = rw (resolve_pair bs a b) at w in
      (fine_without n a v.0 h.0, fine_without n b v.1 h.1)
  fine_without (suc n) (var y) w h = elim (compared x y) [
    | same p e ↦ absurd ((rw (resolve_open bs x is_open) at (rw (← p) at w)) refl)
    | other m e ↦ rw (lookup_other x u bs y e) (go (lookup bs y) refl h (fine_without n))
  ]
    where
      go : (o : Option Term) → lookup bs y ≡ o → fine_hop o (λ v. Fine n bs v) → ((t : Term) → Without x (resolve bs t) → Fine n bs t → Fine n ((x, u) ∷ bs) t) → fine_hop o (λ v. Fine n ((x, u) ∷ bs) v)
      go none q i ih = tt
      go (some v) q i ih = ih v (subst (Without x) (resolve_lookup bs good y v q) w) i

  -- and where it is met, its own term is gone into
  fine_cons : (k : ℕ) → Fine k ((x, u) ∷ bs) u → (n : ℕ) (t : Term) → Fine n bs t → Fine (n + k) ((x, u) ∷ bs) t
  fine_cons k f zero t h = absurd h
  fine_cons k f (suc n) t h = let e : suc n + k ≡ suc (n + k) = omega arith in rw e (go t h (fine_cons k f n))
    where
      hops : (o : Option Term) → ((t : Term) → Fine n bs t → Fine (n + k) ((x, u) ∷ bs) t) → fine_hop o (λ v. Fine n bs v) → fine_hop o (λ v. Fine (n + k) ((x, u) ∷ bs) v)
      hops none ih i = tt
      hops (some v) ih i = ih v i

      go : (t : Term) → Fine (suc n) bs t → ((t : Term) → Fine n bs t → Fine (n + k) ((x, u) ∷ bs) t) → Fine (suc (n + k)) ((x, u) ∷ bs) t
      go (atom a) i ih = tt
      go (pair a b) i ih = (ih a i.0, ih b i.1)
      go (var y) i ih = elim (compared x y) [
        | same p e ↦ rw (lookup_same x u bs y e) (fine_plus n k ((x, u) ∷ bs) u f)
        | other m e ↦ rw (lookup_other x u bs y e) (hops (lookup bs y) ih i)
      ]

-- so many levels are enough with n bindings: it is never computed
unfoldable pub levels : ℕ → ℕ
levels zero = 16384
levels (suc n) = levels n + levels n

levels_more : (d n : ℕ) → levels n ≤ levels (d + n)
unfolding levels
levels_more zero n = let e : 0 + n ≡ n = omega arith in rw e (omega arith)
levels_more (suc d) n = let e : suc d + n ≡ suc (d + n) = omega arith in rw e (omega (arith, levels_more d n))

abbrev Short : Term → Type 0
Short t = term_size t < positions

fine_all : (bs : Substitution) → Good bs → Each (λ (b : ℕ × Term). Short b.1) bs → (t : Term) → Short t → Fine (levels (length bs)) bs t
unfolding levels
fine_all [] g es t lt = fine_le (suc (term_size t)) 16384 [] t (omega arith) (fine_start t)
fine_all (b ∷ bs) g es t lt =
    let k : ℕ = levels (length bs) in
    let f : Fine k bs b.1 = fine_all bs g.0 es.1 b.1 es.0 in
    let o : Open bs b.0 = g.1.opens in
    fine_cons bs g.0 b.0 b.1 o k (fine_without bs g.0 b.0 b.1 o k b.1 g.1.acyclic f) k t (fine_all bs g.0 es.1 t lt)

shorts : (ws s : List ℕ) (bs : Substitution) → 4096 ≤ length s → BindingsIn ws s bs → Each (λ (b : ℕ × Term). Short b.1) bs
shorts ws s [] long h = tt
shorts ws s (b ∷ bs) long h =
    let i : BoundTo ws (at s b.0) b.1 = subst (Entry ws (at s b.0)) (lookup_same b.0 b.1 bs b.0 (eq-eqb b.0 b.0 refl)) (h.words b.0 h.fresh.0) in
    (stands_short i.stands, shorts ws (set s b.0 0) bs (rw length-set long) (unbind_in ws s b bs long h))

-- the size of the resolved term, read off the words
unfoldable pub pair_count : ℕ → List ℕ → List ℕ → ℕ → ℕ
pair_count zero ws s w = 0
pair_count (suc n) ws s w = choose (eqb (kind_at ws (pos_of w)) 0)
    (λ _. choose (eqb (at s (var_of ws w)) 0) (λ _. 0) (λ _. pair_count n ws s (at s (var_of ws w) - 1)))
    (λ _. choose (eqb (kind_at ws (pos_of w)) 4) (λ _. suc (pair_count n ws s (w + 1) + pair_count n ws s (beyond ws w))) (λ _. 0))

nodes_size : (ws s : List ℕ) (bs : Substitution) → Good bs → BindingsIn ws s bs → (n w : ℕ) (t : Term) → Fine n bs t → Stands ws w t → pair_count n ws s w ≡ size bs t
unfolding pair_count
nodes_size ws s bs g b zero w t f h = absurd f
nodes_size ws s bs g b (suc n) w (atom a) f h =
    let l = atom_low (at ws (pos_of w)) a h.reads.0 in
    rw (ne_eqb (kind_at ws (pos_of w)) 0 (omega (arith, l.0)), ne_eqb (kind_at ws (pos_of w)) 4 (omega (arith, l.1)), resolve_atom bs a)
nodes_size ws s bs g b (suc n) w (pair a c) f h =
    let p = parts ws w a c h in
    let k : kind_at ws (pos_of w) ≡ 4 = p.is_pair in
    rw (ne_eqb (kind_at ws (pos_of w)) 0 (omega arith), eq-eqb (kind_at ws (pos_of w)) 4 k, resolve_pair bs a c)
    (ap suc (ap₂ ◌+◌ (nodes_size ws s bs g b n (w + 1) a f.0 p.first) (nodes_size ws s bs g b n (beyond ws w) c f.1 p.second)))
nodes_size ws s bs g b (suc n) w (var x) f h = go (lookup bs x) refl (b.words x h.in_range) f (nodes_size ws s bs g b n)
  where
    k : kind_at ws (pos_of w) ≡ 0
    k = h.reads.0

    e : var_of ws w ≡ x
    e = h.reads.1

    go : (o : Option Term) → lookup bs x ≡ o → Entry ws (at s x) (lookup bs x) → fine_hop o (λ u. Fine n bs u) → ((w : ℕ) (t : Term) → Fine n bs t → Stands ws w t → pair_count n ws s w ≡ size bs t) → pair_count (suc n) ws s w ≡ size bs (var x)
    go none q i f ih =
        let z : at s x ≡ 0 = subst (Entry ws (at s x)) q i in
        rw (eq-eqb (kind_at ws (pos_of w)) 0 k, e, eq-eqb (at s x) 0 z, resolve_open bs x q)
    go (some u) q i f ih =
        let y : BoundTo ws (at s x) u = subst (Entry ws (at s x)) q i in
        rw (eq-eqb (kind_at ws (pos_of w)) 0 k, e, ne_eqb (at s x) 0 (omega (arith, y.some_word)), resolve_lookup bs g x u q) (ih (at s x - 1) u f y.stands)

-- the measure
abbrev pub followed_size : List ℕ → List ℕ → ℕ → ℕ
followed_size ws s w = pair_count (levels 2048) ws s w

pub reach_size : {ws s : List ℕ} {bs : Substitution} {w : ℕ} {t : Term} → Follows ws s bs w t → followed_size ws s w ≡ size bs t
reach_size {ws} {s} {bs} {w} {t} f = nodes_size ws s bs f.binds.good f.binds.bindings_in (levels 2048) w t (enough 2048 (fresh_few bs f.binds.bindings_in.fresh)) f.stands
  where
    enough : (m : ℕ) → length bs ≤ m → Fine (levels m) bs t
    enough m le =
        let d : m - length bs + length bs ≡ m = omega arith in
        let l : levels (length bs) ≤ levels m = rw d at (levels_more (m - length bs) (length bs)) in
        fine_le (levels (length bs)) (levels m) bs t l (fine_all bs f.binds.good (shorts ws s bs (omega (arith, f.binds.long)) f.binds.bindings_in) t (stands_short f.stands))

pub resolves_size : {ws s : List ℕ} {w : ℕ} {t : Term} → Resolves ws s w t → followed_size ws s w ≡ term_size t
resolves_size h = reach_size h.follows ∙ ap term_size h.is

-- the parts of a pair are smaller when followed, also in a scratch that has changed since, as long as it binds the same
module _ {ws s s' : List ℕ} {w v : ℕ} {a b : Term} (h : Resolves ws s w (pair a b)) where
  pub first_reach : Resolves ws s' v a → followed_size ws s' v < followed_size ws s w
  first_reach i = omega (arith, resolves_size h, resolves_size i)

  pub second_reach : Resolves ws s' v b → followed_size ws s' v < followed_size ws s w
  second_reach i = omega (arith, resolves_size h, resolves_size i)
