-- Substitution: what they say, when they are in order, how `walk` and `resolve` walk-for them.
use Prim.Native.Nat.{◌+◌, ◌<◌, ◌≤◌, suc, zero, ℕ}
use mathlib.Core.Bool.{Bool, false, true}
use mathlib.Core.List.{[], ◌∷◌}
use mathlib.Core.Option.{Option, none, some}
use mathlib.Core.Path.{◌∙◌, ◌≡◌, ap, ap₂, fun_ext, refl, subst, subst₂, sym}
use native.Mathlib.Omega.{arith}
use lib.Dec.{eqb, ltb}
use lib.ListN.{length}
use borrow.Author.Tests.{eq-eqb, le-ltb, lt-ltb, ltb-true, ne_eqb}
use Rattle.rules.specs.Syntax.{Atom, Term, atom, pair, var}
use Rattle.semantics.specs.Invariant.{Fits, Good, In, Open, Sat, TermIn, Throughout, Vars, Without}
use Rattle.semantics.specs.Logic.{Assignment, node, value}
use Rattle.semantics.specs.Substitution.{Substitution, hop_variable, last_variable, lookup, resolve, walk, walk_for}
use Rattle.semantics.specs.Unify.{is_var}
use Rattle.semantics.proofs.Basics.{clash, compared, each_map, other, same}
use Rattle.semantics.proofs.TermLaws.{Agree, replace, replace_in, replace_other, replace_same, replace_without, term_more, value_local, value_replace, vars_both, vars_map, vars_replace, term_size}

-- a term that following does not change
abbrev pub Followed : Substitution → Term → Type 0
Followed bs (var x) = Open bs x
Followed bs (atom a) = Unit {0}
Followed bs (pair s t) = Unit {0}

-- looking up
pub lookup_same : (y : ℕ) (u : Term) (bs : Substitution) (x : ℕ) → eqb y x ≡ true → lookup ((y, u) ∷ bs) x ≡ some u
lookup_same y u bs x e = rw e

pub lookup_other : (y : ℕ) (u : Term) (bs : Substitution) (x : ℕ) → eqb y x ≡ false → lookup ((y, u) ∷ bs) x ≡ lookup bs x
lookup_other y u bs x e = rw e

pub open_cons : (y : ℕ) (u : Term) (bs : Substitution) (x : ℕ) → ¬ (y ≡ x) → Open bs x → Open ((y, u) ∷ bs) x
open_cons y u bs x n o = elim (compared y x) [ same p e ↦ absurd (n p) | other m e ↦ lookup_other y u bs x e ∙ o ]

pub each_lookup : (P : ℕ → Term → Type 0) (bs : Substitution) → Throughout P bs → (x : ℕ) (t : Term) → lookup bs x ≡ some t → P x t
each_lookup P [] h x t e = clash (cc)
each_lookup P (b ∷ bs) h x t e = elim (compared b.0 x) [
  | same p q ↦ let r : b.1 ≡ t = cc (lookup_same b.0 b.1 bs x q) in subst₂ P p r h.0
  | other n q ↦ each_lookup P bs h.1 x t (sym (lookup_other b.0 b.1 bs x q) ∙ e)
]

-- resolving, part by part
pub resolve_atom : (bs : Substitution) (a : Atom) → resolve bs (atom a) ≡ atom a
resolve_atom [] a = refl
resolve_atom (b ∷ bs) a = rw (resolve_atom bs a)

pub resolve_pair : (bs : Substitution) (s t : Term) → resolve bs (pair s t) ≡ pair (resolve bs s) (resolve bs t)
resolve_pair [] s t = refl
resolve_pair (b ∷ bs) s t = rw (resolve_pair bs s t)

pub open_tail : (y : ℕ) (u : Term) (bs : Substitution) (x : ℕ) → Open ((y, u) ∷ bs) x → (eqb y x ≡ false) × Open bs x
open_tail y u bs x o = elim (compared y x) [
  | same p e ↦ clash (cc (lookup_same y u bs x e))
  | other n e ↦ (e, sym (lookup_other y u bs x e) ∙ o)
]

pub resolve_open : (bs : Substitution) (x : ℕ) → Open bs x → resolve bs (var x) ≡ var x
resolve_open [] x o = refl
resolve_open (b ∷ bs) x o = let h = open_tail b.0 b.1 bs x o in rw (resolve_open bs x h.1) (replace_other b.0 (resolve bs b.1) x h.0)

-- what is resolved has open variables only
pub resolve_opens : (bs : Substitution) → Good bs → (t : Term) → Vars (Open bs) (resolve bs t)
resolve_opens [] g t = opens_all t
  where
    opens_all : (t : Term) → Vars (Open []) t
    opens_all (var x) = refl
    opens_all (atom a) = tt
    opens_all (pair s t) = (opens_all s, opens_all t)
resolve_opens (b ∷ bs) g t =
    let x = b.0 in let u = b.1 in
    vars_replace x (resolve bs u) (resolve bs t) (open_cons x u bs)
    (vars_map (λ y h. open_cons x u bs y h.0 h.1) (resolve bs u) (vars_both (λ y. ¬ (x ≡ y)) (Open bs) (resolve bs u) g.1.acyclic (resolve_opens bs g.0 u)))
    (resolve_opens bs g.0 t)

pub resolve_opened : (bs : Substitution) (t : Term) → Vars (Open bs) t → resolve bs t ≡ t
resolve_opened bs (var x) h = resolve_open bs x h
resolve_opened bs (atom a) h = resolve_atom bs a
resolve_opened bs (pair s t) h = resolve_pair bs s t ∙ ap₂ pair (resolve_opened bs s h.0) (resolve_opened bs t h.1)

-- the newest binding
pub resolve_newest : (bs : Substitution) (x : ℕ) (u : Term) → Fits bs x u → resolve ((x, u) ∷ bs) (var x) ≡ resolve ((x, u) ∷ bs) u
resolve_newest bs x u f =
    ap (replace x (resolve bs u)) (resolve_open bs x f.opens) ∙ replace_same x (resolve bs u) x (eq-eqb x x refl)
    ∙ sym (replace_without x (resolve bs u) (resolve bs u) f.acyclic)

pub resolve_lookup : (bs : Substitution) → Good bs → (x : ℕ) (t : Term) → lookup bs x ≡ some t → resolve bs (var x) ≡ resolve bs t
resolve_lookup [] g x t e = clash (cc)
resolve_lookup (b ∷ bs) g x t e = elim (compared b.0 x) [
  | same p q ↦ subst (λ y. resolve (b ∷ bs) (var y) ≡ resolve (b ∷ bs) t) p (subst (λ v. resolve (b ∷ bs) (var b.0) ≡ resolve (b ∷ bs) v) (cc (lookup_same b.0 b.1 bs x q)) (resolve_newest bs b.0 b.1 g.1))
  | other n q ↦ ap (replace b.0 (resolve bs b.1)) (resolve_lookup bs g.0 x t (sym (lookup_other b.0 b.1 bs x q) ∙ e))
]

-- what holds across each binding holds of the term that is found
pub walk_for_open : (n : ℕ) (bs : Substitution) (x : ℕ) → Open bs x → walk_for n bs (var x) ≡ var x
walk_for_open zero bs x o = refl
walk_for_open (suc n) bs x o = rw o

pub walk_for_some : (n : ℕ) (bs : Substitution) (x : ℕ) (t : Term) → lookup bs x ≡ some t → walk_for (suc n) bs (var x) ≡ walk_for n bs t
walk_for_some n bs x t e = rw e

pub walk_for_keeps : (P : Term → Type 0) (n : ℕ) (bs : Substitution) → ((x : ℕ) (t : Term) → lookup bs x ≡ some t → P (var x) → P t) → (t : Term) → P t → P (walk_for n bs t)
walk_for_keeps P zero bs f t h = h
walk_for_keeps P (suc n) bs f (atom a) h = h
walk_for_keeps P (suc n) bs f (pair s t) h = h
walk_for_keeps P (suc n) bs f (var x) h = go (lookup bs x) refl (λ t. walk_for_keeps P n bs f t)
  where
    go : (o : Option Term) → lookup bs x ≡ o → ((t : Term) → P t → P (walk_for n bs t)) → P (walk_for (suc n) bs (var x))
    go none e ih = rw (walk_for_open (suc n) bs x e) h
    go (some t) e ih = rw (walk_for_some n bs x t e) (ih t (f x t e h))

-- what is found resolves alike
pub resolve_walk : (bs : Substitution) → Good bs → (t : Term) → resolve bs (walk bs t) ≡ resolve bs t
resolve_walk bs g t = walk_for_keeps (λ v. resolve bs v ≡ resolve bs t) (length bs) bs (λ x u e h. sym (resolve_lookup bs g x u e) ∙ h) t refl

-- under bindings that hold, what is found has the same value
pub value_walk : (α : Assignment) (bs : Substitution) → Sat α bs → (t : Term) → value α (walk bs t) ≡ value α t
value_walk α bs h t = walk_for_keeps (λ v. value α v ≡ value α t) (length bs) bs (λ x u e k. sym (each_lookup (λ x t. α x ≡ value α t) bs h x u e) ∙ k) t refl

pub value_resolve : (α : Assignment) (bs : Substitution) → Sat α bs → (t : Term) → value α (resolve bs t) ≡ value α t
value_resolve α [] h t = refl
value_resolve α (b ∷ bs) h t = value_replace α b.0 (resolve bs b.1) (resolve bs t) (h.0 ∙ sym (value_resolve α bs h.1 b.1)) ∙ value_resolve α bs h.1 t

-- each assignment of the open variables gives one that keeps to the bindings
abbrev pub complete : Assignment → Substitution → Assignment
complete β bs x = value β (resolve bs (var x))

pub value_complete : (β : Assignment) (bs : Substitution) (t : Term) → value (complete β bs) t ≡ value β (resolve bs t)
value_complete β bs (var x) = refl
value_complete β bs (atom a) = rw (resolve_atom bs a)
value_complete β bs (pair s t) = ap₂ node (value_complete β bs s) (value_complete β bs t) ∙ sym (ap (value β) (resolve_pair bs s t))

value_replaced : (β : Assignment) (x : ℕ) (u t : Term) → value (λ y. value β (replace x u (var y))) t ≡ value β (replace x u t)
value_replaced β x u (var y) = refl
value_replaced β x u (atom a) = refl
value_replaced β x u (pair s t) = ap₂ node (value_replaced β x u s) (value_replaced β x u t)

pub sat_complete : (β : Assignment) (bs : Substitution) → Good bs → Sat (complete β bs) bs
sat_complete β [] g = tt
sat_complete β (b ∷ bs) g = (
  ap (value β) (resolve_newest bs b.0 b.1 g.1) ∙ sym (value_complete β (b ∷ bs) b.1),
  subst (λ α. Sat α bs) (fun_ext (λ z. value_replaced β b.0 (resolve bs b.1) (resolve bs (var z))))
      (sat_complete (λ y. value β (replace b.0 (resolve bs b.1) (var y))) bs g.0),
)

pub complete_open : (β : Assignment) (bs : Substitution) (x : ℕ) → Open bs x → complete β bs x ≡ β x
complete_open β bs x o = ap (value β) (resolve_open bs x o)

-- A rank of the variables that falls along each binding to a variable: so no variable is met twice.
abbrev pub height : (ℕ → ℕ) → Term → ℕ
height ρ (var y) = suc (ρ y)
height ρ (atom a) = 0
height ρ (pair s t) = 0

abbrev pub lift : Bool → ℕ → ℕ
lift true n = n
lift false n = 0

abbrev pub rank : Substitution → ℕ → ℕ
rank [] y = 0
rank (b ∷ bs) y = rank bs y + lift (is_var b.0 (resolve bs (var y))) (height (rank bs) b.1)

rank_newest : (bs : Substitution) (x z : ℕ) → Fits bs x (var z) → rank ((x, var z) ∷ bs) z < rank ((x, var z) ∷ bs) x
rank_newest bs x z f =
    let p : is_var x (resolve bs (var x)) ≡ true = ap (is_var x) (resolve_open bs x f.opens) ∙ eq-eqb x x refl in
    let q : is_var x (resolve bs (var z)) ≡ false = not_that x (resolve bs (var z)) f.acyclic in
    rw (p, q) (omega arith)
  where
    not_that : (x : ℕ) (t : Term) → Without x t → is_var x t ≡ false
    not_that x (var y) h = ne_eqb x y h
    not_that x (atom a) h = refl
    not_that x (pair s t) h = refl

pub rank_falls : (bs : Substitution) → Good bs → (y z : ℕ) → lookup bs y ≡ some (var z) → rank bs z < rank bs y
rank_falls [] g y z e = clash (cc)
rank_falls (b ∷ bs) g y z e = elim (compared b.0 y) [
  | same p q ↦
      let r : b.1 ≡ var z = cc (lookup_same b.0 b.1 bs y q) in
      subst₂ (λ y u. rank ((b.0, u) ∷ bs) z < rank ((b.0, u) ∷ bs) y) p (sym r) (rank_newest bs b.0 z (subst (Fits bs b.0) r g.1))
  | other n q ↦
      let e' = sym (lookup_other b.0 b.1 bs y q) ∙ e in let h = rank_falls bs g.0 y z e' in
      rw (resolve_lookup bs g.0 y (var z) e') (omega arith)
]

abbrev one_if : Bool → ℕ
one_if true = 1
one_if false = 0

-- the bindings of variables that rank below k
abbrev count : (ℕ → ℕ) → ℕ → Substitution → ℕ
count ρ k [] = 0
count ρ k (b ∷ bs) = one_if (ltb (ρ b.0) k) + count ρ k bs

count_length : (ρ : ℕ → ℕ) (k : ℕ) (bs : Substitution) → count ρ k bs ≤ length bs
count_length ρ k [] = omega arith
count_length ρ k (b ∷ bs) = let h = count_length ρ k bs in let j = at_most (ltb (ρ b.0) k) in omega arith
  where
    at_most : (c : Bool) → one_if c ≤ 1
    at_most true = omega arith
    at_most false = omega arith

one_more : (a j k : ℕ) → j ≤ k → one_if (ltb a j) ≤ one_if (ltb a k)
one_more a j k h = go (ltb a j) refl
  where
    go : (c : Bool) → ltb a j ≡ c → one_if (ltb a j) ≤ one_if (ltb a k)
    go true e = rw (e, lt-ltb a k (omega (arith, ltb-true a j e))) (omega arith)
    go false e = rw e (omega arith)

count_more : (ρ : ℕ → ℕ) (j k : ℕ) → j ≤ k → (bs : Substitution) → count ρ j bs ≤ count ρ k bs
count_more ρ j k h [] = omega arith
count_more ρ j k h (b ∷ bs) = let i = one_more (ρ b.0) j k h in let m = count_more ρ j k h bs in omega arith

count_strict : (ρ : ℕ → ℕ) (bs : Substitution) (y : ℕ) (t : Term) → lookup bs y ≡ some t → count ρ (ρ y) bs < count ρ (suc (ρ y)) bs
count_strict ρ [] y t e = clash (cc)
count_strict ρ (b ∷ bs) y t e = elim (compared b.0 y) [
  | same p q ↦ let m = count_more ρ (ρ y) (suc (ρ y)) (omega arith) bs in rw (p, le-ltb (ρ y) (ρ y) (omega arith), lt-ltb (ρ y) (suc (ρ y)) (omega arith)) (omega arith)
  | other n q ↦ let i = one_more (ρ b.0) (ρ y) (suc (ρ y)) (omega arith) in let m = count_strict ρ bs y t (sym (lookup_other b.0 b.1 bs y q) ∙ e) in omega arith
]

pub followed_follow : (n : ℕ) (bs : Substitution) (t : Term) → Followed bs t → walk_for n bs t ≡ t
followed_follow n bs (var x) h = walk_for_open n bs x h
followed_follow zero bs (atom a) h = refl
followed_follow (suc n) bs (atom a) h = refl
followed_follow zero bs (pair s t) h = refl
followed_follow (suc n) bs (pair s t) h = refl

-- from y on, no more bindings are followed than there are of variables that rank up to y
arrives : (bs : Substitution) → Good bs → (k n y : ℕ) → rank bs y < k → count (rank bs) (suc (rank bs y)) bs ≤ n → Followed bs (walk_for n bs (var y))
arrives bs g zero n y h c = absurd (omega arith)
arrives bs g (suc k) n y h c = go (lookup bs y) refl n c (arrives bs g k)
  where
    go : (o : Option Term) → lookup bs y ≡ o → (n : ℕ) → count (rank bs) (suc (rank bs y)) bs ≤ n →
        ((n y : ℕ) → rank bs y < k → count (rank bs) (suc (rank bs y)) bs ≤ n → Followed bs (walk_for n bs (var y))) → Followed bs (walk_for n bs (var y))
    go none e n c ih = rw (walk_for_open n bs y e) e
    go (some t) e zero c ih = absurd (omega (arith, count_strict (rank bs) bs y t e))
    go (some (atom a)) e (suc n) c ih = rw (walk_for_some n bs y (atom a) e, followed_follow n bs (atom a) tt) tt
    go (some (pair a b)) e (suc n) c ih = rw (walk_for_some n bs y (pair a b) e, followed_follow n bs (pair a b) tt) tt
    go (some (var z)) e (suc n) c ih =
        let f = rank_falls bs g y z e in
        rw (walk_for_some n bs y (var z) e) (ih n z (omega arith) (omega (arith, count_strict (rank bs) bs y (var z) e, count_more (rank bs) (suc (rank bs z)) (rank bs y) f bs)))

-- `walk` arrives
pub walk_followed : (bs : Substitution) → Good bs → (t : Term) → Followed bs (walk bs t)
walk_followed bs g (var y) = arrives bs g (suc (rank bs y)) (length bs) y (omega arith) (count_length (rank bs) (suc (rank bs y)) bs)
walk_followed bs g (atom a) = rw (followed_follow (length bs) bs (atom a) tt) tt
walk_followed bs g (pair s t) = rw (followed_follow (length bs) bs (pair s t) tt) tt

pub walk_for_enough : (n : ℕ) (bs : Substitution) (t : Term) → Followed bs (walk_for n bs t) → walk_for (suc n) bs t ≡ walk_for n bs t
walk_for_enough zero bs t h = followed_follow 1 bs t h
walk_for_enough (suc n) bs (atom a) h = refl
walk_for_enough (suc n) bs (pair s t) h = refl
walk_for_enough (suc n) bs (var x) h = go (lookup bs x) refl (walk_for_enough n bs)
  where
    go : (o : Option Term) → lookup bs x ≡ o → ((t : Term) → Followed bs (walk_for n bs t) → walk_for (suc n) bs t ≡ walk_for n bs t) → walk_for (suc (suc n)) bs (var x) ≡ walk_for (suc n) bs (var x)
    go none e ih = walk_for_open (suc (suc n)) bs x e ∙ sym (walk_for_open (suc n) bs x e)
    go (some t) e ih = walk_for_some (suc n) bs x t e ∙ ih t (rw (walk_for_some n bs x t e) at h) ∙ sym (walk_for_some n bs x t e)

-- one step of a loop that follows: `rank` falls with it
pub walk_some : (bs : Substitution) → Good bs → (x : ℕ) (t : Term) → lookup bs x ≡ some t → walk bs (var x) ≡ walk bs t
walk_some [] g x t e = clash (cc)
walk_some (b ∷ bs) g x t e =
    walk_for_some (length bs) (b ∷ bs) x t e ∙ sym (walk_for_enough (length bs) (b ∷ bs) t (rw (walk_for_some (length bs) (b ∷ bs) x t e) at (walk_followed (b ∷ bs) g (var x))))

pub walk_open : (bs : Substitution) (x : ℕ) → Open bs x → walk bs (var x) ≡ var x
walk_open bs x o = walk_for_open (length bs) bs x o

-- the last variable on a way is bound to no variable
abbrev pub Last : Substitution → ℕ → Type 0
Last bs x = (y : ℕ) → ¬ (lookup bs x ≡ some (var y))

pub last_here : (n : ℕ) (bs : Substitution) (x : ℕ) → Last bs x → last_variable n bs x ≡ x
last_here zero bs x h = refl
last_here (suc n) bs x h = go (lookup bs x) refl
  where
    go : (o : Option Term) → lookup bs x ≡ o → hop_variable o x (λ y. last_variable n bs y) ≡ x
    go none e = refl
    go (some (var y)) e = absurd (h y e)
    go (some (atom a)) e = refl
    go (some (pair s t)) e = refl

last_on : (n : ℕ) (bs : Substitution) (x y : ℕ) → lookup bs x ≡ some (var y) → last_variable (suc n) bs x ≡ last_variable n bs y
last_on n bs x y e = rw e

lasts : (bs : Substitution) → Good bs → (k n y : ℕ) → rank bs y < k → count (rank bs) (suc (rank bs y)) bs ≤ n → Last bs (last_variable n bs y)
lasts bs g zero n y h c = absurd (omega arith)
lasts bs g (suc k) n y h c = go (lookup bs y) refl n c (lasts bs g k)
  where
    here : (n : ℕ) → Last bs y → Last bs (last_variable n bs y)
    here n l = rw (last_here n bs y l) l

    go : (o : Option Term) → lookup bs y ≡ o → (n : ℕ) → count (rank bs) (suc (rank bs y)) bs ≤ n →
        ((n y : ℕ) → rank bs y < k → count (rank bs) (suc (rank bs y)) bs ≤ n → Last bs (last_variable n bs y)) → Last bs (last_variable n bs y)
    go none e n c ih = here n (λ z q. clash (cc))
    go (some (atom a)) e n c ih = here n (λ z q. clash (cc))
    go (some (pair s t)) e n c ih = here n (λ z q. clash (cc))
    go (some (var z)) e zero c ih = absurd (omega (arith, count_strict (rank bs) bs y (var z) e))
    go (some (var z)) e (suc n) c ih =
        let f = rank_falls bs g y z e in
        rw (last_on n bs y z e) (ih n z (omega arith) (omega (arith, count_strict (rank bs) bs y (var z) e, count_more (rank bs) (suc (rank bs z)) (rank bs y) f bs)))

-- `last_variable` arrives there
pub last_arrives : (bs : Substitution) → Good bs → (x : ℕ) → Last bs (last_variable (length bs) bs x)
last_arrives bs g x = lasts bs g (suc (rank bs x)) (length bs) x (omega arith) (count_length (rank bs) (suc (rank bs x)) bs)

last_enough : (n : ℕ) (bs : Substitution) (x : ℕ) → Last bs (last_variable n bs x) → last_variable (suc n) bs x ≡ last_variable n bs x
last_enough zero bs x h = last_here 1 bs x h
last_enough (suc n) bs x h = go (lookup bs x) refl (last_enough n bs)
  where
    here : Last bs x → last_variable (suc (suc n)) bs x ≡ last_variable (suc n) bs x
    here l = last_here (suc (suc n)) bs x l ∙ sym (last_here (suc n) bs x l)

    go : (o : Option Term) → lookup bs x ≡ o → ((y : ℕ) → Last bs (last_variable n bs y) → last_variable (suc n) bs y ≡ last_variable n bs y) → last_variable (suc (suc n)) bs x ≡ last_variable (suc n) bs x
    go none e ih = here (λ z q. clash (cc))
    go (some (atom a)) e ih = here (λ z q. clash (cc))
    go (some (pair s t)) e ih = here (λ z q. clash (cc))
    go (some (var y)) e ih = last_on (suc n) bs x y e ∙ ih y (subst (Last bs) (last_on n bs x y e) h) ∙ sym (last_on n bs x y e)

-- one step on the way leads to the same last variable
pub last_some : (bs : Substitution) → Good bs → (x y : ℕ) → lookup bs x ≡ some (var y) → last_variable (length bs) bs x ≡ last_variable (length bs) bs y
last_some bs g x y e = sym (last_enough (length bs) bs x (last_arrives bs g x)) ∙ last_on (length bs) bs x y e

-- what the found term tells of the resolved one
abbrev pub Seen : Substitution → Term → Term → Type 0
Seen bs r (var x) = Open bs x × (r ≡ var x)
Seen bs r (atom a) = r ≡ atom a
Seen bs r (pair s t) = r ≡ pair (resolve bs s) (resolve bs t)

followed_seen : (bs : Substitution) (v : Term) → Followed bs v → Seen bs (resolve bs v) v
followed_seen bs (var x) h = (h, resolve_open bs x h)
followed_seen bs (atom a) h = resolve_atom bs a
followed_seen bs (pair s t) h = resolve_pair bs s t

pub walk_seen : (bs : Substitution) → Good bs → (t : Term) → Seen bs (resolve bs t) (walk bs t)
walk_seen bs g t = subst (λ r. Seen bs r (walk bs t)) (resolve_walk bs g t) (followed_seen bs (walk bs t) (walk_followed bs g t))

-- The size of a term with all bindings put in: a measure for code that goes into followed terms
abbrev pub size : Substitution → Term → ℕ
size bs t = term_size (resolve bs t)

pub size_walk : (bs : Substitution) → Good bs → (t : Term) → size bs (walk bs t) ≡ size bs t
size_walk bs g t = ap term_size (resolve_walk bs g t)

pub size_pair : (bs : Substitution) → Good bs → (t a b : Term) → walk bs t ≡ pair a b → size bs t ≡ suc (size bs a + size bs b)
size_pair bs g t a b e = ap term_size (subst (Seen bs (resolve bs t)) e (walk_seen bs g t))

pub size_parts : (bs : Substitution) → Good bs → (t a b : Term) → walk bs t ≡ pair a b → (size bs a < size bs t) × (size bs b < size bs t)
size_parts bs g t a b e = let h = size_pair bs g t a b e in omega arith

-- Bindings over the variables below top

pub in_more : (top high : ℕ) → top ≤ high → (bs : Substitution) → In top bs → In high bs
in_more top high k bs h = each_map (λ b i. (omega (arith, i.0), term_more top high b.1 k i.1)) bs h

pub walk_in : (top : ℕ) (bs : Substitution) → In top bs → (t : Term) → TermIn top t → TermIn top (walk bs t)
walk_in top bs i t h = walk_for_keeps (TermIn top) (length bs) bs (λ x u e k. (each_lookup (λ x t. (x < top) × TermIn top t) bs i x u e).1) t h

pub resolve_in : (top : ℕ) (bs : Substitution) → In top bs → (t : Term) → TermIn top t → TermIn top (resolve bs t)
resolve_in top [] i t h = h
resolve_in top (b ∷ bs) i t h = replace_in top b.0 (resolve bs b.1) (resolve bs t) (resolve_in top bs i.1 b.1 i.0.1) (resolve_in top bs i.1 t h)

pub in_open : (top : ℕ) (bs : Substitution) → In top bs → (x : ℕ) → top ≤ x → Open bs x
in_open top [] h x k = refl
in_open top (b ∷ bs) h x k = open_cons b.0 b.1 bs x (omega arith) (in_open top bs h.1 x k)

-- assignments that agree below top
pub sat_local : (top : ℕ) (α β : Assignment) (bs : Substitution) → Agree top α β → In top bs → Sat α bs → Sat β bs
sat_local top α β [] h i s = tt
sat_local top α β (b ∷ bs) h i s = (sym (h b.0 i.0.0) ∙ s.0 ∙ value_local top α β b.1 h i.0.1, sat_local top α β bs h i.1 s.1)
