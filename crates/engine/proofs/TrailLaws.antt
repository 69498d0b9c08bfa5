-- Binding a variable and taking bindings back.
use Prim.Native.Nat.{ℕ, zero, suc, ◌+◌, ◌-◌, ◌≤◌, ◌<◌}
use mathlib.Core.Path.{◌≡◌, refl, sym, ap, subst, ◌∙◌}
use mathlib.Core.Option.{Option, none, some}
use mathlib.Core.List.{List, [], ◌∷◌, ◌++◌}
use native.Mathlib.Omega.{arith}
use borrow.Author.Tests.{ne_eqb}
use lib.ListN.{length, set, length-set, length-append}
use lib.Seq.{get_or-set_same, get_or-set_other}
use Rattle.rules.specs.Syntax.{Term}
use Rattle.semantics.specs.Substitution.{Substitution, lookup}
use Rattle.semantics.proofs.Basics.{same, other, compared}
use Rattle.semantics.proofs.SubstitutionLaws.{lookup_same, lookup_other}
use Rattle.engine.specs.Reference.{at, Stands}
use Rattle.engine.specs.Memory.{trail_at, BoundTo, Entry, Fresh, BindingsIn, bound}
use Rattle.engine.specs.Trail.{Same, Trailed, Undone, Apart}
use Rattle.engine.proofs.FrameLaws.{trail_same}

-- Distinct variables below m are at most m: so the trail never runs over.
abbrev one_if : Option Term → ℕ
one_if none = 0
one_if (some t) = 1

abbrev taken : ℕ → Substitution → ℕ
taken zero bs = 0
taken (suc m) bs = one_if (lookup bs m) + taken m bs

one_if_le : (o : Option Term) → one_if o ≤ 1
one_if_le none = omega arith
one_if_le (some t) = omega arith

taken_le : (m : ℕ) (bs : Substitution) → taken m bs ≤ m
taken_le zero bs = omega arith
taken_le (suc m) bs = omega (arith, taken_le m bs, one_if_le (lookup bs m))

taken_above : (m : ℕ) (b : ℕ × Term) (bs : Substitution) → m ≤ b.0 → taken m (b ∷ bs) ≡ taken m bs
taken_above zero b bs h = refl
taken_above (suc m) b bs h =
    let e : lookup (b ∷ bs) m ≡ lookup bs m = lookup_other b.0 b.1 bs m (ne_eqb b.0 m (λ q. omega arith)) in
    rw e (ap (λ k. one_if (lookup bs m) + k) (taken_above m b bs (omega arith)))

taken_cons : (m : ℕ) (b : ℕ × Term) (bs : Substitution) → b.0 < m → lookup bs b.0 ≡ none → taken m (b ∷ bs) ≡ suc (taken m bs)
taken_cons zero b bs h o = absurd (omega arith)
taken_cons (suc m) b bs h o = elim (compared b.0 m) [
  | same p e ↦
      let f : lookup (b ∷ bs) m ≡ some b.1 = lookup_same b.0 b.1 bs m e in
      let g : lookup bs m ≡ none = rw p at o in
      let k : taken m (b ∷ bs) ≡ taken m bs = taken_above m b bs (omega arith) in
      rw (f, g, k) (omega arith)
  | other n e ↦
      let f : lookup (b ∷ bs) m ≡ lookup bs m = lookup_other b.0 b.1 bs m e in
      let lt : b.0 < m = omega arith in
      let k : taken m (b ∷ bs) ≡ suc (taken m bs) = taken_cons m b bs lt o in
      rw f (omega arith)
]

fresh_taken : (m : ℕ) → 2048 ≤ m → (bs : Substitution) → Fresh bs → length bs ≤ taken m bs
fresh_taken m le [] f = omega arith
fresh_taken m le (b ∷ bs) f =
    let lt : b.0 < 2048 = f.0 in
    let e : taken m (b ∷ bs) ≡ suc (taken m bs) = taken_cons m b bs (omega arith) f.1 in
    omega (arith, e, fresh_taken m le bs f.2)

fresh_few_at : (m : ℕ) → 2048 ≤ m → (bs : Substitution) → Fresh bs → length bs ≤ m
fresh_few_at m le bs f = omega (arith, fresh_taken m le bs f, taken_le m bs)

pub fresh_few : (bs : Substitution) → Fresh bs → length bs ≤ 2048
fresh_few bs f = fresh_few_at 2048 (omega arith) bs f

-- x open, to be bound: there is a place on the trail for it
pub fresh_room : (bs : Substitution) (x : ℕ) (t : Term) → Fresh bs → x < 2048 → lookup bs x ≡ none → length bs < 2048
fresh_room bs x t f lt o = fresh_few ((x, t) ∷ bs) (lt, o, f)

-- bound: the words of the variable and of the trail
pub bind_in : (ws s : List ℕ) (bs : Substitution) (x w : ℕ) (t : Term) → 4096 ≤ length s → x < 2048 → lookup bs x ≡ none → Stands ws w t → BindingsIn ws s bs → BindingsIn ws (bound s x w (length bs)) ((x, t) ∷ bs)
bind_in ws s bs x w t long lt o st b = record { words = words; trail = (get_or-set_same s₁ (trail_at n) x 0 (simp length-set (omega (arith, room))), trail_same s (bound s x w n) bs old b.trail); fresh = (lt, o, b.fresh) }
  where
    n : ℕ
    n = length bs

    s₁ : List ℕ
    s₁ = set s x (w + 1)

    room : n < 2048
    room = fresh_room bs x t b.fresh lt o

    old : Same s (bound s x w n) 2048 (2048 + n)
    old i lo hi = get_or-set_other s₁ (trail_at n) i x 0 (omega arith) ∙ get_or-set_other s x i (w + 1) 0 (omega arith)

    here : at (bound s x w n) x ≡ w + 1
    here = get_or-set_other s₁ (trail_at n) x x 0 (omega arith) ∙ get_or-set_same s x (w + 1) 0 (omega arith)

    back : w + 1 - 1 ≡ w
    back = omega arith

    entry : BoundTo ws (w + 1) t
    entry = record { some_word = omega arith; stands = rw back st }

    words : (y : ℕ) → y < 2048 → Entry ws (at (bound s x w n) y) (lookup ((x, t) ∷ bs) y)
    words y ly = elim (compared x y) [
      | same p e ↦ rw (lookup_same x t bs y e, ← p, here) entry
      | other m e ↦
          let q : at (bound s x w n) y ≡ at s y = get_or-set_other s₁ (trail_at n) y x 0 (omega arith) ∙ get_or-set_other s x y (w + 1) 0 (λ z. m (sym z)) in
          rw (lookup_other x t bs y e, q) (b.words y ly)
    ]

-- one binding taken back
pub unbind_in : (ws s : List ℕ) (b : ℕ × Term) (bs : Substitution) → 4096 ≤ length s → BindingsIn ws s (b ∷ bs) → BindingsIn ws (set s b.0 0) bs
unbind_in ws s b bs long h = record { words = words; trail = trail_same s (set s b.0 0) bs (λ i lo hi. get_or-set_other s b.0 i 0 0 (omega (arith, h.fresh.0))) h.trail.1; fresh = h.fresh.2 }
  where
    words : (y : ℕ) → y < 2048 → Entry ws (at (set s b.0 0) y) (lookup bs y)
    words y ly = elim (compared b.0 y) [
      | same p e ↦
          let o : lookup bs y ≡ none = rw p at h.fresh.1 in
          let z : at (set s b.0 0) y ≡ 0 = rw p (get_or-set_same s y 0 0 (omega arith)) in
          rw (o, z) refl
      | other m e ↦
          let q : at (set s b.0 0) y ≡ at s y = get_or-set_other s b.0 y 0 0 (λ z. m (sym z)) in
          let f : lookup (b ∷ bs) y ≡ lookup bs y = lookup_other b.0 b.1 bs y e in
          rw q (subst (λ o. Entry ws (at s y) o) f (h.words y ly))
    ]

-- what is apart

pub apart_same : (s : List ℕ) → Apart s s
apart_same s = record { long = refl; middle = λ i lo hi. refl; above = λ i lo. refl }

pub apart_trans : {s s₁ s₂ : List ℕ} → Apart s s₁ → Apart s₁ s₂ → Apart s s₂
apart_trans a b = record { long = b.long ∙ a.long; middle = λ i lo hi. b.middle i lo hi ∙ a.middle i lo hi; above = λ i lo. b.above i lo ∙ a.above i lo }

pub bound_apart : (s : List ℕ) (x w n : ℕ) → x < 2048 → n < 2048 → Apart s (bound s x w n)
bound_apart s x w n lt l = record { long = simp length-set; middle = λ i lo hi. other i (omega arith); above = λ i lo. other i (omega arith) }
  where
    other : (i : ℕ) → 4096 ≤ i → at (bound s x w n) i ≡ at s i
    other i lo = get_or-set_other (set s x (w + 1)) (trail_at n) i x 0 (omega arith) ∙ get_or-set_other s x i (w + 1) 0 (omega arith)

pub undone_apart : {ws s s' : List ℕ} {bs : Substitution} → Undone ws s s' bs → Apart s s'
undone_apart u = record { long = u.long; middle = λ i lo hi. u.above i (omega arith); above = λ i lo. u.above i (omega arith) }

-- Undoing, in the shape of the loop's test

pub record Undoing (ws s s' : List ℕ) (bs : Substitution) (mark top : ℕ) : Type 0 where
  pub new : Substitution
  pub trailed : Trailed ws s' new bs mark top
  pub long : length s' ≡ length s
  pub above : (i : ℕ) → 2048 ≤ i → at s' i ≡ at s i

pub undo_top : {ws s s' : List ℕ} {bs : Substitution} {mark top : ℕ} → Undoing ws s s' bs mark top → mark < top → (at s' (2048 + (top - 1)) < 2048) × (top ≤ 2048)
undo_top {ws} {s} {s'} {bs} {mark} {top} u lt = go u.new u.trailed
  where
    go : (new : Substitution) → Trailed ws s' new bs mark top → (at s' (2048 + (top - 1)) < 2048) × (top ≤ 2048)
    go [] t = absurd (omega (arith, t.mark_is, t.trail_is))
    go (b ∷ new) t =
        let e : top - 1 ≡ length (new ++ bs) = omega (arith, t.trail_is) in
        let h : at s' (2048 + (top - 1)) ≡ b.0 = rw e t.bindings_in.trail.0 in
        (omega (arith, h, t.bindings_in.fresh.0), omega (arith, t.trail_is, fresh_few (b ∷ (new ++ bs)) t.bindings_in.fresh))

pub undo_again : {ws s s' : List ℕ} {bs : Substitution} {mark top : ℕ} → Undoing ws s s' bs mark top → mark < top → Undoing ws s (set s' (at s' (2048 + (top - 1))) 0) bs mark (top - 1)
undo_again {ws} {s} {s'} {bs} {mark} {top} u lt = go u.new u.trailed
  where
    go : (new : Substitution) → Trailed ws s' new bs mark top → Undoing ws s (set s' (at s' (2048 + (top - 1))) 0) bs mark (top - 1)
    go [] t = absurd (omega (arith, t.mark_is, t.trail_is))
    go (b ∷ new) t =
        let e : top - 1 ≡ length (new ++ bs) = omega (arith, t.trail_is) in
        let h : at s' (2048 + (top - 1)) ≡ b.0 = rw e t.bindings_in.trail.0 in
        let l : b.0 < 2048 = t.bindings_in.fresh.0 in
        subst (λ x. Undoing ws s (set s' x 0) bs mark (top - 1)) (sym h) (record {
          new = new;
          trailed = record { long = rw length-set t.long; bindings_in = unbind_in ws s' b (new ++ bs) (omega (arith, t.long)) t.bindings_in; mark_is = t.mark_is; trail_is = e };
          long = length-set s' b.0 0 ∙ u.long;
          above = λ i lo. get_or-set_other s' b.0 i 0 0 (omega arith) ∙ u.above i lo;
        })

pub undo_ends : {ws s s' : List ℕ} {bs : Substitution} {mark top : ℕ} → Undoing ws s s' bs mark top → top ≤ mark → Undone ws s s' bs
undo_ends {ws} {s} {s'} {bs} {mark} {top} u le = go u.new u.trailed
  where
    go : (new : Substitution) → Trailed ws s' new bs mark top → Undone ws s s' bs
    go [] t = record { bindings_in = t.bindings_in; long = u.long; above = u.above }
    go (b ∷ new) t = absurd (omega (arith, t.mark_is, t.trail_is, length-append new bs))
