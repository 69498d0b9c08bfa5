-- The loop of `walk` holds position and base of a reference apart: what it knows before and after the word there is read.
use Prim.Native.Nat.{ℕ, ◌+◌, ◌-◌, ◌<◌}
use mathlib.Core.Path.{◌≡◌, refl, sym, ap, subst, ◌∙◌}
use mathlib.Core.List.{List}
use native.Mathlib.Omega.{arith}
use lib.ListN.{length}
use Rattle.std.specs.Prelude.{Option, Some, None}
use Rattle.word.specs.Word.{kind, payload}
use Rattle.word.specs.Kind.{kind_number}
use Rattle.word.specs.declared.kind.Kind.{Kind}
use Rattle.word.specs.declared.kind.Kind.TheVariants.{Variable}
use Rattle.word.proofs.KindLaws.{kind_number_other}
use Rattle.rules.specs.Syntax.{Term, var, atom, pair}
use Rattle.semantics.specs.Substitution.{Substitution, walk}
use Rattle.semantics.specs.Unify.{way_end}
use Rattle.engine.specs.Layout.{most_variables, positions, references}
use Rattle.engine.specs.Reference.{at, refer, pos_of, base_of, Stands}
use Rattle.engine.specs.Walk.{PartRead, Follows, WalkedTo, through_of}
use Rattle.engine.specs.declared.terms.walk.Walked.{Walked}
use Rattle.engine.proofs.ReferenceLaws.{atom_low, base_refer, stands_inside}
use Rattle.engine.proofs.WalkLaws.{hops, onward, Hop, walk_node, walk_still, walk_variable, walk_free, walk_hop}

-- the last bound variable so far: none, or one from which the way goes on to u
pub data Through (bs : Substitution) (t u : Term) (through : Option ℕ) : Type 0 where
  not_yet : through ≡ None → t ≡ u → Through bs t u through
  through_one : (x : ℕ) → through ≡ Some x → way_end bs t ≡ onward bs x u → Through bs t u through

-- what is left to follow, at the position and base that are held, comes to the same term, by the same way
pub record Walking (ws s : List ℕ) (term pos base : ℕ) (through : Option ℕ) : Type 0 where
  pub low : pos < positions
  pub left : (bs : Substitution) (t : Term) → Follows ws s bs term t → (u : Term) × Follows ws s bs (refer pos base) u × (walk bs t ≡ walk bs u) × Through bs t u through

-- what `walk` asks for: there is something to follow
abbrev Something : List ℕ → List ℕ → ℕ → Type 0
Something ws s term = (bs : Substitution) × (t : Term) × Follows ws s bs term t

-- a reference may be taken apart and joined again
rejoined : (w : ℕ) → w ≡ refer (pos_of w) (base_of w)
rejoined w = omega arith

-- the position alone, as a reference with base 0, is at the same word
same_pos : (pos base : ℕ) → pos_of (refer pos base) ≡ pos_of pos
same_pos pos base = omega arith

module _ {ws s : List ℕ} {term pos base : ℕ} {through : Option ℕ} (h : Walking ws s term pos base through) where
  module _ (pre : Something ws s term) where
    follows_here : Follows ws s pre.0 (refer pos base) (h.left pre.0 pre.1 pre.2).0
    follows_here = (h.left pre.0 pre.1 pre.2).1

    pub walking_inside : pos_of pos < length ws
    walking_inside = subst (λ p. p < length ws) (same_pos pos base) (stands_inside follows_here.stands)

    pub walking_below : refer pos base < references
    walking_below = follows_here.stands.below

  -- The word at the position has been read.
  module _ {bits p : ℕ} (k : Kind) (part : PartRead ws pos bits (kind_number k) p) where
    here : PartRead ws (refer pos base) bits (kind_number k) p
    here =
        let e : at ws (pos_of pos) ≡ at ws (pos_of (refer pos base)) = ap (at ws) (sym (same_pos pos base)) in
        record { is_bits = part.is_bits ∙ e; is_kind = part.is_kind ∙ ap kind e; is_payload = part.is_payload ∙ ap payload e }

    is_variable : base + p ≡ base_of (refer pos base) + p
    is_variable = ap (λ b. b + p) (sym (base_refer pos base h.low))

    number_other : ¬ (k ≡ Variable) → ¬ (kind_number k ≡ 0)
    number_other n = kind_number_other k Variable n

    pub walking_variable : Something ws s term → k ≡ Variable → base + p < most_variables
    walking_variable pre e = subst (λ x. x < most_variables) (sym is_variable) (walk_variable (follows_here pre) here (ap kind_number e))

    abbrev result : Walked
    result = record { at = refer pos base; bits = bits; kind = k; payload = p; through = through }

    arrives : ((bs : Substitution) (u : Term) → Follows ws s bs (refer pos base) u → Stands ws (refer pos base) (walk bs u)) →
        ((bs : Substitution) (u : Term) → Follows ws s bs (refer pos base) u → (a b : Term) → walk bs u ≡ pair a b → u ≡ pair a b) → WalkedTo ws s term result
    arrives there is_there = record {
      node = here;
      stands = λ bs t f. let q = h.left bs t f in subst (Stands ws (refer pos base)) (sym q.2) (there bs q.0 q.1);
      led = λ bs t f a b e. let q = h.left bs t f in led_to bs t q.0 a b (is_there bs q.0 q.1 a b (sym q.2 ∙ e)) q.3;
    }
      where
        led_to : (bs : Substitution) (t u a b : Term) → u ≡ pair a b → Through bs t u through → through ≡ through_of (way_end bs t)
        led_to bs t u a b e (not_yet z i) = z ∙ sym (ap (λ v. through_of (way_end bs v)) (i ∙ e))
        led_to bs t u a b e (through_one x z i) = z ∙ sym (ap through_of (i ∙ ap (onward bs x) e))

    pub walking_node : ¬ (k ≡ Variable) → WalkedTo ws s term result
    walking_node n = arrives (λ bs u f. walk_node f here (number_other n)) (λ bs u f a b e. sym (walk_still f here (number_other n)) ∙ e)

    pub walking_open : k ≡ Variable → at s (base + p) ≡ 0 → WalkedTo ws s term result
    walking_open e z = arrives (λ bs u f. walk_free f here is_variable (ap kind_number e) z) (λ bs u f a b q. absurd (open_no_pair (subst (Stands ws (refer pos base)) q (walk_free f here is_variable (ap kind_number e) z))))
      where
        open_no_pair : {a b : Term} → Stands ws (refer pos base) (pair a b) → ⊥
        open_no_pair st = let k : kind_number k ≡ 0 = ap kind_number e in omega (arith, st.reads.0, here.is_kind)

    -- The variable is bound: the loop hops to what its word refers to.
    module _ (e : k ≡ Variable) (z : ¬ (at s (base + p) ≡ 0)) where
      hop : {bs : Substitution} {u : Term} → Follows ws s bs (refer pos base) u → Hop ws s bs (refer pos base) u (base + p) (refer (pos_of (at s (base + p) - 1)) (base_of (at s (base + p) - 1)))
      hop {bs} {u} f = subst (Hop ws s bs (refer pos base) u (base + p)) (rejoined (at s (base + p) - 1)) (walk_hop f here is_variable (ap kind_number e) z)

      through_on : {bs : Substitution} {t u v : Term} → Follows ws s bs (refer pos base) u → way_end bs u ≡ onward bs (base + p) v → Through bs t u through → Through bs t v (Some (base + p))
      through_on {bs} f w (not_yet i q) = through_one (base + p) refl (ap (way_end bs) q ∙ w)
      through_on {bs} {u = u} f w (through_one x i q) = through_one (base + p) refl (q ∙ rest u f.stands ∙ w)
        where
          rest : (u : Term) → Stands ws (refer pos base) u → onward bs x u ≡ way_end bs u
          rest (var y) st = refl
          rest (atom a) st = let l = atom_low (at ws (pos_of (refer pos base))) a st.reads.0 in let i : kind_number k ≡ 0 = ap kind_number e in absurd (omega (arith, l.0, here.is_kind))
          rest (pair a b) st = let i : kind_number k ≡ 0 = ap kind_number e in absurd (omega (arith, st.reads.0, here.is_kind))

      pub walking_on : Walking ws s term (pos_of (at s (base + p) - 1)) (base_of (at s (base + p) - 1)) (Some (base + p))
      walking_on = record { low = omega arith; left = λ bs t f. let q = h.left bs t f in let g = hop q.1 in (g.next, g.follows, q.2 ∙ g.same_walk, through_on q.1 g.same_way q.3) }

      pub walking_falls : Something ws s term → hops 2048 ws s (refer (pos_of (at s (base + p) - 1)) (base_of (at s (base + p) - 1))) < hops 2048 ws s (refer pos base)
      walking_falls pre = (hop (follows_here pre)).falls
