-- Unification's loop: the pairs that wait, and what each turn comes to.
use Prim.Native.Nat.{ℕ, zero, suc, ◌+◌, ◌*◌, ◌-◌, ◌≤◌, ◌<◌}
use mathlib.Core.Path.{◌≡◌, refl, sym, ap, subst, ◌∙◌}
use mathlib.Core.Logic.{◌⊎◌, inl, inr, ⊎_elim}
use mathlib.Core.Bool.{true, false}
use mathlib.Core.Option.{none, some}
use mathlib.Core.List.{List, [], ◌∷◌, ◌++◌, append_assoc}
use native.Mathlib.Omega.{arith}
use lib.ListN.{length, set, length-set}
use lib.Seq.{get_or-set_same, get_or-set_other}
use borrow.Author.Tests.{lt-ltb, le-ltb}
use Rattle.std.specs.Prelude.{Result, Ok, Err}
use Rattle.rules.specs.Syntax.{Term}
use Rattle.rules.specs.Settings.{scratch_words}
use Rattle.semantics.specs.Substitution.{Substitution}
use Rattle.semantics.specs.Steps.{done}
use Rattle.semantics.specs.Unify.{Pairs, unify_next, unify, unify_terms}
use Rattle.engine.specs.Reference.{at, Stands}
use Rattle.engine.specs.Memory.{BindingsIn}
use Rattle.engine.specs.Trail.{Same}
use Rattle.engine.specs.Unify.{TwoTerms, PairGoes, PairParts, PairEnds, PairUnifiedAs, Went, UnifiedAs}
use Rattle.engine.specs.Steps.{stops, no_steps, at_bound}
use Rattle.engine.specs.declared.report.Bound.TheVariants.{Waiting}
use Rattle.engine.specs.declared.steps.Stopped.{Stopped}
use Rattle.engine.specs.declared.terms.unify.PairUnified.{PairUnified}
use Rattle.engine.specs.declared.terms.unify.PairUnified.TheVariants as paired
use Rattle.engine.proofs.FrameLaws.{bindings_same}
use Rattle.engine.proofs.TrailLaws.{fresh_few, apart_same, apart_trans}

-- Pairs that wait, the newest last in the area.
abbrev pub pair_word : ℕ → ℕ
pair_word n = 10752 + 2 * n

abbrev pub PairsIn : List ℕ → List ℕ → Pairs → Type 0
PairsIn ws s [] = Unit {0}
PairsIn ws s (v ∷ vs) = Stands ws (at s (pair_word (length vs))) v.0 × Stands ws (at s (pair_word (length vs) + 1)) v.1 × PairsIn ws s vs

pairs_same : (ws s s' : List ℕ) (vs : Pairs) → Same s s' 10752 (10752 + 2 * length vs) → PairsIn ws s vs → PairsIn ws s' vs
pairs_same ws s s' [] e h = tt
pairs_same ws s s' (v ∷ vs) e h = (rw (e (pair_word (length vs)) (omega arith) (omega arith)) h.0, rw (e (pair_word (length vs) + 1) (omega arith) (omega arith)) h.1, pairs_same ws s s' vs (λ i lo hi. e i lo (omega arith)) h.2)

-- the loop goes on: what is left comes to the same
pub record Unifying (ws s₀ : List ℕ) (bs₀ : Substitution) (u₀ v₀ : Term) (steps : ℕ) (s : List ℕ) (a b top trail rest : ℕ) : Type 0 where
  pub went : Went ws s₀ bs₀ s trail
  pub pairs : Pairs
  pub pairs_in : PairsIn ws s pairs
  pub top_is : top ≡ length pairs
  pub left : Term
  pub right : Term
  pub stands_left : Stands ws a left
  pub stands_right : Stands ws b right
  pub fuel : ℕ
  pub enough : rest ≤ fuel
  pub same : unify_terms bs₀ u₀ v₀ steps ≡ unify fuel went.next pairs left right rest

pub unifying_start : {ws s : List ℕ} {bs : Substitution} {a : ℕ} {u : Term} {b : ℕ} {v : Term} {mark steps : ℕ} → TwoTerms ws s bs a u b v mark → Unifying ws s bs u v steps s a b 0 mark steps
unifying_start {s = s} {bs = bs} {u = u} {v = v} {steps = steps} m = record {
  went = record { next = bs; new = []; grows = refl; held = m.held; trail_is = m.trail_is; apart = apart_same s };
  pairs = [];
  pairs_in = tt;
  top_is = refl;
  left = u;
  right = v;
  stands_left = m.first;
  stands_right = m.second;
  fuel = steps;
  enough = omega arith;
  same = refl;
}

module _ {ws s₀ : List ℕ} {bs₀ : Substitution} {u₀ v₀ : Term} {steps : ℕ} {s : List ℕ} {a b top trail rest : ℕ} (g : Unifying ws s₀ bs₀ u₀ v₀ steps s a b top trail rest) where
  pub unifying_two : TwoTerms ws s g.went.next a g.left b g.right trail
  unifying_two = record { held = g.went.held; first = g.stands_left; second = g.stands_right; trail_is = g.went.trail_is }

  pub unify_out : rest ≡ 0 → UnifiedAs ws s₀ s bs₀ (unify_terms bs₀ u₀ v₀ steps) (record { trail = trail; outcome = Err no_steps })
  unify_out z = (g.went, g.same ∙ ap (unify g.fuel g.went.next g.pairs g.left g.right) z ∙ none_left g.fuel)
    where
      none_left : (fuel : ℕ) → unify fuel g.went.next g.pairs g.left g.right 0 ≡ stops no_steps
      none_left zero = refl
      none_left (suc fuel) = refl

  module _ (some_left : ¬ (rest ≡ 0)) where
    step_same : unify_terms bs₀ u₀ v₀ steps ≡ unify (suc (g.fuel - 1)) g.went.next g.pairs g.left g.right rest
    step_same = let e : g.fuel ≡ suc (g.fuel - 1) = omega (arith, g.enough) in g.same ∙ ap (λ f. unify f g.went.next g.pairs g.left g.right rest) e

    went_still : {s' : List ℕ} → s' ≡ s → Went ws s₀ bs₀ s' trail
    went_still e = subst (λ z. Went ws s₀ bs₀ z trail) (sym e) g.went

    -- what the pair came to
    module _ (s' : List ℕ) where
      abbrev pub Told : Result PairUnified Stopped → Type 0
      Told r = (bs : Substitution) (u v : Term) → TwoTerms ws s bs a u b v trail → PairUnifiedAs ws s s' bs u v rest r

      told : (r : Result PairUnified Stopped) → Told r → PairUnifiedAs ws s s' g.went.next g.left g.right rest r
      told r tells = tells g.went.next g.left g.right unifying_two

      pub unify_stops : (e : Stopped) → Told (Err e) → UnifiedAs ws s₀ s' bs₀ (unify_terms bs₀ u₀ v₀ steps) (record { trail = trail; outcome = Err e })
      unfolding PairUnifiedAs
      unify_stops e tells =
          let q : PairEnds s s' g.went.next g.left g.right rest (stops e) = told (Err e) tells in (went_still q.untouched, step_same ∙ q.same (g.fuel - 1) g.pairs)

      pub unify_failed : (r : PairUnified) → Told (Ok r) → {after : ℕ} → r ≡ paired.Fails after → UnifiedAs ws s₀ s' bs₀ (unify_terms bs₀ u₀ v₀ steps) (record { trail = trail; outcome = Ok (false, after) })
      unfolding PairUnifiedAs
      unify_failed r tells {after} e =
          let q : PairEnds s s' g.went.next g.left g.right rest (done none after) = rw e at (told (Ok r) tells) in (went_still q.untouched, step_same ∙ q.same (g.fuel - 1) g.pairs)

      -- the pair is done with
      module _ (r : PairUnified) (tells : Told (Ok r)) {n after : ℕ} (e : r ≡ paired.Goes n after) where
        goes : PairGoes ws s s' g.went.next g.left g.right rest n after
        unfolding PairUnifiedAs
        goes = rw e at (told (Ok r) tells)

        went_on : Went ws s₀ bs₀ s' n
        went_on = record {
          next = goes.next;
          new = goes.new ++ g.went.new;
          grows = goes.grows ∙ ap (λ z. goes.new ++ z) g.went.grows ∙ sym (append_assoc goes.new g.went.new bs₀);
          held = goes.held;
          trail_is = goes.trail_is;
          apart = apart_trans g.went.apart (record { long = goes.long; middle = λ i lo hi. goes.above i lo; above = λ i lo. goes.above i (omega arith) });
        }

        next_same : (vs : Pairs) → g.pairs ≡ vs → unify_terms bs₀ u₀ v₀ steps ≡ unify_next vs goes.next after (λ bs' us x y l. unify (g.fuel - 1) bs' us x y l)
        next_same vs q = step_same ∙ goes.same (g.fuel - 1) g.pairs ∙ ap (λ z. unify_next z goes.next after (λ bs' us x y l. unify (g.fuel - 1) bs' us x y l)) q

        pub unify_joined : top ≡ 0 → UnifiedAs ws s₀ s' bs₀ (unify_terms bs₀ u₀ v₀ steps) (record { trail = n; outcome = Ok (true, after) })
        unfolding went_on goes
        unify_joined z = (went_on, go g.pairs refl)
          where
            go : (vs : Pairs) → g.pairs ≡ vs → unify_terms bs₀ u₀ v₀ steps ≡ done (some goes.next) after
            go [] q = next_same [] q
            go (v ∷ vs) q = absurd (omega (arith, g.top_is, ap length q))

        pub unify_fewer : after < rest
        unify_fewer = goes.fewer

        pub unify_pop : ¬ (top ≡ 0) → Unifying ws s₀ bs₀ u₀ v₀ steps s' (at s' (10752 + 2 * (top - 1))) (at s' (10752 + 2 * (top - 1) + 1)) (top - 1) n after
        unfolding went_on goes
        unify_pop z = go g.pairs refl (pairs_same ws s s' g.pairs (λ i lo hi. goes.above i (omega arith)) g.pairs_in)
          where
            go : (vs : Pairs) → g.pairs ≡ vs → PairsIn ws s' g.pairs → Unifying ws s₀ bs₀ u₀ v₀ steps s' (at s' (10752 + 2 * (top - 1))) (at s' (10752 + 2 * (top - 1) + 1)) (top - 1) n after
            go [] q i = absurd (omega (arith, g.top_is, ap length q))
            go (v ∷ vs) q i =
                let j : PairsIn ws s' (v ∷ vs) = subst (PairsIn ws s') q i in
                let l : top - 1 ≡ length vs = omega (arith, g.top_is, ap length q) in
                record {
                  went = went_on;
                  pairs = vs;
                  pairs_in = j.2;
                  top_is = l;
                  left = v.0;
                  right = v.1;
                  stands_left = rw l j.0;
                  stands_right = rw l j.1;
                  fuel = g.fuel - 1;
                  enough = omega (arith, goes.fewer, g.enough);
                  same = next_same (v ∷ vs) q;
                }

      -- its parts come next
      module _ (r : PairUnified) (tells : Told (Ok r)) {c d e f : ℕ} (y : r ≡ paired.Parts c d e f) where
        splits : PairParts ws s s' g.went.next g.left g.right rest c d e f
        unfolding PairUnifiedAs
        splits = rw y at (told (Ok r) tells)

        pub unify_full : {z : Stopped} → 512 ≤ top → z ≡ at_bound Waiting rest → UnifiedAs ws s₀ s' bs₀ (unify_terms bs₀ u₀ v₀ steps) (record { trail = trail; outcome = Err z })
        unify_full le i = rw i (went_still splits.untouched, step_same ∙ splits.same (g.fuel - 1) g.pairs ∙ rw (le-ltb (length g.pairs) 512 (omega (arith, g.top_is))))

        pub unify_push : top < 512 → Unifying ws s₀ bs₀ u₀ v₀ steps (set (set s' (10752 + 2 * top) d) (10752 + 2 * top + 1) f) c e (top + 1) trail (rest - 1)
        unify_push lt = subst (λ z. Unifying ws s₀ bs₀ u₀ v₀ steps (set (set z (10752 + 2 * top) d) (10752 + 2 * top + 1) f) c e (top + 1) trail (rest - 1)) (sym splits.untouched) pushed
          where
            j : ℕ
            j = 10752 + 2 * top

            s₁ : List ℕ
            s₁ = set (set s j d) (j + 1) f

            bs : Substitution
            bs = g.went.next

            long : scratch_words ≤ length s
            long = g.went.held.long

            other : (i : ℕ) → (i < j) ⊎ (j + 1 < i) → at s₁ i ≡ at s i
            other i n = get_or-set_other (set s j d) (j + 1) i f 0 (⊎_elim (λ h. omega arith) (λ h. omega arith) n) ∙ get_or-set_other s j i d 0 (⊎_elim (λ h. omega arith) (λ h. omega arith) n)

            first_is : at s₁ j ≡ d
            first_is = get_or-set_other (set s j d) (j + 1) j f 0 (omega arith) ∙ get_or-set_same s j d 0 (omega arith)

            second_is : at s₁ (j + 1) ≡ f
            second_is = get_or-set_same (set s j d) (j + 1) f 0 (rw length-set (omega arith))

            top_is : top ≡ length g.pairs
            top_is = g.top_is

            still : BindingsIn ws s₁ bs
            still = bindings_same ws s s₁ bs (λ i lo hi. other i (inl (omega arith))) (λ i lo hi. other i (inl (omega (arith, fresh_few bs g.went.held.bindings_in.fresh)))) g.went.held.bindings_in

            pushed : Unifying ws s₀ bs₀ u₀ v₀ steps s₁ c e (top + 1) trail (rest - 1)
            pushed = record {
              went = record {
                next = bs;
                new = g.went.new;
                grows = g.went.grows;
                held = record { short = g.went.held.short; long = simp length-set long; bindings_in = still; good = g.went.held.good };
                trail_is = g.went.trail_is;
                apart = apart_trans g.went.apart (record { long = simp length-set; middle = λ i lo hi. other i (inl (omega arith)); above = λ i lo. other i (inr (omega arith)) });
              };
              pairs = (splits.second, splits.fourth) ∷ g.pairs;
              pairs_in = (
                subst (λ z. Stands ws (at s₁ (10752 + 2 * z)) splits.second) top_is (rw first_is splits.stands_second),
                subst (λ z. Stands ws (at s₁ (10752 + 2 * z + 1)) splits.fourth) top_is (rw second_is splits.stands_fourth),
                pairs_same ws s s₁ g.pairs (λ i lo hi. other i (inl (omega arith))) g.pairs_in,
              );
              top_is = omega arith;
              left = splits.first;
              right = splits.third;
              stands_left = splits.stands_first;
              stands_right = splits.stands_third;
              fuel = g.fuel - 1;
              enough = omega (arith, g.enough);
              same = step_same ∙ splits.same (g.fuel - 1) g.pairs ∙ rw (lt-ltb (length g.pairs) 512 (omega arith));
            }
