-- One node of a traversal, in the shape of the code's tests.
use Prim.Native.Nat.{ℕ, zero, suc, ◌+◌, ◌-◌, ◌≤◌, ◌<◌}
use mathlib.Core.Option.{Option as MathOption, none, some}
use mathlib.Core.Path.{◌≡◌, refl, sym, ap, subst, ◌∙◌}
use mathlib.Core.Bool.{Bool, true, false}
use mathlib.Core.List.{List, [], ◌∷◌}
use native.Mathlib.Omega.{arith}
use lib.Dec.{eqb}
use lib.ListN.{length}
use borrow.Author.Tests.{eq-eqb, ne_eqb, lt-ltb, le-ltb}
use Rattle.std.specs.Prelude.{Result, Ok, Err, Option, Some, None}
use Rattle.word.specs.Kind.{kind_number}
use Rattle.word.specs.declared.kind.Kind.TheVariants.{Pair}
use Rattle.word.proofs.KindLaws.{kind_number_other}
use Rattle.rules.specs.Syntax.{Term, pair}
use Rattle.semantics.specs.Substitution.{Substitution, lookup, walk}
use Rattle.semantics.specs.Unify.{way_end}
use Rattle.semantics.proofs.Basics.{clash, compared, other, same}
use Rattle.semantics.proofs.OccursLaws.{way_pair}
use Rattle.semantics.proofs.ScanLaws.{Leaf}
use Rattle.semantics.proofs.SubstitutionLaws.{lookup_other, size, size_walk, size_parts}
use Rattle.engine.specs.Layout.{most_variables}
use Rattle.engine.specs.Memory.{Fresh}
use Rattle.engine.specs.Occurs.{Led}
use Rattle.engine.specs.Reference.{Stands}
use Rattle.engine.specs.Walk.{Follows, WalkedTo, through_of}
use Rattle.engine.specs.Scan.{LeafWord, scan_says}
use Rattle.engine.specs.Traverse.{Traversal, Met, EnteredNow, PassedNow, EntersAs, SaysAs}
use Rattle.engine.specs.Steps.{stops, no_steps, at_bound}
use Rattle.engine.specs.declared.report.Bound.TheVariants.{Waiting}
use Rattle.engine.specs.declared.steps.Stopped.{Stopped}
use Rattle.engine.specs.declared.terms.walk.Walked.{Walked}
use Rattle.engine.proofs.ScanSteps.{PairAt, leaf_at, pair_at}
use Rattle.engine.proofs.SizeLaws.{followed_size, reach_size}

-- the variable that a way led through

bound_low : (bs : Substitution) → Fresh bs → (x : ℕ) (t : Term) → lookup bs x ≡ some t → x < most_variables
bound_low [] h x t e = clash (cc)
bound_low (b ∷ bs) h x t e = elim (compared b.0 x) [
  | same p q ↦ subst (λ y. y < most_variables) p h.0
  | other n q ↦ bound_low bs h.2 x t (sym (lookup_other b.0 b.1 bs x q) ∙ e)
]

pub led_to : {ws s : List ℕ} {bs : Substitution} {w : ℕ} {t a b : Term} {through : Option ℕ} → Follows ws s bs w t → walk bs t ≡ pair a b → through ≡ through_of (way_end bs t) → Led through (way_end bs t)
led_to {bs = bs} {t = t} {a} {b} {through} f e i = record { is = i; low = go (way_end bs t) refl }
  where
    go : (o : MathOption ℕ) → way_end bs t ≡ o → (x : ℕ) → through ≡ Some x → x < most_variables
    go none q x z = let k : through_of (way_end bs t) ≡ None = ap through_of q in clash (cc)
    go (some y) q x z = let k : through_of (way_end bs t) ≡ Some y = ap through_of q in let j : y ≡ x = cc in rw j at (bound_low bs f.binds.bindings_in.fresh y (pair a b) (way_pair bs t y a b q e))

no_pair : (t : Term) → Leaf t → (a b : Term) → ¬ (t ≡ pair a b)
no_pair t l a b e = rw e at l

module _ {S : Type 0} {sought : ℕ} {bs : Substitution} (T : Traversal S sought bs) where
  -- one step of it
  module _ (i : T.Asked) (es : T.Entered) (vs : List Term) (u : Term) (left : ℕ) (some_left : ¬ (left ≡ 0)) where
    one_more : left ≡ suc (left - 1)
    one_more = omega arith

    step_leaf : (found : Bool) → Leaf (walk bs u) → T.test i (walk bs u) ≡ found → T.run i es vs u left ≡ scan_says (Ok (found, left - 1)) vs (T.run i es)
    unfolding scan_says
    step_leaf true l q = ap (T.run i es vs u) one_more ∙ T.at_find i es vs u (left - 1) q
    step_leaf false l q = ap (T.run i es vs u) one_more ∙ T.at_leaf i es vs u (left - 1) (no_pair (walk bs u) l) q

    module _ {s' : S} {a b : Term} (e : EnteredNow T s' u a b es) where
      step_full : 512 ≤ length vs → T.run i es vs u left ≡ scan_says (Err (at_bound Waiting left)) vs (T.run i e.entered)
      unfolding scan_says
      step_full le = ap (T.run i es vs u) one_more ∙ e.same i vs (left - 1) ∙ rw (le-ltb (length vs) 512 le) (ap (λ (n : ℕ). stops (at_bound Waiting n)) (sym one_more))

      step_down : length vs < 512 → T.run i es vs u left ≡ T.run i e.entered (b ∷ vs) a (left - 1)
      step_down lt = ap (T.run i es vs u) one_more ∙ e.same i vs (left - 1) ∙ rw (lt-ltb (length vs) 512 lt)

    step_pass : {s' : S} (e : PassedNow T s' u es) → T.run i es vs u left ≡ scan_says (Ok (false, left - 1)) vs (T.run i e.entered)
    unfolding scan_says
    step_pass e = ap (T.run i es vs u) one_more ∙ e.same i vs (left - 1)

  -- a pair that is entered comes to what it does in its place
  entered_walked : {s' : S} {u a b : Term} {es : T.Entered} (e : EnteredNow T s' u a b es) (i : T.Asked) (vs : List Term) (left : ℕ) → T.run i es vs u left ≡ T.run i e.entered vs (walk bs u) left
  entered_walked {u = u} {es = es} e i vs zero = T.without_step i es vs u ∙ sym (T.without_step i e.entered vs (walk bs u))
  entered_walked e i vs (suc left) = e.in_place i vs left

  -- the loop goes on: what is left comes to the same
  pub record Scanning (ws s : List ℕ) (s' : S) (es : T.Entered) (n steps : ℕ) (t : Term) (w left : ℕ) : Type 0 where
    pub here : Term
    pub follows : Follows ws s bs w here
    pub smaller : size bs here ≤ size bs t
    pub entered : T.Entered
    pub holds : T.Holds s' entered
    pub same : (i : T.Asked) (vs : List Term) → length vs ≡ n → T.run i es vs t steps ≡ T.run i entered vs here left

  -- a pair is entered: its first part, referred to by x, is looked at next, and its second, by y, waits
  pub record Parting (ws s : List ℕ) (s' : S) (es : T.Entered) (n steps : ℕ) (t : Term) (w x y left : ℕ) : Type 0 where
    pub first : Term
    pub second : Term
    pub first_follows : Follows ws s bs x first
    pub second_follows : Follows ws s bs y second
    pub first_smaller : size bs first < size bs t
    pub second_smaller : size bs second < size bs t
    pub second_falls : size bs second < followed_size ws s w
    pub entered : T.Entered
    pub holds : T.Holds s' entered
    pub same : (i : T.Asked) (vs : List Term) → length vs ≡ n → T.run i es vs t steps ≡ T.run i entered (second ∷ vs) first left

module _ {S : Type 0} {sought : ℕ} {bs : Substitution} {T : Traversal S sought bs} where
  abbrev pub scanning_start : {ws s : List ℕ} {s' : S} {es : T.Entered} {n steps : ℕ} {t : Term} {w : ℕ} → Follows ws s bs w t → T.Holds s' es → Scanning T ws s s' es n steps t w steps
  scanning_start {es = es} {t = t} f h = record { here = t; follows = f; smaller = omega arith; entered = es; holds = h; same = λ i vs e. refl }

  module _ {ws s : List ℕ} {s' : S} {es : T.Entered} {n steps : ℕ} {t : Term} {w left : ℕ} (g : Scanning T ws s s' es n steps t w left) where
    pub scan_out : left ≡ 0 → SaysAs T s' es t n steps (Err no_steps)
    unfolding scan_says
    scan_out z = record { entered = g.entered; holds = g.holds; same = λ i vs e. g.same i vs e ∙ ap (T.run i g.entered vs g.here) z ∙ T.without_step i g.entered vs g.here }

    -- the term here, followed
    module _ {v : Walked} (some_left : ¬ (left ≡ 0)) (to : WalkedTo ws s w v) where
      there : Stands ws v.at (walk bs g.here)
      there = to.stands bs g.here g.follows

      pub scan_leaf : {r : ℕ} → ¬ (v.kind ≡ Pair) → LeafWord v.at v.bits (kind_number v.kind) v.payload r → SaysAs T s' es t n steps (Ok (eqb r sought, left - 1))
      scan_leaf {r} m l =
          let o = leaf_at to.node (walk bs g.here) there (kind_number_other v.kind Pair m) l in
          record { entered = g.entered; holds = g.holds; same = λ i vs e. g.same i vs e ∙ step_leaf T i g.entered vs g.here left some_left (eqb r sought) o.is (o.tested (T.agrees i)) }

      pub scan_hit : {r : ℕ} → ¬ (v.kind ≡ Pair) → LeafWord v.at v.bits (kind_number v.kind) v.payload r → r ≡ sought → SaysAs T s' es t n steps (Ok (true, left - 1))
      scan_hit {r} m l z = rw (eq-eqb r sought z) at (scan_leaf m l)

      pub scan_miss : {r : ℕ} → ¬ (v.kind ≡ Pair) → LeafWord v.at v.bits (kind_number v.kind) v.payload r → ¬ (r ≡ sought) → SaysAs T s' es t n steps (Ok (false, left - 1))
      scan_miss {r} m l z = rw (ne_eqb r sought z) at (scan_leaf m l)

      module _ (is_pair : v.kind ≡ Pair) where
        pub pair_here : PairAt to.node (walk bs g.here)
        pair_here = pair_at to.node (walk bs g.here) there (ap kind_number is_pair)

        abbrev pub met : Met bs v.through g.here
        met = record { led = led_to g.follows pair_here.is (to.led bs g.here g.follows pair_here.left pair_here.right pair_here.is); left = pair_here.left; right = pair_here.right; is = pair_here.is }

        -- passed, or entered with room for its second part to wait, or without
        module _ {s'' : S} {entry : Bool} (told : EntersAs T s'' g.here pair_here.left pair_here.right g.entered (Ok entry)) where
          pub scan_pass : entry ≡ false → SaysAs T s'' es t n steps (Ok (false, left - 1))
          scan_pass z = let o : PassedNow T s'' g.here g.entered = rw z at told in record { entered = o.entered; holds = o.holds; same = λ i vs e. g.same i vs e ∙ step_pass T i g.entered vs g.here left some_left o }

          entered_now : entry ≡ true → EnteredNow T s'' g.here pair_here.left pair_here.right g.entered
          entered_now z = rw z at told

          pub scan_full : {stopped : Stopped} → entry ≡ true → 512 ≤ n → stopped ≡ at_bound Waiting left → SaysAs T s'' es t n steps (Err stopped)
          scan_full z le q = let o = entered_now z in rw q (record { entered = o.entered; holds = o.holds; same = λ i vs m. g.same i vs m ∙ step_full T i g.entered vs g.here left some_left o (omega arith) })

          pub parting : entry ≡ true → n < 512 → Parting T ws s s'' es n steps t w (v.at + 1) (v.at + 1 + v.payload) (left - 1)
          parting z room =
              let o = entered_now z in
              let p = pair_here in
              let small = size_parts bs g.follows.binds.good g.here p.left p.right p.is in
              record {
                first = p.left;
                second = p.right;
                first_follows = record { binds = g.follows.binds; stands = p.first };
                second_follows = record { binds = g.follows.binds; stands = p.second };
                first_smaller = omega (arith, small.0, g.smaller);
                second_smaller = omega (arith, small.1, g.smaller);
                second_falls = omega (arith, small.1, reach_size g.follows);
                entered = o.entered;
                holds = o.holds;
                same = λ i vs m. g.same i vs m ∙ step_down T i g.entered vs g.here left some_left o (omega arith);
              }

  module _ {ws s : List ℕ} {s' : S} {es : T.Entered} {n steps : ℕ} {t : Term} {w x y left : ℕ} (g : Parting T ws s s' es n steps t w x y left) where
    pub second_less : followed_size ws s y < followed_size ws s w
    second_less = omega (arith, g.second_falls, reach_size g.second_follows)

    -- the first part, looked at by the loop
    abbrev pub first_starts : Scanning T ws s s' g.entered (n + 1) left g.first x left
    first_starts = scanning_start g.first_follows g.holds

    -- what it says, then the rest
    module _ {s'' : S} where
      after_first : (r : Result (Bool × ℕ) Stopped) (says : SaysAs T s'' g.entered g.first (n + 1) left r) (i : T.Asked) (vs : List Term) → length vs ≡ n → T.run i es vs t steps ≡ scan_says r (g.second ∷ vs) (T.run i says.entered)
      after_first r says i vs m = g.same i vs m ∙ says.same i (g.second ∷ vs) (omega arith)

      pub first_clear : {found : Bool} {m : ℕ} → SaysAs T s'' g.entered g.first (n + 1) left (Ok (found, m)) → found ≡ false → Scanning T ws s s'' es n steps t y m
      unfolding scan_says
      first_clear {found} {m} says z = record { here = g.second; follows = g.second_follows; smaller = omega (arith, g.second_smaller); entered = says.entered; holds = says.holds; same = λ i vs l. rw z at (after_first (Ok (found, m)) says i vs l) }

      pub first_found : {found : Bool} {m : ℕ} → SaysAs T s'' g.entered g.first (n + 1) left (Ok (found, m)) → found ≡ true → SaysAs T s'' es t n steps (Ok (true, m))
      unfolding scan_says
      first_found {found} {m} says z = record { entered = says.entered; holds = says.holds; same = λ i vs l. rw z at (after_first (Ok (found, m)) says i vs l) }

      pub first_stops : {stopped : Stopped} → SaysAs T s'' g.entered g.first (n + 1) left (Err stopped) → SaysAs T s'' es t n steps (Err stopped)
      unfolding scan_says
      first_stops {stopped} says = record { entered = says.entered; holds = says.holds; same = λ i vs l. after_first (Err stopped) says i vs l }

    pub first_out : left ≡ 0 → SaysAs T s' es t n steps (Err no_steps)
    first_out z = first_stops (scan_out first_starts z)

    module _ {v : Walked} (some_left : ¬ (left ≡ 0)) (to : WalkedTo ws s x v) where
      module _ {r : ℕ} (leaf : ¬ (v.kind ≡ Pair)) (word : LeafWord v.at v.bits (kind_number v.kind) v.payload r) where
        first_leaf : SaysAs T s' g.entered g.first (n + 1) left (Ok (eqb r sought, left - 1))
        first_leaf = scan_leaf first_starts some_left to leaf word

        pub first_hit : r ≡ sought → SaysAs T s' es t n steps (Ok (true, left - 1))
        first_hit z = first_found first_leaf (eq-eqb r sought z)

        pub first_miss : ¬ (r ≡ sought) → Scanning T ws s s' es n steps t y (left - 1)
        first_miss z = first_clear first_leaf (ne_eqb r sought z)

      -- it is a pair: passed ..
      module _ (is_pair : v.kind ≡ Pair) {s'' : S} {entry : Bool} (told : EntersAs T s'' g.first (pair_here first_starts some_left to is_pair).left (pair_here first_starts some_left to is_pair).right g.entered (Ok entry)) where
        pub first_passed : entry ≡ false → Scanning T ws s s'' es n steps t y (left - 1)
        first_passed z = first_clear (scan_pass first_starts some_left to is_pair told z) refl

        -- .. or, followed and entered, what the recursion begins with
        pub first_entered : entry ≡ true → EnteredNow T s'' g.first (pair_here first_starts some_left to is_pair).left (pair_here first_starts some_left to is_pair).right g.entered
        first_entered z = rw z at told

      pub first_says : (is_pair : v.kind ≡ Pair) {s'' s₃ : S} (e : EnteredNow T s'' g.first (pair_here first_starts some_left to is_pair).left (pair_here first_starts some_left to is_pair).right g.entered) {r : Result (Bool × ℕ) Stopped} → SaysAs T s₃ e.entered (walk bs g.first) (n + 1) left r → SaysAs T s₃ g.entered g.first (n + 1) left r
      first_says is_pair e says = record { entered = says.entered; holds = says.holds; same = λ i vs m. entered_walked T e i vs left ∙ says.same i vs m }

    module _ {v : Walked} (to : WalkedTo ws s x v) where
      pub first_walked : Follows ws s bs v.at (walk bs g.first)
      first_walked = record { binds = g.first_follows.binds; stands = to.stands bs g.first g.first_follows }

      pub first_falls : {w₀ : ℕ} → Follows ws s bs w₀ t → followed_size ws s v.at < followed_size ws s w₀
      first_falls f = omega (arith, g.first_smaller, size_walk bs g.first_follows.binds.good g.first, reach_size first_walked, reach_size f)
