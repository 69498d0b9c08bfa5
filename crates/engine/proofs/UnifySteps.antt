-- One pair of unification, in the shape of the code's tests.
use Prim.Native.Nat.{ℕ, suc, ◌+◌, ◌-◌, ◌≤◌, ◌<◌}
use mathlib.Core.Path.{◌≡◌, refl, sym, ap, ap₂, subst, ◌∙◌}
use mathlib.Core.Option.{some}
use mathlib.Core.Bool.{Bool, true, false}
use mathlib.Core.List.{List, [], ◌∷◌}
use native.Mathlib.Omega.{arith}
use lib.Dec.{ltb}
use lib.ListN.{length, set, length-set}
use lib.Seq.{get_or-set_other}
use borrow.Author.Tests.{eq-eqb, ne_eqb}
use Rattle.std.specs.Prelude.{Result, Ok, Err}
use Rattle.word.specs.Kind.{kind_number}
use Rattle.word.specs.declared.kind.Kind.{Kind}
use Rattle.word.specs.declared.kind.Kind.TheVariants.{Variable, Pair}
use Rattle.word.proofs.KindLaws.{kind_number_other}
use Rattle.rules.specs.Reading.{choose}
use Rattle.rules.specs.Syntax.{Atom, Term, var, atom, pair}
use Rattle.rules.specs.Settings.{scratch_words}
use Rattle.semantics.specs.Substitution.{Substitution, walk}
use Rattle.semantics.specs.Steps.{waiting, at_bound, done, stop}
use Rattle.semantics.specs.Unify.{occurs_check, bind, Looked, fails, agrees, binds, parts, look, Pairs, unify_pair, unify}
use Rattle.semantics.specs.Invariant.{Fits}
use Rattle.semantics.proofs.OccursLaws.{occurs_spent}
use Rattle.semantics.proofs.SubstitutionLaws.{walk_followed}
use Rattle.semantics.proofs.UnifyLaws.{LookRight, look_ok, bind_ok}
use Rattle.semantics.proofs.UnifyLaws as laws
use Rattle.engine.specs.Layout.{references}
use Rattle.engine.specs.Reference.{AtomIs, base_of, Stands}
use Rattle.engine.specs.Memory.{trail_at, BindingsIn, bound}
use Rattle.engine.specs.Walk.{PartRead, IsNode, Follows, WalkedTo}
use Rattle.engine.specs.Occurs.{OccursAs}
use Rattle.engine.specs.Unify.{BindsTo, PartsTo, LookedAs, TwoTerms, PairGoes, PairUnifiedAs}
use Rattle.engine.specs.Steps.{outcome, stops}
use Rattle.engine.specs.declared.steps.Stopped.{Stopped}
use Rattle.engine.specs.declared.terms.walk.Walked.{Walked}
use Rattle.engine.specs.declared.terms.unify.Looked as code
use Rattle.engine.specs.declared.terms.unify.Looked.TheVariants as looked
use Rattle.engine.specs.declared.terms.unify.PairUnified.TheVariants as paired
use Rattle.engine.proofs.ReferenceLaws.{atom_low, atom_test}
use Rattle.engine.proofs.TrailLaws.{fresh_room, bind_in}
use Rattle.engine.proofs.ScanSteps.{open_at, atom_at, pair_at}

-- Two followed terms, by the kinds of their words

-- a variable is bound to what is none
binds_left : {ws : List ℕ} {b bits p : ℕ} {k : Kind} → PartRead ws b bits (kind_number k) p → ¬ (k ≡ Variable) → (x : ℕ) (v : Term) → Stands ws b v → look (var x) v ≡ binds x v
binds_left {k = k} node n x (var y) h = absurd (kind_number_other k Variable n (node.is_kind ∙ h.reads.0))
binds_left node n x (atom c) h = refl
binds_left node n x (pair c d) h = refl

binds_right : {ws : List ℕ} {a bits p : ℕ} {k : Kind} → PartRead ws a bits (kind_number k) p → ¬ (k ≡ Variable) → (y : ℕ) (u : Term) → Stands ws a u → look u (var y) ≡ binds y u
binds_right {k = k} node n y (var x) h = absurd (kind_number_other k Variable n (node.is_kind ∙ h.reads.0))
binds_right node n y (atom c) h = refl
binds_right node n y (pair c d) h = refl

module _ {ws : List ℕ} {a bits p b bits' p' : ℕ} {k k' : Kind} (left : PartRead ws a bits (kind_number k) p) (right : PartRead ws b bits' (kind_number k') p') (u v : Term) (su : Stands ws a u) (sv : Stands ws b v) where
  pub look_left : {x : ℕ} → x ≡ base_of a + p → k ≡ Variable → ¬ (k' ≡ Variable) → LookedAs ws (look u v) (looked.Binds x b)
  unfolding LookedAs
  look_left i e n = let o = open_at left u su (ap kind_number e) in record {
    term = v;
    is = ap (λ z. look z v) o.is ∙ binds_left right n o.number v sv ∙ ap (λ z. binds z v) (sym (i ∙ o.number_is));
    low = rw (i, o.number_is) o.low;
    stands = sv;
  }

  pub look_right : {y : ℕ} → y ≡ base_of b + p' → ¬ (k ≡ Variable) → k' ≡ Variable → LookedAs ws (look u v) (looked.Binds y a)
  unfolding LookedAs
  look_right j n e = let o = open_at right v sv (ap kind_number e) in record {
    term = u;
    is = ap (look u) o.is ∙ binds_right left n o.number u su ∙ ap (λ z. binds z u) (sym (j ∙ o.number_is));
    low = rw (j, o.number_is) o.low;
    stands = su;
  }

  pub look_same : {x y : ℕ} → x ≡ base_of a + p → y ≡ base_of b + p' → k ≡ Variable → k' ≡ Variable → y ≡ x → LookedAs ws (look u v) looked.Agrees
  unfolding LookedAs
  look_same i j e f z =
      let o = open_at left u su (ap kind_number e) in let q = open_at right v sv (ap kind_number f) in
      ap₂ look o.is q.is ∙ rw (eq-eqb o.number q.number (sym (i ∙ o.number_is) ∙ sym z ∙ j ∙ q.number_is))

  pub look_other : {x y : ℕ} → x ≡ base_of a + p → y ≡ base_of b + p' → k ≡ Variable → k' ≡ Variable → ¬ (y ≡ x) → LookedAs ws (look u v) (looked.Binds x b)
  unfolding LookedAs
  look_other i j e f z = let o = open_at left u su (ap kind_number e) in let q = open_at right v sv (ap kind_number f) in record {
    term = v;
    is = ap₂ look o.is q.is ∙ rw (ne_eqb o.number q.number (λ y. z (j ∙ q.number_is ∙ sym y ∙ sym (i ∙ o.number_is)))) (ap₂ binds (sym (i ∙ o.number_is)) (sym q.is));
    low = rw (i, o.number_is) o.low;
    stands = sv;
  }

  pub look_parts : k ≡ Pair → k' ≡ Pair → LookedAs ws (look u v) (looked.Parts (a + 1) (a + 1 + p) (b + 1) (b + 1 + p'))
  unfolding LookedAs
  look_parts e f = let o = pair_at left u su (ap kind_number e) in let q = pair_at right v sv (ap kind_number f) in record {
    first = o.left;
    second = o.right;
    third = q.left;
    fourth = q.right;
    is = ap₂ look o.is q.is;
    stands_first = o.first;
    stands_second = o.second;
    stands_third = q.first;
    stands_fourth = q.second;
  }

  pub look_pair : k ≡ Pair → ¬ (k' ≡ Variable) → ¬ (k' ≡ Pair) → LookedAs ws (look u v) looked.Fails
  unfolding LookedAs
  look_pair e n m = let o = pair_at left u su (ap kind_number e) in let q = atom_at right v sv (kind_number_other k' Variable n) (kind_number_other k' Pair m) in ap₂ look o.is q.is

  -- an atom and a word that is no variable's: they are the same atom if the words are
  pub look_words : ¬ (k ≡ Variable) → ¬ (k ≡ Pair) → ¬ (k' ≡ Variable) → ¬ (bits ≡ bits') → LookedAs ws (look u v) looked.Fails
  unfolding LookedAs
  look_words n m n' z = let o = atom_at left u su (kind_number_other k Variable n) (kind_number_other k Pair m) in ap (λ y. look y v) o.is ∙ go o.which o.word_is v sv
    where
      go : (c : Atom) → AtomIs bits c → (v : Term) → Stands ws b v → look (atom c) v ≡ fails
      go c i (var y) h = absurd (kind_number_other k' Variable n' (right.is_kind ∙ h.reads.0))
      go c i (atom d) h = rw (atom_test bits bits' c d i (rw right.is_bits h.reads.0) ∙ ne_eqb bits bits' z)
      go c i (pair d e) h = refl

  pub look_equal : ¬ (k ≡ Variable) → ¬ (k ≡ Pair) → ¬ (k' ≡ Variable) → bits ≡ bits' → LookedAs ws (look u v) looked.Agrees
  unfolding LookedAs
  look_equal n m n' z = let o = atom_at left u su (kind_number_other k Variable n) (kind_number_other k Pair m) in ap (λ y. look y v) o.is ∙ go o.which o.word_is v sv
    where
      go : (c : Atom) → AtomIs bits c → (v : Term) → Stands ws b v → look (atom c) v ≡ agrees
      go c i (var y) h = absurd (kind_number_other k' Variable n' (right.is_kind ∙ h.reads.0))
      go c i (atom d) h = rw (atom_test bits bits' c d i (rw right.is_bits h.reads.0) ∙ eq-eqb bits bits' z)
      go c i (pair d e) h = let l = atom_low bits c i in absurd (omega (arith, l.1, h.reads.0, right.is_bits))

-- One pair unified

module _ {ws s : List ℕ} {bs : Substitution} {a : ℕ} {u : Term} {b : ℕ} {v : Term} {trail steps : ℕ} (some_left : 0 < steps) (m : TwoTerms ws s bs a u b v trail) where
  one_follows : Follows ws s bs a u
  one_follows = record { binds = m.held; stands = m.first }

  other_follows : Follows ws s bs b v
  other_follows = record { binds = m.held; stands = m.second }

  one_more : steps ≡ suc (steps - 1)
  one_more = omega arith

  look_gives : (o : Looked) → look (walk bs u) (walk bs v) ≡ o → (fuel : ℕ) (vs : Pairs) → unify (suc fuel) bs vs u v steps ≡ unify_pair o bs vs (steps - 1) (λ bs' us x y l. unify fuel bs' us x y l)
  look_gives o e fuel vs = ap (unify (suc fuel) bs vs u v) one_more ∙ rw e

  -- its two terms are followed, and looked at
  module _ {node other : Walked} (walked : WalkedTo ws s a node) (walked_other : WalkedTo ws s b other) where
    pub record Ready : Type 0 where
      pub node_left : IsNode ws node
      pub node_right : IsNode ws other
      pub stands_left : Stands ws node.at (walk bs u)
      pub stands_right : Stands ws other.at (walk bs v)

    pub look_ready : Ready
    look_ready = record { node_left = walked.node; node_right = walked_other.node; stands_left = walked.stands bs u one_follows; stands_right = walked_other.stands bs v other_follows }

    abbrev pub Looks : code.Looked → Type 0
    Looks r = (ws : List ℕ) (u v : Term) → IsNode ws node → IsNode ws other → Stands ws node.at u → Stands ws other.at v → LookedAs ws (look u v) r

    told : (r : code.Looked) → Looks r → LookedAs ws (look (walk bs u) (walk bs v)) r
    told r looks = looks ws (walk bs u) (walk bs v) look_ready.node_left look_ready.node_right look_ready.stands_left look_ready.stands_right

    pub pair_fails : Looks looked.Fails → PairUnifiedAs ws s s bs u v steps (Ok (paired.Fails (steps - 1)))
    unfolding LookedAs PairUnifiedAs
    pair_fails looks = record { untouched = refl; same = look_gives fails (told looked.Fails looks) }

    pub pair_agrees : Looks looked.Agrees → PairUnifiedAs ws s s bs u v steps (Ok (paired.Goes trail (steps - 1)))
    unfolding LookedAs PairUnifiedAs
    pair_agrees looks = record { next = bs; new = []; grows = refl; held = m.held; trail_is = m.trail_is; long = refl; above = λ i lo. refl; fewer = omega arith; same = look_gives agrees (told looked.Agrees looks) }

    pub pair_parts : (c d e f : ℕ) → Looks (looked.Parts c d e f) → PairUnifiedAs ws s s bs u v steps (Ok (paired.Parts c d e f))
    unfolding LookedAs PairUnifiedAs
    pair_parts c d e f looks =
        let q : PartsTo ws (look (walk bs u) (walk bs v)) c d e f = told (looked.Parts c d e f) looks in
        record {
          untouched = refl;
          first = q.first;
          second = q.second;
          third = q.third;
          fourth = q.fourth;
          stands_first = q.stands_first;
          stands_second = q.stands_second;
          stands_third = q.stands_third;
          stands_fourth = q.stands_fourth;
          same = λ fuel vs. look_gives (parts q.first q.second q.third q.fourth) q.is fuel vs
              ∙ ap (λ z. choose (ltb (length vs) 512) (λ _. unify fuel bs ((q.second, q.fourth) ∷ vs) q.first q.third (steps - 1)) (λ _. stop (at_bound waiting) z)) (sym one_more);
        }

    -- a variable is to be bound, after its occurs check
    module _ (x w : ℕ) (looks : Looks (looked.Binds x w)) where
      pub bound_term : BindsTo ws (look (walk bs u) (walk bs v)) x w
      unfolding LookedAs
      bound_term = told (looked.Binds x w) looks

      pub bound_follows : Follows ws s bs w bound_term.term
      bound_follows = record { binds = m.held; stands = bound_term.stands }

      opens : laws.Binds 0 bs (walk bs u) (walk bs v) x bound_term.term
      opens = subst (LookRight 0 bs (walk bs u) (walk bs v)) bound_term.is (look_ok 0 bs (walk bs u) (walk bs v) (walk_followed bs m.held.good u) (walk_followed bs m.held.good v))

      pub bound_room : (scratch_words ≤ length s) × (x < 2048) × (trail < 2048) × (w < references)
      bound_room = (m.held.long, bound_term.low, omega (arith, m.trail_is, fresh_room bs x bound_term.term m.held.bindings_in.fresh bound_term.low opens.opens), bound_term.stands.below)

      -- what the occurs check said
      abbrev pub Checks : Result (Bool × ℕ) Stopped → Type 0
      Checks r = (bs : Substitution) (t : Term) → Follows ws s bs w t → OccursAs x bs t (steps - 1) r

      checked : (r : Result (Bool × ℕ) Stopped) → Checks r → occurs_check x bs [] [] bound_term.term (steps - 1) ≡ outcome r
      checked r checks = checks bs bound_term.term bound_follows

      pub pair_stops : (st : Stopped) → Checks (Err st) → PairUnifiedAs ws s s bs u v steps (Err st)
      unfolding PairUnifiedAs
      pair_stops st checks =
          let e : occurs_check x bs [] [] bound_term.term (steps - 1) ≡ stops st = checked (Err st) checks in
          record { untouched = refl; same = λ fuel vs. look_gives (binds x bound_term.term) bound_term.is fuel vs ∙ rw e }

      module _ (found : Bool) (rest : ℕ) (checks : Checks (Ok (found, rest))) where
        pub pair_occurs : found ≡ true → PairUnifiedAs ws s s bs u v steps (Ok (paired.Fails rest))
        unfolding PairUnifiedAs
        pair_occurs y =
            let e : occurs_check x bs [] [] bound_term.term (steps - 1) ≡ done true rest = rw y at (checked (Ok (found, rest)) checks) in
            record { untouched = refl; same = λ fuel vs. look_gives (binds x bound_term.term) bound_term.is fuel vs ∙ rw e }

        pub pair_binds : {n : ℕ} {s' : List ℕ} → found ≡ false → n ≡ trail + 1 → s' ≡ bound s x w trail → PairUnifiedAs ws s s' bs u v steps (Ok (paired.Goes n rest))
        unfolding PairUnifiedAs
        pair_binds {n} {s'} y n-is s-is =
            let t : Term = bound_term.term in
            let e : occurs_check x bs [] [] t (steps - 1) ≡ done false rest = rw y at (checked (Ok (found, rest)) checks) in
            let is : bind bs x t (steps - 1) ≡ done (some ((x, t) ∷ bs)) rest = rw e in
            let spent : rest ≤ steps - 1 = rw e at (occurs_spent x bs (steps - 1) [] [] t) in
            let fits : Fits bs x t = (bind_ok 0 bs m.held.good (walk bs u) (walk bs v) x t opens (steps - 1) (some ((x, t) ∷ bs)) rest is).1 in
            let room : trail < 2048 = bound_room.2 in
            let lt : x < 2048 = bound_term.low in
            let trail_is : trail ≡ length bs = m.trail_is in
            let b₁ : BindingsIn ws (bound s x w trail) ((x, t) ∷ bs) = subst (λ k. BindingsIn ws (bound s x w k) ((x, t) ∷ bs)) (sym trail_is) (bind_in ws s bs x w t (omega (arith, m.held.long)) lt opens.opens bound_term.stands m.held.bindings_in) in
            subst (λ z. PairGoes ws s z bs u v steps n rest) (sym s-is) (record {
              next = (x, t) ∷ bs;
              new = (x, t) ∷ [];
              grows = refl;
              held = record { short = m.held.short; long = simp length-set m.held.long; bindings_in = b₁; good = (m.held.good, fits) };
              trail_is = omega arith;
              long = simp length-set;
              above = λ i lo. get_or-set_other (set s x (w + 1)) (trail_at trail) i x 0 (omega arith) ∙ get_or-set_other s x i (w + 1) 0 (omega arith);
              fewer = omega arith;
              same = λ fuel vs. look_gives (binds x t) bound_term.is fuel vs ∙ rw e;
            })
