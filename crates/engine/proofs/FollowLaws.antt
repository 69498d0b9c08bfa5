-- A reference followed: its shape is that of the resolved term, and its parts resolve to the term's parts.
use Prim.Native.Nat.{ℕ, ◌+◌, ◌<◌, ◌≤◌}
use mathlib.Core.Path.{◌≡◌, refl, sym, ap, subst, ◌∙◌}
use mathlib.Core.List.{List}
use native.Mathlib.Omega.{arith}
use lib.ListN.{length}
use Rattle.rules.specs.Syntax.{Atom, symbol, number, empty, Term, var, atom, pair}
use Rattle.rules.specs.Written.{atom_word}
use Rattle.semantics.specs.Substitution.{Substitution, resolve, walk}
use Rattle.semantics.proofs.SubstitutionLaws.{Seen, walk_seen}
use Rattle.engine.specs.Layout.{references}
use Rattle.engine.specs.Reference.{at, base_of, AtomIs, Stands}
use Rattle.engine.specs.Walk.{PartRead, Follows, Resolves, Shaped}
use Rattle.engine.specs.declared.terms.walk.Shape.TheVariants.{Open, Atom as Leaf, Pair}
use Rattle.engine.proofs.ReferenceLaws.{atom_low, parts}
use Rattle.engine.proofs.FrameLaws.{bindings_same}
use Rattle.engine.proofs.TrailLaws.{fresh_few}

-- what `walk` tells of the reference that it gives
abbrev pub Walked : List ℕ → List ℕ → ℕ → ℕ → Type 0
Walked ws s w v = (bs : Substitution) (t : Term) → Follows ws s bs w t → Stands ws v (walk bs t)

atom_bits : (v : ℕ) (a : Atom) → AtomIs v a → v ≡ atom_word a
atom_bits v (symbol p) h = omega (arith, h.0, h.1)
atom_bits v (number p) h = omega (arith, h.0, h.1)
atom_bits v empty h = omega (arith, h.0, h.1)

module _ {ws s : List ℕ} {w v : ℕ} {r : Term} (h : Resolves ws s w r) (told : Walked ws s w v) where
  there : Stands ws v (walk h.bindings h.term)
  there = told h.bindings h.term h.follows

  pub walked_below : v < references
  walked_below = there.below

  seen : Seen h.bindings r (walk h.bindings h.term)
  seen = subst (λ q. Seen h.bindings q (walk h.bindings h.term)) h.is (walk_seen h.bindings h.follows.binds.good h.term)

  module _ {bits k p : ℕ} (node : PartRead ws v bits k p) where
    follow_open : (y : ℕ) → y ≡ base_of v + p → k ≡ 0 → (u : Term) → Stands ws v u → Seen h.bindings r u → Shaped ws s (Open y) r
    unfolding Shaped
    follow_open y i e (var x) st q = let z : y ≡ x = i ∙ ap (λ n. base_of v + n) node.is_payload ∙ st.reads.1 in (q.1 ∙ ap var (sym z), rw z st.in_range)
    follow_open y i e (atom a) st q = absurd (omega (arith, node.is_kind, (atom_low _ a st.reads.0).0))
    follow_open y i e (pair a b) st q = absurd (omega (arith, node.is_kind, st.reads.0))

    pub shaped_open : {y : ℕ} → y ≡ base_of v + p → k ≡ 0 → Shaped ws s (Open y) r
    shaped_open i e = follow_open _ i e _ there seen

    follow_pair : k ≡ 4 → (u : Term) → Stands ws v u → Seen h.bindings r u → Shaped ws s (Pair (v + 1) (v + 1 + p)) r
    unfolding Shaped
    follow_pair e (var x) st q = absurd (omega (arith, node.is_kind, st.reads.0))
    follow_pair e (atom a) st q = absurd (omega (arith, node.is_kind, (atom_low _ a st.reads.0).1))
    follow_pair e (pair a b) st q =
        let d = parts ws v a b st in
        let f : Stands ws (v + 1 + p) b = rw node.is_payload d.second in (
          resolve h.bindings a,
          resolve h.bindings b,
          q,
          record { bindings = h.bindings; term = a; follows = record { binds = h.follows.binds; stands = d.first }; is = refl },
          record { bindings = h.bindings; term = b; follows = record { binds = h.follows.binds; stands = f }; is = refl },
        )

    pub shaped_pair : k ≡ 4 → Shaped ws s (Pair (v + 1) (v + 1 + p)) r
    shaped_pair e = follow_pair e _ there seen

    follow_leaf : ¬ (k ≡ 0) → ¬ (k ≡ 4) → (u : Term) → Stands ws v u → Seen h.bindings r u → Shaped ws s (Leaf bits) r
    unfolding Shaped
    follow_leaf n m (var x) st q = absurd (n (node.is_kind ∙ st.reads.0))
    follow_leaf n m (atom a) st q = (a, q, node.is_bits ∙ atom_bits _ a st.reads.0)
    follow_leaf n m (pair a b) st q = absurd (m (node.is_kind ∙ st.reads.0))

    pub shaped_leaf : ¬ (k ≡ 0) → ¬ (k ≡ 4) → Shaped ws s (Leaf bits) r
    shaped_leaf n m = follow_leaf n m _ there seen

-- what a reference resolves to is kept where bindings and trail are
pub resolves_same : {ws s s' : List ℕ} {w : ℕ} {r : Term} → ((i : ℕ) → i < 4096 → at s' i ≡ at s i) → length s' ≡ length s → Resolves ws s w r → Resolves ws s' w r
resolves_same {ws} {s} {s'} e l h =
    let b = h.follows.binds in
    let few : length h.bindings ≤ 2048 = fresh_few h.bindings b.bindings_in.fresh in
    record {
      bindings = h.bindings;
      term = h.term;
      follows = record {
        binds = record {
          short = b.short;
          long = omega (arith, b.long);
          bindings_in = bindings_same ws s s' h.bindings (λ i lo hi. e i (omega arith)) (λ i lo hi. e i (omega arith)) b.bindings_in;
          good = b.good;
        };
        stands = h.follows.stands;
      };
      is = h.is;
    }
