-- The table of relations: filled from relation to relation, and read.
use Prim.Native.Nat.{ℕ, zero, suc, ◌+◌, ◌≤◌, ◌<◌}
use mathlib.Core.Path.{◌≡◌, refl, sym, ap, subst, ◌∙◌}
use mathlib.Core.Option.{some-injective, some}
use mathlib.Core.List.{List, [], ◌∷◌, ◌++◌}
use native.Mathlib.Omega.{arith}
use lib.ListN.{length, set, get_elem?, length-set, length-append}
use lib.Seq.{get_or-set_same, get_or-set_other}
use Rattle.rules.specs.Syntax.{Relation, Program}
use Rattle.rules.specs.Written.{relation_words, written}
use Rattle.rules.specs.WellFormed.{RelationsGood}
use Rattle.rules.specs.Inner.{PartAt, RelationsAt}
use Rattle.rules.proofs.Pass.{relations_split, relations_some, relations_none, lookup_none}
use Rattle.semantics.proofs.Basics.{clash, compared, same, other}
use Rattle.engine.specs.Layout.{positions}
use Rattle.engine.specs.Reference.{at, pos_of, RelationAt}
use Rattle.engine.specs.Memory.{table_at, TableIn}
use Rattle.engine.specs.Walk.{PartRead}
use Rattle.engine.specs.Trail.{Same}
use Rattle.engine.specs.Take.{RelationIs}
use Rattle.rules.specs.Settings.{most_words, scratch_words}
use Rattle.engine.proofs.ReadLaws.{Written, written_here, relation_at}

-- the first of written relations
first_at : (ws : List ℕ) (pos : ℕ) (R : Relation) (Rs : List Relation) → RelationsAt ws pos (R ∷ Rs) → RelationAt ws pos R
unfolding written RelationsGood
first_at ws pos R Rs h =
    let z : length (relation_words R ++ written Rs) ≡ length (relation_words R) + length (written Rs) = length-append (relation_words R) (written Rs) in
    let w : Written ws pos (relation_words R ++ written Rs) = record { stands = h.stands; few = omega (arith, h.to, h.short) } in
    relation_at ws pos R h.good.0 (written_here ws pos _ (relation_words R) (written Rs) w refl).0 (omega (arith, h.to)) h.short

-- Under way: the relations from number r on are left, at a place; those before are in the table.
pub record Filling (ws s₀ s : List ℕ) (P : Program) (pos r : ℕ) : Type 0 where
  pub rest : List Relation
  pub there : RelationsAt ws pos rest
  pub left_are : (k : ℕ) → get_elem? rest k ≡ get_elem? P (r + k)
  pub count : r + length rest ≡ length P
  pub filled : (k : ℕ) (R : Relation) → k < r → get_elem? P k ≡ some R → RelationAt ws (at s (table_at k)) R
  pub few : length P ≤ 256
  pub long : length s ≡ length s₀
  pub long_enough : scratch_words ≤ length s₀
  pub low : Same s₀ s 0 11776

-- the place of a relation's word, as a reference
part_of : (ws : List ℕ) (pos b k p : ℕ) → pos < positions → PartRead ws pos b k p → PartAt ws pos k p
part_of ws pos b k p lt i = let e : pos_of pos ≡ pos = omega arith in record { is_kind = rw e at i.is_kind; is_size = rw e at i.is_payload }

pub fill_step : (ws s₀ s : List ℕ) (P : Program) (pos r b k p : ℕ) → Filling ws s₀ s P pos r → pos < length ws → PartRead ws pos b k p
    → Filling ws s₀ (set s (11776 + r) pos) P (pos + 1 + p) (r + 1) × (pos + 1 + p ≤ length ws)
fill_step ws s₀ s P pos r b k p f lt i = go f.rest f.there f.left_are f.count
  where
    short : length ws ≤ most_words
    short = f.there.short

    go : (Rs : List Relation) → RelationsAt ws pos Rs → ((j : ℕ) → get_elem? Rs j ≡ get_elem? P (r + j)) → r + length Rs ≡ length P
        → Filling ws s₀ (set s (11776 + r) pos) P (pos + 1 + p) (r + 1) × (pos + 1 + p ≤ length ws)
    go [] h l c = let q = relations_some ws pos [] h lt in let z : 0 ≡ suc (length q.1) = ap length q.2 in absurd (omega arith)
    go (R ∷ Rs) h l c =
        let a = relations_split ws pos k p R Rs h (part_of ws pos b k p (omega arith) i) in
        let few : r < 256 = omega (arith, c, f.few) in
        let long : scratch_words ≤ length s = omega (arith, f.long, f.long_enough) in
        let s' : List ℕ = set s (11776 + r) pos in (
          record {
            rest = Rs;
            there = a.rest;
            left_are = λ j. l (suc j) ∙ ap (get_elem? P) (omega arith);
            count = omega (arith, c);
            filled = λ j Q lj e. elim (compared j r) [
              | same q _ ↦
                  let z : r + 0 ≡ r = omega arith in
                  let is_R : some R ≡ some Q = l 0 ∙ ap (get_elem? P) (z ∙ sym q) ∙ e in
                  let here : at s' (table_at j) ≡ pos = ap (λ n. at s' (table_at n)) q ∙ get_or-set_same s (11776 + r) pos 0 (omega arith) in
                  rw here (subst (RelationAt ws pos) (some-injective R Q is_R) (first_at ws pos R Rs h))
              | other m _ ↦
                  let old : at s' (table_at j) ≡ at s (table_at j) = get_or-set_other s (11776 + r) (table_at j) pos 0 (λ q. m (omega (arith, q))) in
                  rw old (f.filled j Q (omega (arith, m)) e)
            ];
            few = f.few;
            long = length-set s (11776 + r) pos ∙ f.long;
            long_enough = f.long_enough;
            low = λ j lo hi. get_or-set_other s (11776 + r) j pos 0 (omega arith) ∙ f.low j lo hi;
          },
          omega (arith, a.rest.to),
        )

-- an element of a list has a number below its length
below_length : (P : Program) (k : ℕ) (R : Relation) → get_elem? P k ≡ some R → k < length P
below_length [] k R e = clash (let z = sym (lookup_none k) ∙ e in cc)
below_length (Q ∷ P) zero R e = omega arith
below_length (Q ∷ P) (suc k) R e = omega (arith, below_length P k R e)

pub fill_end : (ws s₀ s : List ℕ) (P : Program) (pos r : ℕ) → Filling ws s₀ s P pos r → length ws ≤ pos → TableIn ws s P
fill_end ws s₀ s P pos r f le =
    let none_left : length f.rest ≡ 0 = ap length (relations_none ws pos f.rest f.there le) in
    λ k R e. let lt : k < length P = below_length P k R e in (omega (arith, f.few), f.filled k R (omega (arith, f.count)) e)

-- a relation looked up
module _ (P : Program) (ws s : List ℕ) (n : ℕ) (R : Relation) (table : TableIn ws s P) (is_R : get_elem? P n ≡ some R) where
  -- its counts and its goal are in the program
  pub row_fits : (n < 256) × (at s (11776 + n) + 4 ≤ length ws) × (at s (11776 + n) + 4 ≤ most_words)
  row_fits = let h = table n R is_R in (h.0, omega (arith, h.1.inside), omega (arith, h.1.small))

  pub row_read : {b₁ k₁ p₁ b₂ k₂ p₂ : ℕ} → PartRead ws (at s (11776 + n) + 1) b₁ k₁ p₁ → PartRead ws (at s (11776 + n) + 2) b₂ k₂ p₂ → RelationIs ws p₁ p₂ (at s (11776 + n) + 3) R
  row_read i j =
      let h : RelationAt ws (at s (11776 + n)) R = (table n R is_R).1 in
      let e₁ : pos_of (at s (11776 + n) + 1) ≡ at s (11776 + n) + 1 = omega (arith, row_fits.2) in
      let e₂ : pos_of (at s (11776 + n) + 2) ≡ at s (11776 + n) + 2 = omega (arith, row_fits.2) in
      record { params_is = rw e₁ at i.is_payload ∙ h.params.1; vars_is = rw e₂ at j.is_payload ∙ h.vars.1; body_at = h.body; inside = h.inside; small = h.small }
