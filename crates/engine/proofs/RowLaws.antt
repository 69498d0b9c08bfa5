-- Lines or answers that follow one another in the output, gone through one after the other.
use Prim.Native.Nat.{ℕ, ◌+◌, ◌<◌, ◌≤◌}
use mathlib.Core.Path.{◌≡◌, refl, sym, ap, ap₂, subst, ◌∙◌}
use mathlib.Core.Bool.{Bool, true, false, ◌||◌}
use mathlib.Core.List.{List, [], ◌∷◌, ◌++◌}
use native.Mathlib.Omega.{arith}
use lib.ListN.{length, length-append}
use Rattle.word.specs.Word.{payload, payload_word}
use Rattle.rules.specs.Lists.{joined}
use Rattle.rules.specs.Written.{part}
use Rattle.rules.specs.Inner.{Spells}
use Rattle.rules.proofs.Spelled.{stands_split as spells_split}
use Rattle.semantics.specs.Answer.{same_words, any_same}
use Rattle.engine.specs.Reference.{at}
use Rattle.engine.specs.Lines.{Whole, Wholes, Stretch, Rows}

pub spells_one : (o : List ℕ) (place : ℕ) (v w : List ℕ) → Spells o place v → Spells o place w → length v ≡ length w → v ≡ w
unfolding Spells
spells_one o place [] [] h i e = refl
spells_one o place [] (y ∷ w) h i e = absurd (omega arith)
spells_one o place (x ∷ v) [] h i e = absurd (omega arith)
spells_one o place (x ∷ v) (y ∷ w) h i e = ap₂ ◌∷◌ (sym h.0 ∙ i.0) (spells_one o (place + 1) v w h.1 i.1 (omega arith))

pub wholes_snoc : (ws : List (List ℕ)) (v : List ℕ) → Wholes ws → Whole v → Wholes (ws ++ (v ∷ []))
unfolding Wholes
wholes_snoc [] v h k = (k, tt)
wholes_snoc (w ∷ ws) v h k = (h.0, wholes_snoc ws v h.1 k)

-- the first of several lines or answers, and those behind it
pub record FirstRow (o : List ℕ) (first to : ℕ) (ws : List (List ℕ)) : Type 0 where
  pub one : List ℕ
  pub rest : List (List ℕ)
  pub is : ws ≡ one ∷ rest
  pub here : Stretch o first (first + length one) one
  pub whole : Whole one
  pub later : Rows o (first + length one) to rest

unfoldable pub rows_cons : {o : List ℕ} {first to : ℕ} (w : List ℕ) (ws : List (List ℕ)) → Rows o first to (w ∷ ws) → FirstRow o first to (w ∷ ws)
unfolding Wholes
rows_cons {o} {first} {to} w ws h =
    let d = spells_split o first w (joined ws) h.stretch.words in
    record {
      one = w;
      rest = ws;
      is = refl;
      here = record { words = d.0; ends = refl };
      whole = h.whole.0;
      later = record { stretch = record { words = d.1; ends = omega (arith, h.stretch.ends, length-append w (joined ws)) }; whole = h.whole.1 };
    }

pub rows_first : {o : List ℕ} {first to : ℕ} (ws : List (List ℕ)) → Rows o first to ws → first < to → FirstRow o first to ws
rows_first [] h l = absurd (omega (arith, h.stretch.ends))
rows_first (w ∷ ws) h l = rows_cons w ws h

pub rows_end : {o : List ℕ} {first to : ℕ} (ws : List (List ℕ)) → Rows o first to ws → to ≤ first → ws ≡ []
rows_end [] h l = refl
rows_end (w ∷ ws) h l = let n = rows_cons w ws h in absurd (omega (arith, n.later.stretch.ends, ap length n.whole.is))

-- its header tells where it ends
pub header_counts : {o : List ℕ} {first to : ℕ} {w : List ℕ} → Stretch o first to w → Whole w → length w ≡ 1 + payload (at o first)
unfolding Spells
header_counts {o} {first} {to} {w} h k =
    let f : Spells o first (part k.kind k.rest) = subst (Spells o first) k.is h.words in
    let n : payload (at o first) ≡ length k.rest = ap payload f.0 ∙ payload_word k.kind (length k.rest) k.short in
    omega (arith, ap length k.is)

-- earlier ones, one after the other
pub record Row (o : List ℕ) (place to : ℕ) (v : List ℕ) (goal : Bool) : Type 0 where
  pub rows : List (List ℕ)
  pub here : Rows o place to rows
  pub same : any_same v rows ≡ goal

pub record RowNext (o : List ℕ) (place to size : ℕ) (v : List ℕ) (goal : Bool) : Type 0 where
  pub one : List ℕ
  pub rest : List (List ℕ)
  pub here : Stretch o place (place + 1 + size) one
  pub whole : Whole one
  pub later : Rows o (place + 1 + size) to rest
  pub inside : place + 1 + size ≤ to
  pub same : (same_words v one || any_same v rest) ≡ goal

module _ {o : List ℕ} {place to : ℕ} {v : List ℕ} {goal : Bool} (g : Row o place to v goal) where
  pub row_next : {bits size : ℕ} → place < to → bits ≡ at o place → size ≡ payload bits → RowNext o place to size v goal
  row_next {bits} {size} l is_bits is_size =
      let n = rows_first g.rows g.here l in
      let e : place + length n.one ≡ place + 1 + size = omega (arith, header_counts n.here n.whole, is_size ∙ ap payload is_bits) in
      record {
        one = n.one;
        rest = n.rest;
        here = subst (λ p. Stretch o place p n.one) e n.here;
        whole = n.whole;
        later = subst (λ p. Rows o p to n.rest) e n.later;
        inside = omega (arith, e, n.later.stretch.ends);
        same = ap (any_same v) (sym n.is) ∙ g.same;
      }

  pub row_end : to ≤ place → false ≡ goal
  row_end l = ap (any_same v) (sym (rows_end g.rows g.here l)) ∙ g.same

module _ {o : List ℕ} {place to size : ℕ} {v : List ℕ} {goal r : Bool} (g : RowNext o place to size v goal) (f : r ≡ same_words v g.one) where
  pub row_found : r ≡ true → true ≡ goal
  row_found e = ap (λ b. b || any_same v g.rest) (sym e ∙ f) ∙ g.same

  pub row_on : r ≡ false → Row o (place + 1 + size) to v goal
  row_on e = record { rows = g.rest; here = g.later; same = ap (λ b. b || any_same v g.rest) (sym e ∙ f) ∙ g.same }

pub row_moved : {o o' : List ℕ} {place to : ℕ} {v : List ℕ} {goal : Bool} → o' ≡ o → Row o place to v goal → Row o' place to v goal
row_moved {o} {o'} {place} {to} {v} {goal} e g = subst (λ x. Row x place to v goal) (sym e) g
