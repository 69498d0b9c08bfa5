-- The tag's place (document 02, Note 3): what stands there and is neither a symbol nor a number is refused by 2, and what is no number is read as it was.
use Prim.Native.Nat.{ℕ, suc, ◌+◌, ◌-◌, ◌<◌, ◌≤◌}
use mathlib.Core.Path.{◌≡◌, refl}
use mathlib.Core.Bool.{Bool, true, false}
use mathlib.Core.List.{List}
use native.Mathlib.Omega.{arith}
use lib.Dec.{eqb, ltb}
use borrow.Author.Tests.{lt-ltb, le-leb, ne_eqb}
use Rattle.rules.specs.Earlier.{read_tag_before_3}
use Rattle.rules.specs.Reading.{refuse, kind_at, payload_at, after, read_word, read_tag, read_absento, read_goal}

-- "Condition 2 at the tag's place then refuses everything else."
pub tag_refused : (ws : List ℕ) (at end : ℕ) → at < end → ¬ (kind_at ws at ≡ 1) → ¬ (kind_at ws at ≡ 2) → read_tag ws at end ≡ refuse 2 at
unfolding read_tag read_word
tag_refused ws at end l n₁ n₂ = simp (ne_eqb (kind_at ws at) 1 n₁, lt-ltb at end l, ne_eqb (kind_at ws at) 2 n₂)

-- So with every absento, wherever it stands and in whatever relation: a variable over the count is no 5 there, and an empty list with a payload or a pair that overruns no 3.
pub absento_refused : (words : ℕ) (ws : List ℕ) (vars at end : ℕ) → kind_at ws at ≡ 9 → 1 ≤ payload_at ws at → after ws at ≤ end
    → ¬ (kind_at ws (at + 1) ≡ 1) → ¬ (kind_at ws (at + 1) ≡ 2) → read_goal (suc words) ws vars at end ≡ refuse 2 (at + 1)
unfolding read_goal read_absento
absento_refused words ws vars at end k s l n₁ n₂ =
    simp (lt-ltb at end (omega arith), k, le-leb (payload_at ws at) (end - (at + 1)) (omega arith), tag_refused ws (at + 1) (after ws at) (omega arith) n₁ n₂)

-- A word in the tag's place that is no number is read, or refused, as before the note; no other place is read otherwise.
pub tag_stayed : (ws : List ℕ) (at end : ℕ) → ¬ (kind_at ws at ≡ 2) → read_tag ws at end ≡ read_tag_before_3 ws at end
unfolding read_tag read_word
tag_stayed ws at end n = go (eqb (kind_at ws at) 1) refl (ltb at end) refl
  where
    go : (b : Bool) → eqb (kind_at ws at) 1 ≡ b → (d : Bool) → ltb at end ≡ d → read_tag ws at end ≡ read_tag_before_3 ws at end
    go true k d l = rw k
    go false k true l = simp (k, l, ne_eqb (kind_at ws at) 2 n)
    go false k false l = simp (k, l)
