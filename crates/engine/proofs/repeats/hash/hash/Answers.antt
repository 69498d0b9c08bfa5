-- `hash`: the words that are left, hashed from where it is, come to the hash of all.
use Prim.Native.Nat.{ℕ, ◌+◌, ◌*◌, ◌<◌, ◌≤◌}
use mathlib.Core.Path.{◌≡◌, refl, sym, ap, ◌∙◌}
use mathlib.Core.List.{List}
use native.Mathlib.Omega.{arith}
use native.Mathlib.Numerals.{add-one}
use lib.ListN.{length, get_or, drop, drop_of_length-le}
use lib.Seq.{drop-cons}
use Rattle.engine.specs.Index.{fold_halves, hash_from}
use Rattle.engine.proofs.repeats.hash.hash.Goals as goal

one_more : (hash : ℕ) (words : List ℕ) (i : ℕ) → i < length words → hash_from (fold_halves ((hash + get_or words i 0) * 708568507)) (drop (i + 1) words) ≡ hash_from hash (drop i words)
unfolding hash_from
one_more hash words i l = rw (add-one, drop-cons words i 0) refl

none_left : (hash : ℕ) (words : List ℕ) (i : ℕ) → length words ≤ i → hash ≡ hash_from hash (drop i words)
unfolding hash_from
none_left hash words i l = ap (hash_from hash) (sym (drop_of_length-le words l))

pub loop-word-preserved : goal.loop-word-preserved
loop-word-preserved c = let l = c.loop-word in (omega (arith, c.type_inv.words l.word-index), one_more l.hash c.args.words.now l.word-index c.loop-word-test.true ∙ l.invariant.1)

pub returns : goal.returns
returns c = let l = c.loop-word in none_left l.hash c.args.words.now l.word-index c.loop-word-test.false ∙ l.invariant.1
