-- What `check` says, test by test, and that a refusal's place is small.
use mathlib.Core.Path.{◌≡◌, refl, sym, ap, ◌∙◌}
use mathlib.Core.Bool.{Bool, true, false}
use mathlib.Core.List.{List}
use Prim.Native.Nat.{ℕ, ◌+◌, ◌*◌, ◌<◌, ◌≤◌}
use native.Mathlib.Omega.{arith}
use lib.Dec.{leb}
use lib.ListN.{length}
use borrow.Author.Tests.{le-leb, lt-leb, leb-true, leb-false}
use Rattle.rules.specs.Syntax.{Program}
use Rattle.rules.specs.Written.{written}
use Rattle.rules.specs.Reading.{found, read_relations, read_structure}
use Rattle.rules.specs.Calls.{relations_fault}
use Rattle.rules.specs.Accept.{Accept, accepted, refused, judge, read}
use Rattle.rules.specs.Verdict.{no_said, said}
use Rattle.rules.specs.Inner.{ends, stops, Settles, RelationsAt}
use Rattle.rules.specs.Settings.{most_words}
use Rattle.rules.proofs.Combine.{ended, stopped}
use Rattle.rules.proofs.Spelled.{stands_self}
use Rattle.rules.proofs.Accepted.{structure_written}
use Rattle.rules.proofs.Places.{refusal_placed}

pub count_low : (ws : List ℕ) → length ws < 1 → read ws ≡ refused 1 0
unfolding read
count_low ws l = simp (lt-leb 1 (length ws) l)

pub count_high : (ws : List ℕ) → most_words < length ws → read ws ≡ refused 1 0
unfolding read
count_high ws l = simp (le-leb 1 (length ws) (omega arith), lt-leb (length ws) most_words l)

module _ (ws : List ℕ) (some : 1 ≤ length ws) (few : length ws ≤ most_words) where
  structure_is : read_structure ws ≡ read_relations (2 * length ws + 4) ws 0 0
  structure_is = simp (le-leb 1 (length ws) some, le-leb (length ws) most_words few)

  pub structure_stops : (c p : ℕ) → Settles (λ f. read_relations f ws 0 0) (2 * length ws + 2) (stops c p) → read ws ≡ refused c p
  unfolding read
  structure_stops c p h = rw (structure_is, stopped (read_relations (2 * length ws + 4) ws 0 0) c p (h (2 * length ws + 4) (omega arith)))

  pub structure_ends : (n : ℕ) → Settles (λ f. read_relations f ws 0 0) (2 * length ws + 2) (ends n) → (P : Program) × RelationsAt ws 0 P × (read ws ≡ judge P (relations_fault P P 0))
  unfolding read
  structure_ends n h =
      let q = ended (read_relations (2 * length ws + 4) ws 0 0) n (h (2 * length ws + 4) (omega arith)) in
      let e : read_structure ws ≡ found q.0 n = structure_is ∙ q.1 in
      let w = structure_written ws q.0 n e in
      let l : length ws ≡ length (written q.0) = ap length w.0 in
      (q.0, record { stands = rw (sym w.0) (stands_self ws); to = omega arith; good = w.1.0; short = few }, rw e)

-- what is said of a refusal, back to the reading
pub refused_said : (r : Accept) (c p : ℕ) → no_said c p ≡ said r → r ≡ refused c p
refused_said (accepted P) c p e = cc
refused_said (refused d q) c p e = let x : c ≡ d = cc in let y : p ≡ q = cc in rw (x, y) refl

-- the place of a refusal is at most the largest word count, so that it goes into 32 bits
pub place_small : (ws : List ℕ) (c p : ℕ) → no_said c p ≡ said (read ws) → (c ≤ 8) × (p ≤ most_words)
place_small ws c p e = go (leb (length ws) most_words) refl
  where
    r : read ws ≡ refused c p
    r = refused_said (read ws) c p e

    h : (c ≤ 8) × (p ≤ length ws)
    h = ((refusal_placed ws c p r).to_eight, (refusal_placed ws c p r).within)

    go : (t : Bool) → leb (length ws) most_words ≡ t → (c ≤ 8) × (p ≤ most_words)
    go true z = (h.0, omega (arith, h.1, leb-true (length ws) most_words z))
    go false z =
        let y : refused 1 0 ≡ refused c p = sym (count_high ws (leb-false (length ws) most_words z)) ∙ r in
        let x : ◌≡◌ {A = ℕ} 0 p = cc in
        (h.0, omega arith)
