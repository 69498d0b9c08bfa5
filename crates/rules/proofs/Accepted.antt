-- Reading and writing agree: a list of words is read as a program exactly when it is the written form of it, the program is well formed, and the count is in bounds.
use mathlib.Core.Path.{◌≡◌, refl, sym, ap}
use mathlib.Core.Logic.{◌↔◌}
use mathlib.Core.Bool.{◌&&◌}
use mathlib.Core.List.{List, [], ◌∷◌}
use Prim.Native.Nat.{ℕ, ◌+◌, ◌*◌, ◌≤◌}
use native.Mathlib.Omega.{arith}
use lib.Dec.{leb}
use lib.ListN.{length}
use borrow.Author.Tests.{leb-true, le-leb}
use Rattle.rules.specs.Syntax.{Relation, Program}
use Rattle.rules.specs.Written.{written}
use Rattle.rules.specs.Reading.{Reading, found, refuse, read_relations, read_structure}
use Rattle.rules.specs.Calls.{Fault, sound, fault, relations_fault}
use Rattle.rules.specs.WellFormed.{WellFormed, RelationsGood, WrittenForm}
use Rattle.rules.specs.Accept.{accepted, refused, judge, calls_read, read}
use Rattle.rules.proofs.Combine.{require_found, and_true}
use Rattle.rules.specs.Inner.{Spells}
use Rattle.rules.specs.Settings.{most_words}
use Rattle.rules.proofs.Spelled.{stands_self, stands_whole}
use Rattle.rules.proofs.Sound.{relations_sound}
use Rattle.rules.proofs.Complete.{relations_complete}
use Rattle.rules.proofs.CallLaws.{relations_calls, calls_relations}

not_accepted : {C : Type 0} (P : Program) (c p : ℕ) → refused c p ≡ accepted P → C
not_accepted P c p e = cc

judged : (Q P : Program) (f : Fault) → judge Q f ≡ accepted P → (Q ≡ P) × (f ≡ sound)
judged Q P sound e = (cc, refl)
judged Q P (fault c p) e = not_accepted P c p e

calls_judged : (r : Reading Program) (P : Program) → calls_read r ≡ accepted P → (n : ℕ) × (r ≡ found P n) × (relations_fault P P 0 ≡ sound)
calls_judged (found Q n) P e =
    let j = judged Q P (relations_fault Q Q 0) e in
    (n, ap (λ P. found P n) j.0, rw j.0 at j.1)
calls_judged (refuse c p) P e = not_accepted P c p e

-- what a reading of conditions 1 to 6 has passed
pub structure_written : (ws : List ℕ) (P : Program) (n : ℕ) → read_structure ws ≡ found P n
    → (ws ≡ written P) × (RelationsGood P × (length P ≤ 256)) × (1 ≤ length ws) × (length ws ≤ most_words)
structure_written ws P n e =
    let q = require_found (leb 1 (length ws) && leb (length ws) most_words) 1 0 _ P n e in
    let b = and_true (leb 1 (length ws)) (leb (length ws) most_words) q.0 in
    let f = relations_sound (2 * length ws + 4) ws 0 0 P n (omega arith) (omega arith) q.1 in
    let l : length ws ≡ length (written P) = omega (arith, f.0.to, f.0.within, f.1) in
    (stands_whole ws (written P) f.0.stands l, (f.0.good.0, omega (arith, f.0.good.1)), leb-true _ _ b.0, leb-true _ _ b.1)

pub read_is_written : (ws : List ℕ) (P : Program) → read ws ≡ accepted P → WrittenForm ws P
unfolding read
read_is_written ws P e =
    let j = calls_judged (read_structure ws) P e in
    let s = structure_written ws P j.0 j.1 in
    record {
      is_written = s.0;
      well_formed = record { few = s.1.1; relations = s.1.0; calls = relations_calls P P 0 j.2 };
      some_words = s.2;
      few_words = s.3;
    }

pub written_is_read : (ws : List ℕ) (P : Program) → WrittenForm ws P → read ws ≡ accepted P
unfolding read
written_is_read ws P w =
    let l : length ws ≡ length (written P) = ap length w.is_written in
    let s : Spells ws 0 (written P) = rw (sym w.is_written) (stands_self ws) in
    let f : read_relations (2 * length ws + 4) ws 0 0 ≡ found P (length ws) =
    relations_complete (2 * length ws + 4) ws 0 0 P w.well_formed.relations s (omega (arith, w.well_formed.few)) (omega arith) w.few_words (omega arith) in
    simp (le-leb 1 (length ws) w.some_words, le-leb (length ws) most_words w.few_words, f, calls_relations P P 0 w.well_formed.calls)

-- a list of words is read as P exactly when it is the written form of P
pub reading_agrees : (ws : List ℕ) (P : Program) → (read ws ≡ accepted P) ↔ WrittenForm ws P
reading_agrees ws P = (read_is_written ws P, written_is_read ws P)

pub accepted_well_formed : (ws : List ℕ) (P : Program) → read ws ≡ accepted P → WellFormed P
accepted_well_formed ws P e = (read_is_written ws P e).well_formed

pub accepted_written : (ws : List ℕ) (P : Program) → read ws ≡ accepted P → ws ≡ written P
accepted_written ws P e = (read_is_written ws P e).is_written

-- a written form has one reading
pub one_reading : (ws : List ℕ) (P Q : Program) → WrittenForm ws P → WrittenForm ws Q → P ≡ Q
one_reading ws P Q p q =
    let x : read ws ≡ accepted P = written_is_read ws P p in
    let y : read ws ≡ accepted Q = written_is_read ws Q q in
    cc

-- an accepted program has a query: relation 0 is there
query : (ws : List ℕ) (P : Program) → WrittenForm ws P → (R : Relation) × (Rs : Program) × (P ≡ R ∷ Rs)
unfolding written
query ws [] w = absurd (omega (arith, ap length w.is_written, w.some_words))
query ws (R ∷ Rs) w = (R, Rs, refl)

pub accepted_query : (ws : List ℕ) (P : Program) → read ws ≡ accepted P → (R : Relation) × (Rs : Program) × (P ≡ R ∷ Rs)
accepted_query ws P e = query ws P (read_is_written ws P e)
