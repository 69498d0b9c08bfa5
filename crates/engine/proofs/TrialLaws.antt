-- A trial's equations kept: halves of words, and one binding after the other taken back.
use Prim.Native.Nat.{ℕ, ◌+◌, ◌*◌, ◌%◌, ◌/◌, ◌-◌, ◌<◌, ◌≤◌}
use mathlib.Core.Path.{◌≡◌, refl, sym, ap, subst, ◌∙◌}
use mathlib.Core.List.{List, [], ◌∷◌, ◌++◌, reverse, reverse_aux}
use native.Mathlib.Omega.{arith}
use lib.ListN.{length, set, length-set, length-append}
use lib.Seq.{get_or-set_same, get_or-set_other}
use borrow.Author.Tests.{eq-eqb}
use Rattle.rules.specs.Syntax.{Term}
use Rattle.rules.specs.Settings.{scratch_words}
use Rattle.semantics.specs.Substitution.{Substitution}
use Rattle.semantics.proofs.Basics.{compared, same, other}
use Rattle.semantics.proofs.SubstitutionLaws.{lookup_same}
use Rattle.engine.specs.Reference.{at, Stands}
use Rattle.engine.specs.Memory.{BoundTo, Entry, BindingsIn}
use Rattle.engine.specs.Trail.{Trailed, Apart}
use Rattle.engine.specs.Line.{half}
use Rattle.engine.specs.Trial.{HalfSet, EquationsKept, AllKept}
use Rattle.engine.proofs.FrameLaws.{bindings_same}
use Rattle.engine.proofs.TrailLaws.{fresh_few, unbind_in, apart_same, apart_trans}
use Rattle.engine.proofs.LineLaws.{half_low, half_high}

-- one half of a word
half_same : (s s' : List ℕ) (j : ℕ) → at s' (10752 + j / 2) ≡ at s (10752 + j / 2) → half s' j ≡ half s j
unfolding half
half_same s s' j e = rw e refl

module _ {s : List ℕ} {i x : ℕ} (long : scratch_words ≤ length s) (l : i < 2048) (low : x < 2048) where
  module _ (v : ℕ) (fine : (j : ℕ) → j / 2 ≡ i / 2 → ¬ (j ≡ i) → half (set s (10752 + i / 2) v) j ≡ half s j) (is : half (set s (10752 + i / 2) v) i ≡ x) where
    half_made : HalfSet s (set s (10752 + i / 2) v) i x
    half_made = record {
      here = is;
      other = λ j n. elim (compared (j / 2) (i / 2)) [
        | same p e ↦ fine j p n
        | other m e ↦ half_same s (set s (10752 + i / 2) v) j (get_or-set_other s (10752 + i / 2) (10752 + j / 2) v 0 (λ q. m (omega arith)))
      ];
      below = λ k h. get_or-set_other s (10752 + i / 2) k v 0 (λ q. omega arith);
      above = λ k h. get_or-set_other s (10752 + i / 2) k v 0 (λ q. omega arith);
      long = length-set s (10752 + i / 2) v;
    }

  pub half_even : i % 2 ≡ 0 → HalfSet s (set s (10752 + i / 2) (at s (10752 + i / 2) / 65536 * 65536 + x)) i x
  half_even e =
      let v : ℕ = at s (10752 + i / 2) / 65536 * 65536 + x in
      let s' : List ℕ = set s (10752 + i / 2) v in
      let w : at s' (10752 + i / 2) ≡ v = get_or-set_same s (10752 + i / 2) v 0 (omega arith) in
      half_made v
      (λ j p n.
      let o : ¬ (j % 2 ≡ 0) = λ z. n (omega arith) in
      let q : at s' (10752 + j / 2) ≡ v = rw p w in
      let y : at s (10752 + j / 2) ≡ at s (10752 + i / 2) = rw p refl in
      let d : v / 65536 ≡ at s (10752 + i / 2) / 65536 = omega arith in
      sym (half_high s' j o) ∙ ap (λ k. k / 65536) q ∙ d ∙ ap (λ k. k / 65536) (sym y) ∙ half_high s j o)
      (let d : v % 65536 ≡ x = omega arith in sym (half_low s' i e) ∙ ap (λ k. k % 65536) w ∙ d)

  pub half_odd : ¬ (i % 2 ≡ 0) → HalfSet s (set s (10752 + i / 2) (at s (10752 + i / 2) % 65536 + 65536 * x)) i x
  half_odd e =
      let v : ℕ = at s (10752 + i / 2) % 65536 + 65536 * x in
      let s' : List ℕ = set s (10752 + i / 2) v in
      let w : at s' (10752 + i / 2) ≡ v = get_or-set_same s (10752 + i / 2) v 0 (omega arith) in
      half_made v
      (λ j p n.
      let o : j % 2 ≡ 0 = omega arith in
      let q : at s' (10752 + j / 2) ≡ v = rw p w in
      let y : at s (10752 + j / 2) ≡ at s (10752 + i / 2) = rw p refl in
      let d : v % 65536 ≡ at s (10752 + i / 2) % 65536 = omega arith in
      sym (half_low s' j o) ∙ ap (λ k. k % 65536) q ∙ d ∙ ap (λ k. k % 65536) (sym y) ∙ half_low s j o)
      (let d : v / 65536 ≡ x = omega arith in sym (half_high s' i e) ∙ ap (λ k. k / 65536) w ∙ d)

-- one binding after the other
kept_same : (ws s s' : List ℕ) (mark i : ℕ) (cs : List (ℕ × Term)) → ((j : ℕ) → i ≤ j → j < i + length cs → half s' j ≡ half s j) → ((j : ℕ) → i ≤ j → j < i + length cs → at s' (2048 + mark + j) ≡ at s (2048 + mark + j))
    → EquationsKept ws s mark i cs → EquationsKept ws s' mark i cs
unfolding EquationsKept
kept_same ws s s' mark i [] e f h = tt
kept_same ws s s' mark i (b ∷ cs) e f h = (
  record { variable = e i (omega arith) (omega arith) ∙ h.0.variable; low = h.0.low; right = subst (λ w. Stands ws w b.1) (sym (f i (omega arith) (omega arith))) h.0.right },
  kept_same ws s s' mark (i + 1) cs (λ j l m. e j (omega arith) (omega arith)) (λ j l m. f j (omega arith) (omega arith)) h.1,
)

pub record Keeping (ws s₀ s : List ℕ) (new bs : Substitution) (mark top : ℕ) : Type 0 where
  pub rest : Substitution
  pub later : List (ℕ × Term)
  pub whole : reverse_aux rest later ≡ reverse new
  pub bindings_in : BindingsIn ws s (rest ++ bs)
  pub mark_is : mark ≡ length bs
  pub top_is : top ≡ length (rest ++ bs)
  pub few : top + length later ≤ 2048
  pub kept : EquationsKept ws s mark (top - mark) later
  pub long : scratch_words ≤ length s
  pub apart : Apart s₀ s

pub keeping_start : {ws s : List ℕ} {new bs : Substitution} {mark trail : ℕ} → Trailed ws s new bs mark trail → Keeping ws s s new bs mark trail
unfolding EquationsKept
keeping_start {ws} {s} {new} {bs} h = record {
  rest = new;
  later = [];
  whole = refl;
  bindings_in = h.bindings_in;
  mark_is = h.mark_is;
  top_is = h.trail_is;
  few = omega (arith, h.trail_is, fresh_few (new ++ bs) h.bindings_in.fresh);
  kept = tt;
  long = h.long;
  apart = apart_same s;
}

pub keeping_end : {ws s₀ s : List ℕ} {new bs : Substitution} {mark top : ℕ} → Keeping ws s₀ s new bs mark top → top ≤ mark → AllKept ws s₀ s new bs mark
keeping_end {ws} {s₀} {s} {new} {bs} {mark} {top} g l = go g.rest g.whole g.bindings_in g.top_is
  where
    go : (rest : Substitution) → reverse_aux rest g.later ≡ reverse new → BindingsIn ws s (rest ++ bs) → top ≡ length (rest ++ bs) → AllKept ws s₀ s new bs mark
    go [] w h t = let z : top - mark ≡ 0 = omega arith in record { bindings_in = h; kept = subst (EquationsKept ws s mark 0) w (subst (λ i. EquationsKept ws s mark i g.later) z g.kept); apart = g.apart }
    go (b ∷ rest) w h t = absurd (omega (arith, g.mark_is, length-append rest bs))

-- the newest binding
pub record Newest (ws s₀ s : List ℕ) (new bs : Substitution) (mark top : ℕ) : Type 0 where
  pub one : ℕ × Term
  pub rest : Substitution
  pub later : List (ℕ × Term)
  pub whole : reverse_aux rest (one ∷ later) ≡ reverse new
  pub held : BindingsIn ws s (one ∷ (rest ++ bs))
  pub variable : at s (2048 + (top - 1)) ≡ one.0
  pub low : one.0 < 2048
  pub some : 1 ≤ at s one.0
  pub right : Stands ws (at s one.0 - 1) one.1
  pub mark_is : mark ≡ length bs
  pub top_is : top - 1 ≡ length (rest ++ bs)
  pub above : mark ≤ top - 1
  pub few : top + length later ≤ 2048
  pub kept : EquationsKept ws s mark (top - mark) later
  pub long : scratch_words ≤ length s
  pub apart : Apart s₀ s

pub newest : {ws s₀ s : List ℕ} {new bs : Substitution} {mark top : ℕ} → Keeping ws s₀ s new bs mark top → mark < top → Newest ws s₀ s new bs mark top
newest {ws} {s₀} {s} {new} {bs} {mark} {top} g l = go g.rest g.whole g.bindings_in g.top_is
  where
    go : (rest : Substitution) → reverse_aux rest g.later ≡ reverse new → BindingsIn ws s (rest ++ bs) → top ≡ length (rest ++ bs) → Newest ws s₀ s new bs mark top
    go [] w h t = absurd (omega (arith, g.mark_is))
    go (b ∷ rest) w h t =
        let n : top - 1 ≡ length (rest ++ bs) = omega arith in
        let e : BoundTo ws (at s b.0) b.1 = subst (Entry ws (at s b.0)) (lookup_same b.0 b.1 (rest ++ bs) b.0 (eq-eqb b.0 b.0 refl)) (h.words b.0 h.fresh.0) in
        record {
          one = b;
          rest = rest;
          later = g.later;
          whole = w;
          held = h;
          variable = ap (λ k. at s (2048 + k)) n ∙ h.trail.0;
          low = h.fresh.0;
          some = e.some_word;
          right = e.stands;
          mark_is = g.mark_is;
          top_is = n;
          above = omega arith;
          few = g.few;
          kept = g.kept;
          long = g.long;
          apart = g.apart;
        }

-- its right side takes its place on the trail, its word is opened, its variable kept
module _ {ws s₀ s : List ℕ} {new bs : Substitution} {mark top : ℕ} (g : Newest ws s₀ s new bs mark top) where
  pub newest_low : at s (2048 + (top - 1)) < 2048
  newest_low = omega (arith, g.variable, g.low)

  pub newest_some : 1 ≤ at s (at s (2048 + (top - 1)))
  newest_some = subst (λ x. 1 ≤ at s x) (sym g.variable) g.some

  taken : {s₃ : List ℕ} (x : ℕ) → x ≡ g.one.0 → mark < top → HalfSet (set (set s (2048 + (top - 1)) (at s x - 1)) x 0) s₃ (top - 1 - mark) x → Keeping ws s₀ s₃ new bs mark (top - 1)
  unfolding EquationsKept
  taken {s₃} x q l h =
      let lowx : x < 2048 = omega (arith, q, g.low) in
      let n : top ≤ 2048 = omega (arith, g.few) in
      let s₁ : List ℕ = set s (2048 + (top - 1)) (at s x - 1) in
      let s₂ : List ℕ = set s₁ x 0 in
      let i : ℕ = top - 1 - mark in
      let up : (k : ℕ) → 4096 ≤ k → at s₂ k ≡ at s k = λ k m. get_or-set_other s₁ x k 0 0 (λ z. omega arith) ∙ get_or-set_other s (2048 + (top - 1)) k (at s x - 1) 0 (λ z. omega arith) in
      let mid : (k : ℕ) → k < 10752 → ¬ (k ≡ 2048 + (top - 1)) → ¬ (k ≡ x) → at s₃ k ≡ at s k = λ k m z y. h.below k m ∙ get_or-set_other s₁ x k 0 0 y ∙ get_or-set_other s (2048 + (top - 1)) k (at s x - 1) 0 z in
      let opened : (k : ℕ) → k < 2048 + (top - 1) → at s₃ k ≡ at (set s x 0) k = λ k m. elim (compared k x) [
        | same p e ↦ rw p (h.below x (omega arith) ∙ get_or-set_same s₁ x 0 0 (omega (arith, g.long, length-set s (2048 + (top - 1)) (at s x - 1))) ∙ sym (get_or-set_same s x 0 0 (omega (arith, g.long))))
        | other d e ↦ mid k (omega arith) (λ z. omega arith) d ∙ sym (get_or-set_other s x k 0 0 d)
      ] in
      let right : at s₃ (2048 + mark + i) ≡ at s g.one.0 - 1 =
      let p : 2048 + mark + i ≡ 2048 + (top - 1) = omega (arith, g.above) in
      rw p (h.below (2048 + (top - 1)) (omega arith) ∙ get_or-set_other s₁ x (2048 + (top - 1)) 0 0 (λ z. omega arith) ∙ get_or-set_same s (2048 + (top - 1)) (at s x - 1) 0 (omega (arith, g.long)) ∙ ap (λ y. at s y - 1) q) in
      let j₀ : top - mark ≡ i + 1 = omega (arith, g.above) in
      record {
        rest = g.rest;
        later = g.one ∷ g.later;
        whole = g.whole;
        bindings_in = bindings_same ws (set s x 0) s₃ (g.rest ++ bs) (λ k a b. opened k (omega arith)) (λ k a b. opened k (omega (arith, g.top_is)))
            (subst (λ y. BindingsIn ws (set s y 0) (g.rest ++ bs)) (sym q) (unbind_in ws s g.one (g.rest ++ bs) (omega (arith, g.long)) g.held));
        mark_is = g.mark_is;
        top_is = g.top_is;
        few = omega (arith, g.few);
        kept = (
          record { variable = h.here ∙ q; low = g.low; right = subst (λ w. Stands ws w g.one.1) (sym right) g.right },
          kept_same ws s s₃ mark (i + 1) g.later
              (λ j a b. h.other j (λ z. omega arith) ∙ half_same s s₂ j (up (10752 + j / 2) (omega arith)))
              (λ j a b. mid (2048 + mark + j) (omega (arith, g.few, g.above)) (λ z. omega (arith, g.above)) (λ z. omega arith))
              (subst (λ k. EquationsKept ws s mark k g.later) j₀ g.kept),
        );
        long = omega (arith, h.long, length-set s₁ x 0, length-set s (2048 + (top - 1)) (at s x - 1), g.long);
        apart = apart_trans g.apart (record {
          long = h.long ∙ length-set s₁ x 0 ∙ length-set s (2048 + (top - 1)) (at s x - 1);
          middle = λ k a b. h.below k b ∙ up k a;
          above = λ k a. h.above k a ∙ up k (omega arith);
        });
      }

  pub newest_taken : {s₃ : List ℕ} → mark < top → HalfSet (set (set s (2048 + (top - 1)) (at s (at s (2048 + (top - 1))) - 1)) (at s (2048 + (top - 1))) 0) s₃ (top - 1 - mark) (at s (2048 + (top - 1))) → Keeping ws s₀ s₃ new bs mark (top - 1)
  newest_taken l h = taken (at s (2048 + (top - 1))) g.variable l h
