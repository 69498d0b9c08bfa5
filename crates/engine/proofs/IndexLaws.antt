-- The index: its entries lead to answers.
use Prim.Native.Nat.{ℕ, ◌+◌, ◌-◌, ◌*◌, ◌%◌, ◌<◌, ◌≤◌}
use mathlib.Core.Path.{◌≡◌, refl, sym, ap, subst, ◌∙◌}
use mathlib.Core.Bool.{Bool, true, false}
use mathlib.Core.List.{List, [], ◌∷◌, ◌++◌}
use mathlib.Core.Logic.{⊎_elim}
use native.Mathlib.Nat.{mul-lt-mul_of_pos_right}
use native.Mathlib.Omega.{arith}
use lib.Dec.{eqb}
use lib.ListN.{length, drop, length-set, set}
use lib.Seq.{get_or-set_same, get_or-set_other}
use borrow.Author.Tests.{eqb-false}
use Rattle.rules.specs.Inner.{Spells}
use Rattle.semantics.specs.Answer.{any_same}
use Rattle.semantics.proofs.Basics.{clash, Compared, same, other, compared, by_choose}
use Rattle.engine.specs.Reference.{at}
use Rattle.engine.specs.Index.{hash_from, home, next_slot, Leads, here, further, AnswerAt, Index, Standing, Seeking, EnteredAs}
use Rattle.engine.specs.declared.repeats.index.Entered.{Entered}
use Rattle.engine.specs.declared.repeats.index.Entered.TheVariants as entered
use Rattle.engine.proofs.TermLaws.{untouched}
use Rattle.engine.proofs.SameLaws.{whole_one, EarlierAnswer, answer_stands, same_at, at_same, at_more, at_last, at_one_more}

next_less : (size slot : ℕ) → slot < size → next_slot size slot < size
next_less size slot l = by_choose (λ x. x < size) (eqb (slot + 1) size) (λ _. 0) (λ _. slot + 1) (λ e. omega arith) (λ e. omega (arith, eqb-false (slot + 1) size e))

pub home_less : (size : ℕ) (w : List ℕ) → 0 < size → home size w < size
home_less size w l =
    let low : hash_from 0 (drop 1 w) % 4294967296 < 4294967296 = omega arith in
    let h : hash_from 0 (drop 1 w) % 4294967296 * size < 4294967296 * size = mul-lt-mul_of_pos_right low l in
    omega arith

-- entries that are not empty stay
abbrev pub Stays : List ℕ → List ℕ → ℕ → ℕ → Type 0
Stays o o' table size = (slot : ℕ) → slot < size → 0 < at o (table + slot) → at o' (table + slot) ≡ at o (table + slot)

pub leads_kept : {o o' : List ℕ} {table size slot place : ℕ} → Stays o o' table size → slot < size → Leads o table size slot place → Leads o' table size slot place
leads_kept {o} {o'} {table} {size} {slot} {place} k l (here e) = here (k slot l (omega arith) ∙ e)
leads_kept {o} {o'} {table} {size} {slot} {place} k l (further s n) = let q = k slot l s in further {slot = slot} (omega arith) (leads_kept k (next_less size slot l) n)

leads_none : {o : List ℕ} {table size slot place : ℕ} → at o (table + slot) ≡ 0 → Leads o table size slot place → ⊥
leads_none e (here q) = omega arith
leads_none e (further s n) = omega arith

-- a search under way: what is entered from this slot on is led to from the home slot, and answers with the words v are led to from this slot
pub record Sought (o : List ℕ) (table size slot : ℕ) (ws : List (List ℕ)) (v : List ℕ) : Type 0 where
  pub low : slot < size
  pub walked : (o' : List ℕ) (place : ℕ) → Stays o o' table size → Leads o' table size slot place → Leads o' table size (home size v) place
  pub left : (place : ℕ) → AnswerAt 0 ws place v → Leads o table size slot place

module _ {o : List ℕ} {start next table size : ℕ} {ws : List (List ℕ)} {v : List ℕ} (g : Seeking o start next table size ws v) where
  -- the answer is within the output
  pub seeking_inside : next ≤ length o
  seeking_inside = omega (arith, g.table_there.behind, g.table_there.room.inside)

  pub sought_start : {slot : ℕ} → slot ≡ home size v → Sought o table size slot ws v
  sought_start e = subst (λ s. Sought o table size s ws v) (sym e) (record { low = home_less size v g.table_there.some; walked = λ o' place k l. l; left = λ place a. g.index.leads place v a })

  module _ {slot : ℕ} (h : Sought o table size slot ws v) where
    -- an entry is that of an earlier answer
    module _ (s : ¬ (at o (table + slot) ≡ 0)) where
      entry_answer : (w : List ℕ) × EarlierAnswer o start (at o (table + slot) - 1) w × AnswerAt 0 ws (at o (table + slot) - 1) w
      entry_answer = let a = g.index.entries slot h.low (omega arith) in (a.0, answer_stands ws g.earlier a.1, a.1)

      pub entry_before : at o (table + slot) - 1 ≤ start
      entry_before = omega (arith, entry_answer.1.inside)

      -- its words are compared with v
      module _ {r : Bool} (c : Standing o (at o (table + slot) - 1) v r) where
        pub sought_next : r ≡ false → {slot' : ℕ} → slot' ≡ next_slot size slot → Sought o table size slot' ws v
        sought_next e q = subst (λ s. Sought o table size s ws v) (sym q) (record {
          low = next_less size slot h.low;
          walked = λ o' place k l. h.walked o' place k (let q = k slot h.low (omega arith) in further {slot = slot} (omega arith) l);
          left = λ place a. go place a (h.left place a);
        })
          where
            go : (place : ℕ) → AnswerAt 0 ws place v → Leads o table size slot place → Leads o table size (next_slot size slot) place
            go place a (here f) = let q : at o (table + slot) - 1 ≡ place = omega arith in absurd (c.no e (subst (λ p. Spells o p v) (sym q) (answer_stands ws g.earlier a).words))
            go place a (further z l) = l

        pub sought_found : r ≡ true → EnteredAs o o table size ws v entered.Repeated
        sought_found e =
            let a = entry_answer in
            let f : v ≡ a.0 = whole_one o (at o (table + slot) - 1) g.whole a.1.whole (c.yes e) a.1.words in
            record {
              repeated = λ _. (at_same v ws 0 (at o (table + slot) - 1) (subst (AnswerAt 0 ws (at o (table + slot) - 1)) (sym f) a.2), refl);
              new = λ q. clash (cc);
              touched = untouched o table (table + size);
            }

    -- an empty entry: no earlier answer has the words v, and the answer is entered there
    module _ (z : at o (table + slot) ≡ 0) where
      sought_none : any_same v ws ≡ false
      sought_none = go (any_same v ws) refl
        where
          go : (b : Bool) → any_same v ws ≡ b → any_same v ws ≡ false
          go false q = q
          go true q = let a = same_at v ws 0 q in absurd (leads_none z (h.left a.0 a.1))

      now_set : List ℕ
      now_set = set o (table + slot) (start + 1)

      set_here : at now_set (table + slot) ≡ start + 1
      unfolding now_set
      set_here = get_or-set_same o (table + slot) (start + 1) 0 (omega (arith, h.low, g.table_there.room.inside))

      set_other : (i : ℕ) → ¬ (i ≡ table + slot) → at now_set i ≡ at o i
      unfolding now_set
      set_other i n = get_or-set_other o (table + slot) i (start + 1) 0 n

      set_stays : Stays o now_set table size
      set_stays s l k = set_other (table + s) (λ q. omega (arith, k, ap (at o) q))

      index_set : Index now_set table size (ws ++ (v ∷ []))
      index_set = record {
        leads = λ place w a.
            ⊎_elim (λ b. leads_kept set_stays (home_less size w g.table_there.some) (g.index.leads place w b))
            (λ e. subst (λ x. Leads now_set table size (home size x) place) (sym e.1) (h.walked now_set place set_stays (here (set_here ∙ omega (arith, e.0, g.earlier.stretch.ends)))))
            (at_one_more ws v 0 place w a);
        entries = λ s l k. entry s l k (compared s slot);
      }
        where
          entry : (s : ℕ) → s < size → 0 < at now_set (table + s) → Compared s slot → (w : List ℕ) × AnswerAt 0 (ws ++ (v ∷ [])) (at now_set (table + s) - 1) w
          entry s l k (same e q) =
              let f : at now_set (table + s) ≡ start + 1 = ap (λ x. at now_set (table + x)) e ∙ set_here in
              (v, at_last ws v 0 (at now_set (table + s) - 1) (omega (arith, g.earlier.stretch.ends)))
          entry s l k (other n q) =
              let f : at now_set (table + s) ≡ at o (table + s) = set_other (table + s) (λ q. n (omega arith)) in
              let a = g.index.entries s l (omega arith) in
              (a.0, at_more ws v 0 (at now_set (table + s) - 1) a.0 (subst (λ x. AnswerAt 0 ws (x - 1) a.0) (sym f) a.1))

      pub sought_empty : EnteredAs o (set o (table + slot) (start + 1)) table size ws v entered.New
      unfolding now_set
      sought_empty = record {
        repeated = λ q. clash (cc);
        new = λ _. (sought_none, index_set);
        touched = record {
          below = λ i l. set_other i (λ q. omega arith);
          above = λ i l. set_other i (λ q. omega (arith, h.low));
          long = length-set o (table + slot) (start + 1);
        };
      }

pub entered_from : {o₀ o o' : List ℕ} {table size : ℕ} {ws : List (List ℕ)} {v : List ℕ} {r : Entered} → o ≡ o₀ → EnteredAs o o' table size ws v r → EnteredAs o₀ o' table size ws v r
entered_from {o₀} {o} {o'} {table} {size} {ws} {v} {r} e h = subst (λ x. EnteredAs x o' table size ws v r) e h
