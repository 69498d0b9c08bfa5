-- An index made of all answers: the table is cleared, and they are entered one after the other.
use Prim.Native.Nat.{ℕ, ◌+◌, ◌<◌, ◌≤◌}
use mathlib.Core.Path.{◌≡◌, refl, sym, ap, subst, ◌∙◌}
use mathlib.Core.Bool.{Bool, true, false, false≢true}
use mathlib.Core.List.{List, [], ◌∷◌, ◌++◌, append_assoc, append-nil}
use native.Mathlib.Omega.{arith}
use lib.ListN.{length, length-append}
use Rattle.word.specs.Word.{payload}
use Rattle.rules.specs.Lists.{joined}
use Rattle.rules.specs.Inner.{Spells}
use Rattle.rules.proofs.Spelled.{stands_at as Spells_at, stands_append as spells_append}
use Rattle.semantics.proofs.Basics.{joined_more}
use Rattle.engine.specs.Reference.{at}
use Rattle.engine.specs.Term.{Touched}
use Rattle.engine.specs.Lines.{Whole, Wholes, Stretch, Rows}
use Rattle.engine.specs.Run.{cleared}
use Rattle.engine.specs.Index.{AnswerAt, Index, Table, Seeking, EnteredAs, BuiltAs}
use Rattle.engine.specs.declared.repeats.index.Entered.{Entered}
use Rattle.engine.specs.declared.repeats.index.Entered.TheVariants as entered
use Rattle.engine.proofs.TermLaws.{untouched, touched_twice, spells_same, room_same}
use Rattle.engine.proofs.ClearLaws.{cleared_zero, cleared_touched}
use Rattle.engine.proofs.RowLaws.{wholes_snoc, FirstRow, rows_first, rows_end, header_counts}

-- answers stay where nothing is touched, and there is one more behind them
pub rows_kept : {o o' : List ℕ} {first to : ℕ} {ws : List (List ℕ)} → ((i : ℕ) → i < to → at o' i ≡ at o i) → Rows o first to ws → Rows o' first to ws
rows_kept {o} {o'} {first} {to} {ws} k h =
    record { stretch = record { words = spells_same o o' first (joined ws) (λ i p q. k i (omega (arith, h.stretch.ends))) h.stretch.words; ends = h.stretch.ends }; whole = h.whole }

pub rows_more : {o : List ℕ} {first place to : ℕ} {ws : List (List ℕ)} {v : List ℕ} → Rows o first place ws → Stretch o place to v → Whole v → Rows o first to (ws ++ (v ∷ []))
rows_more {o} {first} {place} {to} {ws} {v} h s k =
    let e : joined (ws ++ (v ∷ [])) ≡ joined ws ++ v = joined_more ws v in
    record {
      stretch = record {
        words = subst (Spells o first) (sym e) (spells_append o first (joined ws) v h.stretch.words (Spells_at o place (first + length (joined ws)) v h.stretch.ends s.words));
        ends = omega (arith, s.ends, h.stretch.ends, ap length e, length-append (joined ws) v);
      };
      whole = wholes_snoc ws v h.whole k;
    }

-- the answers that are entered, and those that are left
pub record Building (o₀ o : List ℕ) (place used table size : ℕ) (ws : List (List ℕ)) : Type 0 where
  pub done : List (List ℕ)
  pub rest : List (List ℕ)
  pub all : done ++ rest ≡ ws
  pub before : Rows o 0 place done
  pub later : Rows o place used rest
  pub index : Index o table size done
  pub touched : Touched o₀ o table (table + size)

-- what is left after the table is cleared
pub record Emptied (o o₀ : List ℕ) (used table size : ℕ) : Type 0 where
  pub there : Table o₀ used table size
  pub rows : (ws : List (List ℕ)) → Rows o 0 used ws → Rows o₀ 0 used ws
  pub start : (ws : List (List ℕ)) → Rows o₀ 0 used ws → Building o₀ o₀ 0 used table size ws
  pub touched : Touched o o₀ table (table + size)

pub emptied : {o o₀ : List ℕ} {used table size : ℕ} → Table o used table size → o₀ ≡ cleared o table (table + size) → Emptied o o₀ used table size
unfolding Spells Wholes AnswerAt
emptied {o} {o₀} {used} {table} {size} t e = subst (λ x. Emptied o x used table size) (sym e) (record {
  there = record { behind = t.behind; some = t.some; room = room_same c.long t.room };
  rows = λ ws h. rows_kept (λ i l. c.below i (omega (arith, t.behind))) h;
  start = λ ws h. record {
    done = [];
    rest = ws;
    all = refl;
    before = record { stretch = record { words = tt; ends = refl }; whole = tt };
    later = h;
    index = record { leads = λ place w a. absurd a; entries = λ slot l k. absurd (omega (arith, cleared_zero o table (table + size) (omega arith) t.room.inside (table + slot) (omega arith) (omega arith))) };
    touched = untouched (cleared o table (table + size)) table (table + size);
  };
  touched = c;
})
  where
    c : Touched o (cleared o table (table + size)) table (table + size)
    c = cleared_touched o table (table + size) (omega arith) t.room.inside

pub built_from : {o o₀ o' : List ℕ} {used table size : ℕ} {ws : List (List ℕ)} {r : Bool} → Emptied o o₀ used table size → BuiltAs o₀ o' table size ws r → BuiltAs o o' table size ws r
built_from e h = record {
  yes = h.yes;
  touched = touched_twice e.touched h.touched;
}

module _ {o₀ o : List ℕ} {place used table size : ℕ} {ws : List (List ℕ)} (g : Building o₀ o place used table size ws) where
  -- all are entered
  pub building_end : used ≤ place → BuiltAs o₀ o table size ws true
  building_end l =
      let e : g.done ≡ ws = sym (append-nil g.done) ∙ ap (λ x. g.done ++ x) (sym (rows_end g.rest g.later l)) ∙ g.all in
      record { yes = λ _. subst (Index o table size) e g.index; touched = g.touched }

  -- the next of them
  module _ (l : place < used) where
    pub first : FirstRow o place used g.rest
    first = rows_first g.rest g.later l

    module _ {bits words : ℕ} (is_bits : bits ≡ at o place) (is_words : words ≡ payload bits) where
      pub ends : place + 1 + words ≡ place + length first.one
      ends = let e : words ≡ payload (at o place) = is_words ∙ ap payload is_bits in omega (arith, header_counts first.here first.whole)

      pub inside : place + 1 + words ≤ used
      inside = omega (arith, ends, first.later.stretch.ends)

      next_here : Stretch o place (place + 1 + words) first.one
      next_here = record { words = first.here.words; ends = ends }

      pub building_seek : Table o₀ used table size → Seeking o place (place + 1 + words) table size g.done first.one
      building_seek t = record {
        earlier = g.before;
        words = next_here;
        whole = first.whole;
        table_there = record { behind = omega (arith, inside, t.behind); some = t.some; room = room_same g.touched.long t.room };
        index = g.index;
      }

      module _ {o' : List ℕ} {r : Entered} (t : Table o₀ used table size) (h : EnteredAs o o' table size g.done first.one r) where
        touched_now : Touched o₀ o' table (table + size)
        touched_now = touched_twice g.touched h.touched

        pub building_not : BuiltAs o₀ o' table size ws false
        building_not = record { yes = λ q. absurd (false≢true q); touched = touched_now }

        pub building_next : r ≡ entered.New → Building o₀ o' (place + 1 + words) used table size ws
        building_next e = record {
          done = g.done ++ (first.one ∷ []);
          rest = first.rest;
          all = append_assoc g.done (first.one ∷ []) first.rest ∙ ap (λ x. g.done ++ x) (sym first.is) ∙ g.all;
          before = rows_kept (λ i k. h.touched.below i (omega (arith, inside, t.behind))) (rows_more g.before next_here first.whole);
          later = rows_kept (λ i k. h.touched.below i (omega (arith, t.behind))) (subst (λ p. Rows o p used first.rest) (sym ends) first.later);
          index = (h.new e).1;
          touched = touched_now;
        }
