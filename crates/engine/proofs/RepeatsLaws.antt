-- The index of a run's answers, and what is told of an answer.
use Prim.Native.Nat.{ℕ, ◌+◌, ◌-◌, ◌<◌, ◌≤◌}
use mathlib.Core.Path.{◌≡◌, sym, subst}
use mathlib.Core.Bool.{true, false}
use mathlib.Core.List.{List, [], ◌∷◌, ◌++◌}
use native.Mathlib.Omega.{arith}
use Rattle.semantics.specs.Answer.{any_same}
use Rattle.semantics.proofs.Basics.{clash}
use Rattle.engine.specs.Reference.{at}
use Rattle.engine.specs.Term.{Touched}
use Rattle.engine.specs.Index.{AnswerAt, Indexed, Comparing, ComparedAs, Seeking, EnteredAs, Fitting, FittedAs}
use Rattle.engine.specs.declared.repeats.index.Entered.{Entered}
use Rattle.engine.specs.declared.repeats.index.Entered.TheVariants as entered
use Rattle.engine.specs.declared.repeats.repeated.Compared.{Compared}
use Rattle.engine.specs.declared.repeats.repeated.Compared.TheVariants.{Repeated, New}
use Rattle.engine.proofs.TermLaws.{touched_wide, touched_twice, spells_same, room_same}
use Rattle.engine.proofs.IndexLaws.{leads_kept, home_less}
use Rattle.engine.proofs.BuildLaws.{rows_kept, rows_more}

-- no index
pub indexed_none : (o : List ℕ) (end : ℕ) (ws : List (List ℕ)) → Indexed o end 0 ws
indexed_none o end ws l = absurd (omega arith)

-- words written before the index leave it as it is
pub indexed_kept : {o o' : List ℕ} {end index : ℕ} {ws : List (List ℕ)} → ((i : ℕ) → end - index ≤ i → i < end → at o' i ≡ at o i) → index ≤ end → Indexed o end index ws → Indexed o' end index ws
indexed_kept {o} {o'} {end} {index} {ws} k l h s = record {
  leads = λ place w a. leads_kept (λ slot m _. there slot m) (home_less index w s) ((h s).leads place w a);
  entries = λ slot m p. let e = there slot m in let a = (h s).entries slot m (omega arith) in (a.0, subst (λ x. AnswerAt 0 ws (x - 1) a.0) (sym e) a.1);
}
  where
    there : (slot : ℕ) → slot < index → at o' (end - index + slot) ≡ at o (end - index + slot)
    there slot m = k (end - index + slot) (omega arith) (omega arith)

-- an answer is to be compared with earlier ones
module _ {o : List ℕ} {used next end index : ℕ} {ws : List (List ℕ)} {v : List ℕ} (g : Comparing o used next end index ws v) where
  start_low : used ≤ next
  start_low = omega (arith, g.words.ends)

  -- it repeats none, and the index is that of all of them
  pub compared_new : {o₁ o' : List ℕ} {index' : ℕ} → false ≡ any_same v ws → Touched o o₁ next end → FittedAs o₁ o' next end (ws ++ (v ∷ [])) index' → ComparedAs o o' used next end ws v (New index')
  compared_new {o₁} {o'} {index'} e t f = record {
    says = e;
    repeated = λ i q. clash (cc);
    new = λ i q. let z : index' ≡ i = cc in subst (λ x. (next + x ≤ end) × Indexed o' end x (ws ++ (v ∷ []))) z (f.fits, f.indexed);
    touched = touched_twice t f.touched;
  }

  -- it repeats one
  pub compared_repeated : {o' : List ℕ} {index' : ℕ} → true ≡ any_same v ws → used + index' ≤ end → Indexed o' end index' ws → Touched o o' next end → ComparedAs o o' used next end ws v (Repeated index')
  compared_repeated {o'} {index'} e l h t = record {
    says = e;
    repeated = λ i q. let z : index' ≡ i = cc in subst (λ x. (used + x ≤ end) × Indexed o' end x ws) z (l, h);
    new = λ i q. clash (cc);
    touched = t;
  }

  -- the answers with this one, behind which an index is fitted
  module _ {o₁ : List ℕ} (t : Touched o o₁ next end) where
    pub comparing_fits : {index' : ℕ} → next + index' ≤ end → Indexed o₁ end index' (ws ++ (v ∷ [])) → Fitting o₁ next end index' (ws ++ (v ∷ []))
    comparing_fits l h = record { answers = rows_kept t.below (rows_more g.earlier g.words g.whole); room = room_same t.long g.room; fits = l; indexed = h }

    -- compared without an index
    pub comparing_all : Comparing o₁ used next end 0 ws v
    comparing_all = record {
      earlier = rows_kept (λ i l. t.below i (omega (arith, start_low))) g.earlier;
      words = record { words = spells_same o o₁ used v (λ i p q. t.below i (omega (arith, g.words.ends))) g.words.words; ends = g.words.ends };
      whole = g.whole;
      fits = g.fits;
      room = room_same t.long g.room;
      indexed = λ _. indexed_none o₁ end ws;
    }

    pub compared_from : {o' : List ℕ} {r : Compared} → ComparedAs o₁ o' used next end ws v r → ComparedAs o o' used next end ws v r
    compared_from h = record {
      says = h.says;
      repeated = h.repeated;
      new = h.new;
      touched = touched_twice t h.touched;
    }

  -- it is sought in the index
  module _ (some : ¬ (index ≡ 0)) (room : index ≤ end - next) where
    pub comparing_seek : Seeking o used next (end - index) index ws v
    comparing_seek = record {
      earlier = g.earlier;
      words = g.words;
      whole = g.whole;
      table_there = record { behind = omega (arith, g.fits); some = omega arith; room = record { inside = omega (arith, g.fits, g.room.inside); short = omega (arith, g.fits, g.room.short) } };
      index = g.indexed (omega (arith, g.fits)) (omega arith);
    }

    module _ {o₁ : List ℕ} {r : Entered} (e : EnteredAs o o₁ (end - index) index ws v r) where
      pub entered_touched : Touched o o₁ next end
      entered_touched = touched_wide next end (omega (arith, g.fits)) (omega (arith, g.fits)) e.touched

      pub compared_found : r ≡ entered.Repeated → ComparedAs o o₁ used next end ws v (Repeated index)
      compared_found q =
          let h = e.repeated q in
          compared_repeated (sym h.0) (omega (arith, g.fits, start_low)) (subst (λ x. Indexed x end index ws) (sym h.1) (g.indexed (omega (arith, g.fits)))) entered_touched

      pub entered_fits : r ≡ entered.New → Fitting o₁ next end index (ws ++ (v ∷ []))
      entered_fits q = comparing_fits entered_touched (omega (arith, g.fits)) (λ _. (e.new q).1)

      pub compared_entered : {o' : List ℕ} {index' : ℕ} → r ≡ entered.New → FittedAs o₁ o' next end (ws ++ (v ∷ [])) index' → ComparedAs o o' used next end ws v (New index')
      compared_entered q f = compared_new (sym (e.new q).0) entered_touched f
