-- A stored path, as unification and reviews take it and give it back.
use Prim.Native.Nat.{ℕ, ◌≤◌}
use mathlib.Core.Path.{◌≡◌, refl, sym, ap, subst, ◌∙◌}
use mathlib.Core.Bool.{Bool}
use mathlib.Core.List.{List, [], ◌∷◌, ◌++◌, append_assoc, append-nil}
use native.Mathlib.Omega.{arith}
use lib.ListN.{length}
use Rattle.rules.specs.Syntax.{Term, Program}
use Rattle.semantics.specs.Substitution.{Substitution}
use Rattle.semantics.specs.Steps.{Outcome}
use Rattle.semantics.specs.Path.{Path, ChoicePoint, bound_to}
use Rattle.semantics.specs.Invariant.{Good}
use Rattle.engine.specs.Reference.{Stands}
use Rattle.engine.specs.Memory.{Registers, BindingsIn, PathIn, Grown, ChoicesIn, Stored}
use Rattle.engine.specs.Walk.{Binds}
use Rattle.engine.specs.Trail.{Apart}
use Rattle.engine.specs.Unify.{TwoTerms, Went}
use Rattle.engine.specs.Review.{ConstraintsHeld, ReviewedAs}
use Rattle.rules.specs.Settings.{most_words}
use Rattle.std.specs.Prelude.{Result}
use Rattle.engine.specs.declared.steps.Stopped.{Stopped}
use Rattle.engine.proofs.FrameLaws.{kept_same, path_same, choices_same, table_same, names_same}
use Rattle.engine.proofs.TrailLaws.{fresh_few}

pub grown_trans : {q p o : Path} → Grown q p → Grown p o → Grown q o
grown_trans {q} g h = record {
  new = h.new ++ g.new;
  bindings = h.bindings ∙ ap (λ bs. h.new ++ bs) g.bindings ∙ sym (append_assoc h.new g.new q.bindings);
  later = g.later ++ h.later;
  kept = h.kept ∙ ap (λ cs. cs ++ h.later) g.kept ∙ append_assoc q.kept g.later h.later;
  made = omega (arith, g.made, h.made);
  put = omega (arith, g.put, h.put);
}

-- choice points are those of a path that has grown
pub choices_grown : (ws s : List ℕ) (p p' : Path) (cs : List ChoicePoint) → Grown p p' → ChoicesIn ws s p cs → ChoicesIn ws s p' cs
choices_grown ws s p p' [] g h = tt
choices_grown ws s p p' (c ∷ cs) g h = let d = h.0 in (record { grown = grown_trans d.grown g; room = d.room; path_in = d.path_in; rest_at = d.rest_at }, h.1)

-- the registers with so many entries on the trail
abbrev pub trailed : Registers → ℕ → Registers
trailed r n = record { head = r.head; trail = n; variables = r.variables; goals = r.goals; constraints = r.constraints; calls = r.calls }

-- The one law for bindings: whoever binds tells of the bindings, and that the rest is apart.
pub rebound : {P : Program} {ws s s' : List ℕ} {r : Registers} {n : ℕ} {p : Path} {cs : List ChoicePoint} (new bs : Substitution) → bs ≡ new ++ p.bindings → Apart s s' → BindingsIn ws s' bs
    → Stored P ws s r n p cs → Stored P ws s' (trailed r (length bs)) n (bound_to p bs) cs
rebound {P} {ws} {s} {s'} {r} {n} {p} {cs} new bs e a b h =
    let m = h.path_in in
    let put_is : r.goals ≡ p.put = m.put in
    let put_few : r.goals ≤ 1024 = h.roomy.put in
    let kept_is : r.constraints ≡ length p.kept = m.kept in
    let kept_few : r.constraints ≤ 512 = h.roomy.kept in
    let choices_are : n ≡ length cs = h.choices_are in
    let choices_few : n ≤ 256 = h.roomy.choices in
    let q : PathIn ws s' r p = path_same ws s s' r p (λ i lo hi. a.middle i (omega arith) (omega arith)) m in
    record {
      roomy = record { long = omega (arith, a.long, h.roomy.long); trail = fresh_few bs b.fresh; made = h.roomy.made; put = put_few; choices = choices_few; kept = kept_few };
      table = table_same P ws s s' (λ i lo hi. a.above i lo) h.table;
      bindings_in = b;
      kept_in = kept_same ws s s' 0 p.kept (λ i lo hi. a.middle i (omega arith) (omega arith)) h.kept_in;
      path_in = record { tasks = q.tasks; trail = refl; made = q.made; put = q.put; kept = q.kept; calls = q.calls };
      choices_in = choices_grown ws s' p (bound_to p bs) cs (record { new = new; bindings = e; later = []; kept = sym (append-nil p.kept); made = omega arith; put = omega arith })
          (choices_same ws s s' p cs (λ i lo hi. a.middle i (omega arith) (omega arith)) (λ i lo hi. a.middle i (omega arith) (omega arith)) h.choices_in);
      choices_are = choices_are;
      nameless = names_same s s' (λ i lo hi. a.middle i (omega arith) (omega arith)) h.nameless;
    }

module _ {P : Program} {ws s : List ℕ} {r : Registers} {n : ℕ} {p : Path} {cs : List ChoicePoint} (h : Stored P ws s r n p cs) where
  -- what `unify` and the reviews ask for
  pub stored_binds : length ws ≤ most_words → Good p.bindings → Binds ws s p.bindings
  stored_binds short good = record { short = short; long = h.roomy.long; bindings_in = h.bindings_in; good = good }

  pub stored_two : length ws ≤ most_words → Good p.bindings → {a b : ℕ} {u v : Term} → Stands ws a u → Stands ws b v → TwoTerms ws s p.bindings a u b v r.trail
  stored_two short good su sv = record { held = stored_binds short good; first = su; second = sv; trail_is = h.path_in.trail }

  pub stored_kept : length ws ≤ most_words → Good p.bindings → ConstraintsHeld ws s p.bindings p.kept r.trail r.constraints
  stored_kept short good = record { held = stored_binds short good; kept_in = h.kept_in; kept_is = h.path_in.kept; few = h.roomy.kept; trail_is = h.path_in.trail }

  -- what they give back: a path with more bindings, also where unification failed or stopped ..
  pub unified_stored : {s' : List ℕ} {m : ℕ} (w : Went ws s p.bindings s' m) → Stored P ws s' (trailed r m) n (bound_to p w.next) cs
  unified_stored {s'} {m} w = subst (λ z. Stored P ws s' (trailed r z) n (bound_to p w.next) cs) (sym w.trail_is) (rebound w.new w.next w.grows w.apart w.held.bindings_in h)

  -- .. and after reviews the same path
  pub reviewed_stored : {s' : List ℕ} {o : Outcome Bool} {q : Result (Bool × ℕ) Stopped} → ReviewedAs ws s s' p.bindings o q → Stored P ws s' r n p cs
  reviewed_stored {s'} v = subst (λ z. Stored P ws s' (trailed r z) n p cs) (sym h.path_in.trail) (rebound [] p.bindings refl v.apart v.bindings_in h)
