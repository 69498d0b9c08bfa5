-- One node of an occurs check, in the shape of the code's tests.
use Prim.Native.Nat.{ℕ, suc, ◌≤◌, ◌<◌}
use mathlib.Core.Path.{◌≡◌, refl, sym, ap, ◌∙◌}
use mathlib.Core.Option.{Option as MathOption, none, some}
use mathlib.Core.Bool.{Bool, true, false}
use mathlib.Core.Logic.{◌⊎◌, inl, inr}
use mathlib.Core.List.{List, [], ◌∷◌}
use lib.Dec.{ltb}
use lib.ListN.{length}
use Rattle.std.specs.Prelude.{Result, Ok, Err, Option, Some, None, is_some}
use Rattle.rules.specs.Reading.{choose}
use Rattle.rules.specs.Syntax.{Term, pair}
use Rattle.semantics.specs.Substitution.{Substitution, walk}
use Rattle.semantics.specs.Unify.{enter, occurs_check, scan_next, was_entered, way_end}
use Rattle.semantics.proofs.Basics.{clash}
use Rattle.semantics.proofs.SubstitutionLaws.{followed_follow}
use Rattle.engine.specs.Layout.{most_variables}
use Rattle.engine.specs.Traverse.{Met, EnteredNow, EntersAs, SaysAs, TraversedAs}
use Rattle.engine.specs.Entering.{occurs_checks, unmarked_checks}
use Rattle.engine.specs.Walk.{through_of}
use Rattle.engine.specs.Occurs.{mark_words, Marks, MarkedNow, OccursAs}
use Rattle.engine.specs.Steps.{stops, at_bound}
use Rattle.engine.specs.declared.report.Bound.TheVariants.{Waiting}
use Rattle.engine.specs.declared.steps.Stopped.{Stopped}
use Rattle.engine.specs.declared.terms.occurs.Once.{Once}
use Rattle.engine.specs.declared.terms.occurs.Unmarked.{Unmarked}
use Rattle.engine.proofs.MarkLaws.{marks_more}
use Rattle.engine.proofs.ScanSteps.{says_alone, variable_sought}
use Rattle.engine.proofs.TraverseSteps.{Scanning}

-- The definition's check at a pair: passed if it was entered, and entered if not

occurs_again : (x : ℕ) (bs : Substitution) (es : List ℕ) (vs : List Term) (u a b : Term) (left : ℕ) → walk bs u ≡ pair a b → was_entered (way_end bs u) es ≡ true → occurs_check x bs es vs u (suc left) ≡ scan_next vs left (λ us v. occurs_check x bs es us v left)
occurs_again x bs es vs u a b left e i = rw (e, i)

occurs_down : (x : ℕ) (bs : Substitution) (es : List ℕ) (vs : List Term) (u a b : Term) (left : ℕ) → walk bs u ≡ pair a b → was_entered (way_end bs u) es ≡ false →
    occurs_check x bs es vs u (suc left) ≡ choose (ltb (length vs) 512) (λ _. occurs_check x bs (enter (way_end bs u) es) (b ∷ vs) a left) (λ _. stops (at_bound Waiting (suc left)))
occurs_down x bs es vs u a b left e i = rw (e, i)

-- a pair where it stands was come to without a variable
occurs_in_place : (x : ℕ) (bs : Substitution) (es : List ℕ) (vs : List Term) (u a b : Term) (left : ℕ) → walk bs u ≡ pair a b → was_entered (way_end bs u) es ≡ false →
    occurs_check x bs es vs u (suc left) ≡ occurs_check x bs (enter (way_end bs u) es) vs (walk bs u) (suc left)
occurs_in_place x bs es vs u a b left e i =
    let w : walk bs (pair a b) ≡ pair a b = followed_follow (length bs) bs (pair a b) tt in
    rw (e, i, w) refl

-- the way, by what is told of its variable
led_none : {bs : Substitution} {u : Term} {through : Option ℕ} → Met bs through u → through ≡ None → way_end bs u ≡ none
led_none {bs} {u} {through} m i = go (way_end bs u) refl m.led.is
  where
    go : (z : MathOption ℕ) → way_end bs u ≡ z → through ≡ through_of z → way_end bs u ≡ none
    go none q e = q
    go (some y) q e = clash (cc)

led_through : {bs : Substitution} {u : Term} {through : Option ℕ} {v : ℕ} → Met bs through u → through ≡ Some v → way_end bs u ≡ some v
led_through {bs} {u} {through} {v} m i = go (way_end bs u) refl m.led.is
  where
    go : (z : MathOption ℕ) → way_end bs u ≡ z → through ≡ through_of z → way_end bs u ≡ some v
    go none q e = clash (cc)
    go (some y) q e = let k : y ≡ v = cc in q ∙ ap some k

module _ (once : Once) (x : ℕ) (bs : Substitution) (es : List ℕ) (u : Term) {through : Option ℕ} (m : Met bs through u) where
  -- entered, by the way
  enters : was_entered (way_end bs u) es ≡ false → Marks once.marks (enter (way_end bs u) es) → EnteredNow (occurs_checks x bs) once u m.left m.right es
  enters e h = record {
    entered = enter (way_end bs u) es;
    holds = h;
    same = λ _ vs left. occurs_down x bs es vs u m.left m.right left m.is e;
    in_place = λ _ vs left. occurs_in_place x bs es vs u m.left m.right left m.is e;
  }

  -- through no variable
  pub enters_unbound : through ≡ None → Marks once.marks es → EnteredNow (occurs_checks x bs) once u m.left m.right es
  enters_unbound i h = let way = led_none m i in enters (rw way refl) (rw way h)

  -- through one
  pub enters_told : {v : ℕ} → through ≡ Some v → {ms : List ℕ} (r : Bool) → MarkedNow ms once.marks v r → mark_words ≤ length ms → Marks ms es → EntersAs (occurs_checks x bs) once u m.left m.right es (Ok r)
  enters_told {v} i true told long h = let way = led_through m i in enters (rw way (sym (h.says v (m.led.low v i)) ∙ told.0)) (rw (way, told.1) (marks_more v long (m.led.low v i) h told.0))
  enters_told {v} i false told long h =
      let way = led_through m i in let e : was_entered (way_end bs u) es ≡ true = rw way (sym (h.says v (m.led.low v i)) ∙ told.0) in
      record { entered = es; holds = rw told.1 h; same = λ _ vs left. occurs_again x bs es vs u m.left m.right left m.is e }

-- Without marks nothing was entered: a pair is entered where it stands

pub unbound : {through : Option ℕ} → is_some through ≡ false → through ≡ None
unbound {through = None} e = refl
unbound {through = Some x} e = clash (cc)

unmarked_down : (x : ℕ) (bs : Substitution) (vs : List Term) (u a b : Term) (left : ℕ) → walk bs u ≡ pair a b → way_end bs u ≡ none →
    occurs_check x bs [] vs u (suc left) ≡ choose (ltb (length vs) 512) (λ _. occurs_check x bs [] (b ∷ vs) a left) (λ _. stops (at_bound Waiting (suc left)))
unmarked_down x bs vs u a b left e w = rw (e, w)

unmarked_in_place : (x : ℕ) (bs : Substitution) (vs : List Term) (u a b : Term) (left : ℕ) → walk bs u ≡ pair a b → way_end bs u ≡ none → occurs_check x bs [] vs u (suc left) ≡ occurs_check x bs [] vs (walk bs u) (suc left)
unmarked_in_place x bs vs u a b left e w =
    let f : walk bs (pair a b) ≡ pair a b = followed_follow (length bs) bs (pair a b) tt in
    rw (e, w, f) refl

pub unmarked_enters : {unmarked : Unmarked} (x : ℕ) (bs : Substitution) (u : Term) {through : Option ℕ} (m : Met bs through u) → through ≡ None → EnteredNow (unmarked_checks x bs) unmarked u m.left m.right tt
unmarked_enters x bs u m i = let way = led_none m i in record {
  entered = tt;
  holds = tt;
  same = λ _ vs left. unmarked_down x bs vs u m.left m.right left m.is way;
  in_place = λ _ vs left. unmarked_in_place x bs vs u m.left m.right left m.is way;
}

-- what it says, if it did not give up; no state is told of it
pub unmarked_told : {x : ℕ} {bs : Substitution} (unmarked later : Unmarked) {t : Term} {n steps : ℕ} (r : Result (Bool × ℕ) Stopped) → TraversedAs (unmarked_checks x bs) unmarked tt t n steps r → unmarked.bound ≡ false → SaysAs (unmarked_checks x bs) later tt t n steps r
unmarked_told unmarked later (Ok told) h n = record { entered = tt; holds = tt; same = h.same }
unmarked_told unmarked later (Err stopped) (inl h) n = record { entered = tt; holds = tt; same = h.same }
unmarked_told unmarked later (Err stopped) (inr h) n = clash (cc)

-- A check by itself

pub check_alone : (once : Once) {x : ℕ} (bs : Substitution) (t : Term) (steps : ℕ) (r : Result (Bool × ℕ) Stopped) → SaysAs (occurs_checks x bs) once [] t 0 steps r → x < most_variables → OccursAs x bs t steps r
check_alone once {x = x} bs t steps r h low = h.same (variable_sought x low) [] refl ∙ says_alone r _

pub check_stopped : (once : Once) {x : ℕ} (bs : Substitution) (t : Term) (steps : ℕ) (stopped : Stopped) → SaysAs (occurs_checks x bs) once [] t 0 steps (Err stopped) ⊎ ⊥ → x < most_variables → OccursAs x bs t steps (Err stopped)
check_stopped once bs t steps stopped (inl h) low = check_alone once bs t steps (Err stopped) h low
check_stopped once bs t steps stopped (inr h) low = absurd h

module _ {x : ℕ} {bs : Substitution} {t : Term} {steps : ℕ} (low : x < most_variables) where
  pub unmarked_alone : {unmarked : Unmarked} (r : Result (Bool × ℕ) Stopped) → SaysAs (unmarked_checks x bs) unmarked tt t 0 steps r → OccursAs x bs t steps r
  unmarked_alone r h = h.same (variable_sought x low) [] refl ∙ says_alone r _

  -- it goes on as a check of what is left
  pub marked_alone : {ws s : List ℕ} {unmarked : Unmarked} {w left : ℕ} (g : Scanning (unmarked_checks x bs) ws s unmarked tt 0 steps t w left) (r : Result (Bool × ℕ) Stopped) → OccursAs x bs g.here left r → OccursAs x bs t steps r
  marked_alone g r h = g.same (variable_sought x low) [] refl ∙ h
