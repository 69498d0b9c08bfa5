-- What unification promises.
use Rattle.std.specs.Prelude.{ℕ, suc, ◌-◌, ◌≤◌, ◌<◌, ◌≡◌, Bool, true, false, List, ◌∷◌, ◌++◌, ltb, length, Result, Ok, Err}
use Rattle.std.proofs.Math.Option.{Option, none, some}
use Rattle.rules.specs.Reading.{choose}
use Rattle.rules.specs.Syntax.{Term}
use Rattle.semantics.specs.Substitution.{Substitution}
use Rattle.semantics.specs.Steps.{waiting, at_bound, Outcome, done, stop}
use Rattle.semantics.specs.Unify.{Looked, fails, agrees, binds, parts, Pairs, unify_next, unify}
use Rattle.engine.specs.Layout.{most_variables, most_pairs, names_area}
use Rattle.engine.specs.Reference.{at, Stands}
use Rattle.engine.specs.Walk.{Binds}
use Rattle.engine.specs.Trail.{Apart}
use Rattle.engine.specs.declared.terms.unify.Looked as code
use Rattle.engine.specs.declared.terms.unify.Looked.TheVariants as looked
use Rattle.engine.specs.declared.terms.unify.PairUnified.{PairUnified}
use Rattle.engine.specs.declared.terms.unify.PairUnified.TheVariants as pair
use Rattle.engine.specs.declared.terms.unify.Unified.{Unified}
use Rattle.engine.specs.declared.steps.Stopped.{Stopped}
use Rattle.engine.specs.Steps.{stops}

-- `look`: what looking at two followed terms comes to

pub record BindsTo (ws : List ℕ) (o : Looked) (x w : ℕ) : Type 0 where
  pub term : Term
  pub is : o ≡ binds x term
  pub low : x < most_variables
  pub stands : Stands ws w term

pub record PartsTo (ws : List ℕ) (o : Looked) (a b c d : ℕ) : Type 0 where
  pub first : Term
  pub second : Term
  pub third : Term
  pub fourth : Term
  pub is : o ≡ parts first second third fourth
  pub stands_first : Stands ws a first
  pub stands_second : Stands ws b second
  pub stands_third : Stands ws c third
  pub stands_fourth : Stands ws d fourth

unfoldable pub LookedAs : List ℕ → Looked → code.Looked → Type 0
LookedAs ws o looked.Fails = o ≡ fails
LookedAs ws o looked.Agrees = o ≡ agrees
LookedAs ws o (looked.Binds x w) = BindsTo ws o x w
LookedAs ws o (looked.Parts a b c d) = PartsTo ws o a b c d

-- `unify_pair`: one pair looked at, with its occurs check and binding

-- two terms by reference, with a path's bindings and as many entries on the trail
pub record TwoTerms (ws s : List ℕ) (bs : Substitution) (a : ℕ) (u : Term) (b : ℕ) (v : Term) (trail : ℕ) : Type 0 where
  pub held : Binds ws s bs
  pub first : Stands ws a u
  pub second : Stands ws b v
  pub trail_is : trail ≡ length bs

pub record PairGoes (ws s s' : List ℕ) (bs : Substitution) (u v : Term) (steps n left : ℕ) : Type 0 where
  pub next : Substitution
  pub new : Substitution
  pub grows : next ≡ new ++ bs
  pub held : Binds ws s' next
  pub trail_is : n ≡ length next
  pub long : length s' ≡ length s
  pub above : (i : ℕ) → names_area ≤ i → at s' i ≡ at s i
  pub fewer : left < steps
  pub same : (fuel : ℕ) (vs : Pairs) → unify (suc fuel) bs vs u v steps ≡ unify_next vs next left (λ bs' us x y l. unify fuel bs' us x y l)

pub record PairParts (ws s s' : List ℕ) (bs : Substitution) (u v : Term) (steps a b c d : ℕ) : Type 0 where
  pub untouched : s' ≡ s
  pub first : Term
  pub second : Term
  pub third : Term
  pub fourth : Term
  pub stands_first : Stands ws a first
  pub stands_second : Stands ws b second
  pub stands_third : Stands ws c third
  pub stands_fourth : Stands ws d fourth
  pub same : (fuel : ℕ) (vs : Pairs) → unify (suc fuel) bs vs u v steps ≡ choose (ltb (length vs) most_pairs) (λ _. unify fuel bs ((second, fourth) ∷ vs) first third (steps - 1)) (λ _. stop (at_bound waiting) steps)

pub record PairEnds (s s' : List ℕ) (bs : Substitution) (u v : Term) (steps : ℕ) (o : Outcome (Option Substitution)) : Type 0 where
  pub untouched : s' ≡ s
  pub same : (fuel : ℕ) (vs : Pairs) → unify (suc fuel) bs vs u v steps ≡ o

unfoldable pub PairUnifiedAs : List ℕ → List ℕ → List ℕ → Substitution → Term → Term → ℕ → Result PairUnified Stopped → Type 0
PairUnifiedAs ws s s' bs u v steps (Ok (pair.Fails left)) = PairEnds s s' bs u v steps (done none left)
PairUnifiedAs ws s s' bs u v steps (Ok (pair.Goes n left)) = PairGoes ws s s' bs u v steps n left
PairUnifiedAs ws s s' bs u v steps (Ok (pair.Parts a b c d)) = PairParts ws s s' bs u v steps a b c d
PairUnifiedAs ws s s' bs u v steps (Err e) = PairEnds s s' bs u v steps (stops e)

-- `unify`

-- the scratch afterwards, with so many entries on the trail: the bindings have grown, also where unification failed or stopped
pub record Went (ws s : List ℕ) (bs : Substitution) (s' : List ℕ) (n : ℕ) : Type 0 where
  pub next : Substitution
  pub new : Substitution
  pub grows : next ≡ new ++ bs
  pub held : Binds ws s' next
  pub trail_is : n ≡ length next
  pub apart : Apart s s'

-- what each case says, where the bindings have grown to `next`
abbrev pub unified_says : Substitution → Result (Bool × ℕ) Stopped → Outcome (Option Substitution)
unified_says next (Ok (true, left)) = done (some next) left
unified_says next (Ok (false, left)) = done none left
unified_says next (Err e) = stops e

abbrev pub UnifiedAs : List ℕ → List ℕ → List ℕ → Substitution → Outcome (Option Substitution) → Unified → Type 0
UnifiedAs ws s s' bs o r = (w : Went ws s bs s' r.trail) × (o ≡ unified_says w.next r.outcome)
