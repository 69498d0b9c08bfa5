-- Looking at all nodes of a term, where nothing is found, and of several terms, one after the other.
use Prim.Native.Nat.{ℕ, zero, suc, ◌+◌, ◌<◌, ◌≤◌}
use mathlib.Core.Path.{◌≡◌, refl, sym, ap, ◌∙◌}
use mathlib.Core.Bool.{Bool, true, false, true≢false}
use mathlib.Core.List.{List, [], ◌∷◌}
use native.Mathlib.Omega.{arith}
use lib.ListN.{length}
use borrow.Author.Tests.{ne_eqb}
use Rattle.word.specs.Word.{word}
use Rattle.rules.specs.Syntax.{Term}
use Rattle.semantics.specs.Substitution.{Substitution}
use Rattle.semantics.specs.Steps.{Outcome, done, and_then}
use Rattle.semantics.specs.Unify.{scan, never}
use Rattle.semantics.specs.Answer.{look_through}
use Rattle.semantics.proofs.Basics.{clash}
use Rattle.semantics.proofs.ScanLaws.{ScanStep, hit, down, full, last, further, scan_step}
use Rattle.engine.specs.Reference.{at}
use Rattle.engine.specs.Walk.{Binds, Follows}
use Rattle.std.specs.Prelude.{Result, Ok, Err}
use Rattle.engine.specs.Scan.{TestAs, ScanAs}
use Rattle.engine.specs.Steps.{outcome_of}
use Rattle.engine.specs.Trial.{EquationsKept}
use Rattle.engine.specs.Look.{LookedThroughAs, rights, ThroughAs}
use Rattle.engine.specs.declared.steps.Stopped.{Stopped}
use Rattle.engine.proofs.ReferenceLaws.{atom_low}

never_sought : TestAs (word 4 0) never
never_sought = record {
  on_var = λ x l. sym (ne_eqb x (word 4 0) (λ q. omega arith));
  on_atom = λ a w h. sym (ne_eqb w (word 4 0) (λ q. omega (arith, (atom_low w a h).1)));
  on_pair = λ s t. refl;
}

never_found : (bs : Substitution) (left : ℕ) (vs : List Term) (t : Term) (l : ℕ) → scan never bs vs t left ≡ done true l → ⊥
never_found bs zero vs t l e = clash (cc)
never_found bs (suc left) vs t l e = go (scan never bs vs t (suc left)) (scan_step never bs vs t left) e (never_found bs left)
  where
    go : (o : Outcome Bool) → ScanStep never bs vs t left o → o ≡ done true l → ((us : List Term) (u : Term) (l : ℕ) → scan never bs us u left ≡ done true l → ⊥) → ⊥
    go o (hit q r) d ih = true≢false (sym q)
    go o (down a c q r k s) d ih = ih (c ∷ vs) a l (sym s ∙ d)
    go o (full a c q r k s) d ih = clash (cc)
    go o (last q lf n s) d ih = clash (cc)
    go o (further v us q lf n s) d ih = ih us v l (sym s ∙ d)

-- what the scan's results come to
module _ (bs : Substitution) (t : Term) (steps : ℕ) where
  pub look_done : (found : Bool) (left : ℕ) → ScanAs (word 4 0) bs t steps (Ok (found, left)) → LookedThroughAs bs t steps (Ok left)
  unfolding LookedThroughAs
  look_done true left h = absurd (never_found bs steps [] t left (h never never_sought))
  look_done false left h = h never never_sought

  pub look_stops : (s : Stopped) → ScanAs (word 4 0) bs t steps (Err s) → LookedThroughAs bs t steps (Err s)
  unfolding LookedThroughAs
  look_stops s h = h never never_sought

-- several terms, of which some are left to look at
pub record Looking (bs : Substitution) (ts : List Term) (steps : ℕ) (later : List Term) (left : ℕ) : Type 0 where
  pub same : look_through bs ts steps ≡ look_through bs later left

module _ {bs : Substitution} {ts : List Term} {steps : ℕ} {later : List Term} {left : ℕ} (g : Looking bs ts steps later left) where
  pub looking_end : later ≡ [] → ThroughAs bs ts steps (Ok left)
  unfolding ThroughAs
  looking_end e = g.same ∙ ap (λ us. look_through bs us left) e

  module _ (t : Term) (others : List Term) (is : later ≡ t ∷ others) where
    looks_is : (r : Result ℕ Stopped) → LookedThroughAs bs t left r → look_through bs ts steps ≡ and_then (outcome_of false r) (λ _ l. look_through bs others l)
    unfolding LookedThroughAs
    looks_is r told = g.same ∙ ap (λ us. look_through bs us left) is ∙ ap (λ o. and_then o (λ _ l. look_through bs others l)) told

    pub looking_stops : (s : Stopped) → LookedThroughAs bs t left (Err s) → ThroughAs bs ts steps (Err s)
    unfolding ThroughAs
    looking_stops s told = looks_is (Err s) told

    pub looking_on : (rest : ℕ) → LookedThroughAs bs t left (Ok rest) → Looking bs ts steps others rest
    looking_on rest told = record { same = looks_is (Ok rest) told }

-- the right sides of a trial, from equation i on
pub record LookingRights (ws s : List ℕ) (bs : Substitution) (cs : List (ℕ × Term)) (mark count steps i left : ℕ) : Type 0 where
  pub held : Binds ws s bs
  pub later : List (ℕ × Term)
  pub kept : EquationsKept ws s mark i later
  pub count_is : i + length later ≡ count
  pub looking : Looking bs (rights cs) steps (rights later) left

module _ {ws s : List ℕ} {bs : Substitution} {cs : List (ℕ × Term)} {mark count steps i left : ℕ} (g : LookingRights ws s bs cs mark count steps i left) where
  pub rights_end : count ≤ i → ThroughAs bs (rights cs) steps (Ok left)
  rights_end le = looking_end g.looking (none g.later g.count_is)
    where
      none : (later : List (ℕ × Term)) → i + length later ≡ count → rights later ≡ []
      none [] n = refl
      none (b ∷ later) n = absurd (omega arith)

  pub record RightsNext : Type 0 where
    pub one : ℕ × Term
    pub others : List (ℕ × Term)
    pub is : g.later ≡ one ∷ others
    pub here : Follows ws s bs (at s (2048 + mark + i)) one.1
    pub kept : EquationsKept ws s mark (i + 1) others

  pub rights_next : i < count → RightsNext
  unfolding EquationsKept
  rights_next lt = go g.later refl g.kept g.count_is
    where
      go : (later : List (ℕ × Term)) → g.later ≡ later → EquationsKept ws s mark i later → i + length later ≡ count → RightsNext
      go [] e h n = absurd (omega arith)
      go (b ∷ later) e h n = record { one = b; others = later; is = e; here = record { binds = g.held; stands = h.0.right }; kept = h.1 }

  module _ (n : RightsNext) where
    rights_are : rights g.later ≡ n.one.1 ∷ rights n.others
    rights_are = ap rights n.is

    pub rights_stop : (s : Stopped) → LookedThroughAs bs n.one.1 left (Err s) → ThroughAs bs (rights cs) steps (Err s)
    rights_stop s told = looking_stops g.looking n.one.1 (rights n.others) rights_are s told

    pub rights_on : (rest : ℕ) → LookedThroughAs bs n.one.1 left (Ok rest) → LookingRights ws s bs cs mark count steps (i + 1) rest
    rights_on rest told =
        let l : length g.later ≡ suc (length n.others) = ap length n.is in
        record { held = g.held; later = n.others; kept = n.kept; count_is = omega (arith, g.count_is); looking = looking_on g.looking n.one.1 (rights n.others) rights_are rest told }
