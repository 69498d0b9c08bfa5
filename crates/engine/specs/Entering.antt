-- The traversals of a scan and of the occurs check, by the pairs that they enter.
use Rattle.std.specs.Prelude.{ℕ, ◌≡◌, Bool, true, false, refl, List, []}
use Rattle.std.proofs.Common.{suc}
use Rattle.rules.specs.Syntax.{Term, var, atom, pair}
use Rattle.semantics.specs.Substitution.{Substitution, walk}
use Rattle.semantics.specs.Steps.{done}
use Rattle.semantics.specs.Unify.{is_var, occurs_check, scan, scan_next}
use Rattle.engine.specs.Occurs.{Marks}
use Rattle.engine.specs.Scan.{TestAs}
use Rattle.engine.specs.Traverse.{Traversal}
use Rattle.engine.specs.declared.terms.occurs.Once.{Once}
use Rattle.engine.specs.declared.terms.occurs.Unmarked.{Unmarked}
use Rattle.engine.specs.declared.terms.scan.Every.{Every}

-- A scan, of every test that agrees with the word sought, enters each pair.

module _ (test : Term → Bool) (bs : Substitution) (vs : List Term) (u : Term) (left : ℕ) where
  pub scan_at_find : test (walk bs u) ≡ true → scan test bs vs u (suc left) ≡ done true left
  scan_at_find q = rw q

  pub scan_at_leaf : (f : Term) → walk bs u ≡ f → ((a b : Term) → ¬ (f ≡ pair a b)) → test f ≡ false → scan test bs vs u (suc left) ≡ scan_next vs left (λ us v. scan test bs us v left)
  scan_at_leaf (var x) e n q = rw (e, q)
  scan_at_leaf (atom a) e n q = rw (e, q)
  scan_at_leaf (pair a b) e n q = absurd (n a b refl)

abbrev pub scans : (sought : ℕ) (bs : Substitution) → Traversal Every sought bs
scans sought bs = record {
  Asked = (test : Term → Bool) × TestAs sought test;
  Entered = Unit {0};
  Holds = λ _ _. Unit {0};
  GaveUp = λ _. ⊥;
  test = λ i. i.0;
  run = λ i _ vs u left. scan i.0 bs vs u left;
  agrees = λ i. i.1;
  without_step = λ i _ vs u. refl;
  at_find = λ i _ vs u left. scan_at_find i.0 bs vs u left;
  at_leaf = λ i _ vs u left. scan_at_leaf i.0 bs vs u left (walk bs u) refl;
}

-- The occurs check enters each bound variable at most one time.

module _ (x : ℕ) (bs : Substitution) (es : List ℕ) (vs : List Term) (u : Term) (left : ℕ) where
  pub occurs_at_find : (f : Term) → walk bs u ≡ f → is_var x f ≡ true → occurs_check x bs es vs u (suc left) ≡ done true left
  occurs_at_find (var y) e i = rw (e, i)
  occurs_at_find (atom a) e i = absurd (cc)
  occurs_at_find (pair a b) e i = absurd (cc)

  pub occurs_at_leaf : (f : Term) → walk bs u ≡ f → ((a b : Term) → ¬ (f ≡ pair a b)) → is_var x f ≡ false → occurs_check x bs es vs u (suc left) ≡ scan_next vs left (λ us v. occurs_check x bs es us v left)
  occurs_at_leaf (var y) e n i = rw (e, i)
  occurs_at_leaf (atom a) e n i = rw e
  occurs_at_leaf (pair a b) e n i = absurd (n a b refl)

abbrev pub occurs_checks : (sought : ℕ) (bs : Substitution) → Traversal Once sought bs
occurs_checks x bs = record {
  Asked = TestAs x (is_var x);
  Entered = List ℕ;
  Holds = λ once es. Marks once.marks es;
  GaveUp = λ _. ⊥;
  test = λ _. is_var x;
  run = λ _ es vs u left. occurs_check x bs es vs u left;
  agrees = λ i. i;
  without_step = λ _ es vs u. refl;
  at_find = λ _ es vs u left. occurs_at_find x bs es vs u left (walk bs u) refl;
  at_leaf = λ _ es vs u left. occurs_at_leaf x bs es vs u left (walk bs u) refl;
}

-- Without marks nothing was entered: it gives up where there is a bound variable to enter.
abbrev pub unmarked_checks : (sought : ℕ) (bs : Substitution) → Traversal Unmarked sought bs
unmarked_checks x bs = record {
  Asked = TestAs x (is_var x);
  Entered = Unit {0};
  Holds = λ _ _. Unit {0};
  GaveUp = λ unmarked. unmarked.bound ≡ true;
  test = λ _. is_var x;
  run = λ _ _ vs u left. occurs_check x bs [] vs u left;
  agrees = λ i. i;
  without_step = λ _ _ vs u. refl;
  at_find = λ _ _ vs u left. occurs_at_find x bs [] vs u left (walk bs u) refl;
  at_leaf = λ _ _ vs u left. occurs_at_leaf x bs [] vs u left (walk bs u) refl;
}
