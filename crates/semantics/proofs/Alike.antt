-- Values that are the same but for the numbers of variables: what is found with the one is found with the other, with the same steps.
use Prim.Native.Nat.{◌+◌, ◌<◌, suc, zero, ℕ}
use mathlib.Core.Bool.{Bool, ◌&&◌, ◌||◌}
use mathlib.Core.List.{List, [], ◌∷◌}
use mathlib.Core.Option.{Option}
use mathlib.Core.Path.{◌≡◌, ap, ap₂, refl, subst₂}
use native.Mathlib.Omega.{arith}
use lib.Dec.{eqb, ltb}
use lib.ListN.{length}
use Rattle.rules.specs.Syntax.{Atom, Constraint, Sort, Term, absento, atom, differ, pair, typed, var}
use Rattle.semantics.specs.Path.{Passing, as_written, bind_params_by}
use Rattle.semantics.specs.Review.{clashes, other_sort, reaches, review, review_all, reviewed, sort_fails, trial_fails}
use Rattle.semantics.specs.Steps.{Bound, Outcome, most, waiting}
use Rattle.semantics.specs.Substitution.{Substitution, argument, hop, hop_variable, last_variable, lookup, same_atom, shift, shift_constraint, walk, walk_for}
use Rattle.semantics.specs.Unify.{Checks, Goes, Looked, Node, Pairs, agrees, below, bind, binds, enter, fails, is_atom, is_var, look, member, node_of, occurs_check, occurs_node, parts, passed, scan, scan_next, scan_parts, sought, unify, unify_bound, unify_next, unify_pair, unify_terms, was_entered, way_end}
use Rattle.semantics.proofs.Liftings.{OptionLike, OutcomeLike, Pointwise, choose_like, cons_like, done_like, length_like, nil_like, none_like, pointwise_weaken, some_like, step_like, stop_like, then_like}

-- `N x y`: variable x of the one is variable y of the other. Not all variables need be paired.
abbrev pub Renaming : Type 1
Renaming = ℕ → ℕ → Type 0

-- variables are the same on the one side just if they are on the other
abbrev pub OneToOne : Renaming → Type 0
OneToOne N = (x y u v : ℕ) → N x u → N y v → eqb x y ≡ eqb u v

pub data TermLike (N : Renaming) : Term → Term → Type 0 where
  var_like : {x y : ℕ} → N x y → TermLike N (var x) (var y)
  atom_like : {a : Atom} → TermLike N (atom a) (atom a)
  pair_like : {s t u v : Term} → TermLike N s u → TermLike N t v → TermLike N (pair s t) (pair u v)

pub data ConstraintLike (N : Renaming) : Constraint → Constraint → Type 0 where
  differ_like : {s t u v : Term} → TermLike N s u → TermLike N t v → ConstraintLike N (differ s t) (differ u v)
  typed_like : {k : Sort} {s t : Term} → TermLike N s t → ConstraintLike N (typed k s) (typed k t)
  absento_like : {a : Atom} {s t : Term} → TermLike N s t → ConstraintLike N (absento a s) (absento a t)

abbrev pub TermsLike : Renaming → List Term → List Term → Type 0
TermsLike N = Pointwise (TermLike N)

abbrev pub ConstraintsLike : Renaming → List Constraint → List Constraint → Type 0
ConstraintsLike N = Pointwise (ConstraintLike N)

abbrev pub BindingLike : Renaming → ℕ × Term → ℕ × Term → Type 0
BindingLike N b c = N b.0 c.0 × TermLike N b.1 c.1

abbrev pub BindingsLike : Renaming → Substitution → Substitution → Type 0
BindingsLike N = Pointwise (BindingLike N)

-- a passing of arguments that does not go by the numbers of variables
abbrev pub Equivariant : Passing → Type 1
Equivariant pass = (N : Renaming) → OneToOne N → (bs cs : Substitution) (s t : Term) → BindingsLike N bs cs → TermLike N s t → TermLike N (pass bs s) (pass cs t)

-- what is alike stays so where more variables are paired
module _ {N M : Renaming} (f : (x y : ℕ) → N x y → M x y) where
  pub term_weaken : {s t : Term} → TermLike N s t → TermLike M s t
  term_weaken (var_like {x} {y} h) = var_like (f x y h)
  term_weaken atom_like = atom_like
  term_weaken (pair_like h k) = pair_like (term_weaken h) (term_weaken k)

  pub terms_weaken : {ss ts : List Term} → TermsLike N ss ts → TermsLike M ss ts
  terms_weaken h = pointwise_weaken (λ s t k. term_weaken k) h

  pub constraint_weaken : {c d : Constraint} → ConstraintLike N c d → ConstraintLike M c d
  constraint_weaken (differ_like h k) = differ_like (term_weaken h) (term_weaken k)
  constraint_weaken (typed_like h) = typed_like (term_weaken h)
  constraint_weaken (absento_like h) = absento_like (term_weaken h)

  pub bindings_weaken : {bs cs : Substitution} → BindingsLike N bs cs → BindingsLike M bs cs
  bindings_weaken h = pointwise_weaken (λ b c k. (f b.0 c.0 k.0, term_weaken k.1)) h

-- the variables of a relation in its environments, which begin at b and at c
abbrev pub made_from : Renaming → ℕ → ℕ → Renaming
made_from N b c x y = N (b + x) (c + y)

-- terms of the relation there
pub shift_like : {N : Renaming} (b c : ℕ) {s t : Term} → TermLike (made_from N b c) s t → TermLike N (shift b s) (shift c t)
shift_like b c (var_like h) = var_like h
shift_like b c atom_like = atom_like
shift_like b c (pair_like h k) = pair_like (shift_like b c h) (shift_like b c k)

pub shift_constraint_like : {N : Renaming} (b c : ℕ) {s t : Constraint} → ConstraintLike (made_from N b c) s t → ConstraintLike N (shift_constraint b s) (shift_constraint c t)
shift_constraint_like b c (differ_like h k) = differ_like (shift_like b c h) (shift_like b c k)
shift_constraint_like b c (typed_like h) = typed_like (shift_like b c h)
shift_constraint_like b c (absento_like h) = absento_like (shift_like b c h)

module _ (N : Renaming) (pairs : OneToOne N) where
  -- following bindings
  lookup_like : {bs cs : Substitution} (x y : ℕ) → BindingsLike N bs cs → N x y → OptionLike (TermLike N) (lookup bs x) (lookup cs y)
  lookup_like x y nil_like h = none_like
  lookup_like x y (cons_like {a = b} {b = c} k ks) h = choose_like (OptionLike (TermLike N)) (eqb b.0 x) (eqb c.0 y) _ _ _ _ (pairs b.0 x c.0 y k.0 h) (some_like k.1) (lookup_like x y ks h)

  hop_like : {o o' : Option Term} (x y : ℕ) (go go' : Term → Term) → OptionLike (TermLike N) o o' → N x y → ((s t : Term) → TermLike N s t → TermLike N (go s) (go' t)) → TermLike N (hop o x go) (hop o' y go')
  hop_like x y go go' none_like h f = var_like h
  hop_like x y go go' (some_like {a = s} {b = t} k) h f = f s t k

  walk_for_like : (n : ℕ) {bs cs : Substitution} (s t : Term) → BindingsLike N bs cs → TermLike N s t → TermLike N (walk_for n bs s) (walk_for n cs t)
  walk_for_like zero s t k h = h
  walk_for_like (suc n) _ _ k (var_like {x} {y} h) = hop_like x y _ _ (lookup_like x y k h) h (λ s t h. walk_for_like n s t k h)
  walk_for_like (suc n) _ _ k atom_like = atom_like
  walk_for_like (suc n) _ _ k (pair_like h i) = pair_like h i

  pub walk_like : {bs cs : Substitution} (s t : Term) → BindingsLike N bs cs → TermLike N s t → TermLike N (walk bs s) (walk cs t)
  walk_like {bs} {cs} s t k h = rw (length_like k) (walk_for_like (length cs) s t k h)

  hop_variable_like : {o o' : Option Term} (x y : ℕ) (go go' : ℕ → ℕ) → OptionLike (TermLike N) o o' → N x y → ((x y : ℕ) → N x y → N (go x) (go' y)) → N (hop_variable o x go) (hop_variable o' y go')
  hop_variable_like x y go go' none_like h f = h
  hop_variable_like x y go go' (some_like (var_like {x = u} {y = v} k)) h f = f u v k
  hop_variable_like x y go go' (some_like atom_like) h f = h
  hop_variable_like x y go go' (some_like (pair_like i j)) h f = h

  last_like : (n : ℕ) {bs cs : Substitution} (x y : ℕ) → BindingsLike N bs cs → N x y → N (last_variable n bs x) (last_variable n cs y)
  last_like zero x y k h = h
  last_like (suc n) x y k h = hop_variable_like x y _ _ (lookup_like x y k h) h (λ u v h. last_like n u v k h)

  argument_like : {bs cs : Substitution} {s t : Term} → BindingsLike N bs cs → TermLike N s t → TermLike N (argument bs s) (argument cs t)
  argument_like {bs} {cs} k (var_like {x} {y} h) = rw (length_like k) (var_like (last_like (length cs) x y k h))
  argument_like k atom_like = atom_like
  argument_like k (pair_like h i) = pair_like h i

  -- variables among others
  pub member_like : (x y : ℕ) {xs ys : List ℕ} → N x y → Pointwise N xs ys → member x xs ≡ member y ys
  member_like x y h nil_like = refl
  member_like x y h (cons_like {a = u} {b = v} k ks) = ap₂ (λ p q. p || q) (pairs x u y v h k) (member_like x y h ks)

  -- nodes of an occurs check
  way_like : {bs cs : Substitution} {s t : Term} → BindingsLike N bs cs → TermLike N s t → OptionLike N (way_end bs s) (way_end cs t)
  way_like {bs} {cs} k (var_like {x} {y} h) = rw (length_like k) (some_like (last_like (length cs) x y k h))
  way_like k atom_like = none_like
  way_like k (pair_like h i) = none_like

  was_entered_like : {o o' : Option ℕ} {es ds : List ℕ} → OptionLike N o o' → Pointwise N es ds → was_entered o es ≡ was_entered o' ds
  was_entered_like none_like k = refl
  was_entered_like (some_like {a = x} {b = y} h) k = member_like x y h k

  enter_like : {o o' : Option ℕ} {es ds : List ℕ} → OptionLike N o o' → Pointwise N es ds → Pointwise N (enter o es) (enter o' ds)
  enter_like none_like k = k
  enter_like (some_like h) k = cons_like h k

  data NodeLike : Node → Node → Type 0 where
    sought_like : NodeLike sought sought
    passed_like : NodeLike passed passed
    below_like : {es ds : List ℕ} {s t u v : Term} → Pointwise N es ds → TermLike N s u → TermLike N t v → NodeLike (below es s t) (below ds u v)

  node_of_like : {x y : ℕ} {es ds : List ℕ} {o o' : Option ℕ} {s t : Term} → N x y → Pointwise N es ds → OptionLike N o o' → TermLike N s t → NodeLike (node_of x es o s) (node_of y ds o' t)
  node_of_like {x} {y} n k w (var_like {x = u} {y = v} h) = choose_like NodeLike (eqb x u) (eqb y v) (λ _. sought) (λ _. passed) (λ _. sought) (λ _. passed) (pairs x u y v n h) sought_like passed_like
  node_of_like n k w atom_like = passed_like
  node_of_like {es = es} {ds} {o} {o'} n k w (pair_like h i) = choose_like NodeLike (was_entered o es) (was_entered o' ds) _ _ _ _ (was_entered_like w k) passed_like (below_like (enter_like w k) h i)

  -- tests of nodes
  abbrev TestLike : (Term → Bool) → (Term → Bool) → Type 0
  TestLike f g = (s t : Term) → TermLike N s t → f s ≡ g t

  is_var_like : (x y : ℕ) → N x y → TestLike (is_var x) (is_var y)
  is_var_like x y n _ _ (var_like {x = u} {y = v} h) = pairs x u y v n h
  is_var_like x y n _ _ atom_like = refl
  is_var_like x y n _ _ (pair_like h k) = refl

  is_atom_like : (a : Atom) → TestLike (is_atom a) (is_atom a)
  is_atom_like a _ _ (var_like h) = refl
  is_atom_like a _ _ atom_like = refl
  is_atom_like a _ _ (pair_like h k) = refl

  -- one pair of terms
  data LookedLike : Looked → Looked → Type 0 where
    fails_like : LookedLike fails fails
    agrees_like : LookedLike agrees agrees
    binds_like : {x y : ℕ} {s t : Term} → N x y → TermLike N s t → LookedLike (binds x s) (binds y t)
    parts_like : {s t u v s' t' u' v' : Term} → TermLike N s s' → TermLike N t t' → TermLike N u u' → TermLike N v v' → LookedLike (parts s t u v) (parts s' t' u' v')

  look_like : {s t s' t' : Term} → TermLike N s s' → TermLike N t t' → LookedLike (look s t) (look s' t')
  look_like (var_like {x} {y} h) (var_like {x = u} {y = v} k) = choose_like LookedLike (eqb x u) (eqb y v) _ _ _ _ (pairs x u y v h k) agrees_like (binds_like h (var_like k))
  look_like (var_like h) atom_like = binds_like h atom_like
  look_like (var_like h) (pair_like i j) = binds_like h (pair_like i j)
  look_like atom_like (var_like h) = binds_like h atom_like
  look_like (atom_like {a}) (atom_like {a = b}) = choose_like LookedLike (same_atom a b) (same_atom a b) (λ _. agrees) (λ _. fails) (λ _. agrees) (λ _. fails) refl agrees_like fails_like
  look_like atom_like (pair_like i j) = fails_like
  look_like (pair_like i j) (var_like h) = binds_like h (pair_like i j)
  look_like (pair_like i j) atom_like = fails_like
  look_like (pair_like i j) (pair_like k l) = parts_like i j k l

  -- one constraint
  reaches_like : {bs cs : Substitution} (k : Sort) (x y : ℕ) {c d : Constraint} → BindingsLike N bs cs → N x y → ConstraintLike N c d → reaches bs k x c ≡ reaches cs k y d
  reaches_like k x y b h (differ_like i j) = refl
  reaches_like {bs} {cs} k x y b h (typed_like {k = l} {s} {t} i) = ap (λ q. other_sort k l && q) (is_var_like x y h (walk bs s) (walk cs t) (walk_like s t b i))
  reaches_like k x y b h (absento_like i) = refl

  clashes_like : {bs cs : Substitution} (k : Sort) (x y : ℕ) {ds es : List Constraint} → BindingsLike N bs cs → N x y → ConstraintsLike N ds es → clashes bs k x ds ≡ clashes cs k y es
  clashes_like k x y b h nil_like = refl
  clashes_like k x y b h (cons_like i is) = ap₂ (λ p q. p || q) (reaches_like k x y b h i) (clashes_like k x y b h is)

  sort_fails_like : {bs cs : Substitution} {ds es : List Constraint} (k : Sort) {s t : Term} → BindingsLike N bs cs → ConstraintsLike N ds es → TermLike N s t → sort_fails bs ds k s ≡ sort_fails cs es k t
  sort_fails_like k b is (var_like {x} {y} h) = clashes_like k x y b h is
  sort_fails_like k b is atom_like = refl
  sort_fails_like k b is (pair_like h i) = refl

  trial_like : {bs cs : Substitution} {o o' : Option Substitution} → BindingsLike N bs cs → OptionLike (BindingsLike N) o o' → trial_fails bs o ≡ trial_fails cs o'
  trial_like b none_like = refl
  trial_like b (some_like k) = ap₂ eqb (length_like k) (length_like b)

  module _ (Waived : Bound → Type 0) where
    -- the traversal
    abbrev ScanLike : Outcome Bool → Outcome Bool → Type 0
    ScanLike = OutcomeLike Waived (λ x y. x ≡ y)

    scan_next_like : {ws vs : List Term} (left : ℕ) (go go' : List Term → Term → Outcome Bool) → TermsLike N ws vs →
        ((ws vs : List Term) (s t : Term) → TermsLike N ws vs → TermLike N s t → ScanLike (go ws s) (go' vs t)) → ScanLike (scan_next ws left go) (scan_next vs left go')
    scan_next_like left go go' nil_like f = done_like refl
    scan_next_like left go go' (cons_like {a = s} {b = t} {xs = ws} {ys = vs} h hs) f = f ws vs s t hs h

    scan_parts_like : {s t : Term} {ws vs : List Term} (left : ℕ) (go go' : List Term → Term → Outcome Bool) → TermLike N s t → TermsLike N ws vs →
        ((ws vs : List Term) (s t : Term) → TermsLike N ws vs → TermLike N s t → ScanLike (go ws s) (go' vs t)) → ScanLike (scan_parts s ws left go) (scan_parts t vs left go')
    scan_parts_like left go go' (var_like h) ks f = scan_next_like left go go' ks f
    scan_parts_like left go go' atom_like ks f = scan_next_like left go go' ks f
    scan_parts_like {ws = ws} {vs = vs} left go go' (pair_like {s} {t} {u} {v} h k) ks f =
        choose_like ScanLike (ltb (length ws) (most waiting)) (ltb (length vs) (most waiting)) _ _ _ _ (ap (λ n. ltb n (most waiting)) (length_like ks)) (f (t ∷ ws) (v ∷ vs) s u (cons_like k ks) h) stop_like

    pub scan_like : (f g : Term → Bool) → TestLike f g → {bs cs : Substitution} → BindingsLike N bs cs → (ws vs : List Term) (s t : Term) → TermsLike N ws vs → TermLike N s t → (left : ℕ) →
        ScanLike (scan f bs ws s left) (scan g cs vs t left)
    scan_like f g e k ws vs s t ks h zero = stop_like
    scan_like f g e {bs} {cs} k ws vs s t ks h (suc left) =
        let w = walk_like s t k h in
        choose_like ScanLike (f (walk bs s)) (g (walk cs t)) _ _ _ _ (e (walk bs s) (walk cs t) w) (done_like refl)
        (scan_parts_like left _ _ w ks (λ ws vs s t ks h. scan_like f g e k ws vs s t ks h left))

    -- the occurs check
    occurs_node_like : {n n' : Node} {es ds : List ℕ} {ws vs : List Term} (left : ℕ) (go go' : Checks) → NodeLike n n' → Pointwise N es ds → TermsLike N ws vs →
        ((es ds : List ℕ) (ws vs : List Term) (s t : Term) → Pointwise N es ds → TermsLike N ws vs → TermLike N s t → ScanLike (go es ws s) (go' ds vs t)) → ScanLike (occurs_node n es ws left go) (occurs_node n' ds vs left go')
    occurs_node_like left go go' sought_like is ks f = done_like refl
    occurs_node_like {es = es} {ds} left go go' passed_like is ks f = scan_next_like left (λ ws s. go es ws s) (λ vs t. go' ds vs t) ks (λ ws vs s t ks h. f es ds ws vs s t is ks h)
    occurs_node_like {ws = ws} {vs} left go go' (below_like {es} {ds} {s} {t} {u} {v} js h i) is ks f =
        choose_like ScanLike (ltb (length ws) (most waiting)) (ltb (length vs) (most waiting)) _ _ _ _ (ap (λ n. ltb n (most waiting)) (length_like ks)) (f es ds (t ∷ ws) (v ∷ vs) s u js (cons_like i ks) h) stop_like

    occurs_like : (x y : ℕ) → N x y → {bs cs : Substitution} → BindingsLike N bs cs → (es ds : List ℕ) (ws vs : List Term) (s t : Term) → Pointwise N es ds → TermsLike N ws vs → TermLike N s t → (left : ℕ) →
        ScanLike (occurs_check x bs es ws s left) (occurs_check y cs ds vs t left)
    occurs_like x y n k es ds ws vs s t is ks h zero = stop_like
    occurs_like x y n k es ds ws vs s t is ks h (suc left) =
        occurs_node_like left _ _ (node_of_like n is (way_like k h) (walk_like s t k h)) is ks (λ es ds ws vs s t is ks h. occurs_like x y n k es ds ws vs s t is ks h left)

    -- unification
    abbrev UnifyLike : Outcome (Option Substitution) → Outcome (Option Substitution) → Type 0
    UnifyLike = OutcomeLike Waived (OptionLike (BindingsLike N))

    bind_like : {bs cs : Substitution} (x y : ℕ) (s t : Term) → BindingsLike N bs cs → N x y → TermLike N s t → (left : ℕ) → UnifyLike (bind bs x s left) (bind cs y t left)
    bind_like x y s t k h i left = then_like (OptionLike (BindingsLike N)) _ _ (occurs_like x y h k [] [] [] [] s t nil_like nil_like i left)
        (λ a b l e. choose_like UnifyLike a b _ _ _ _ e (done_like none_like) (done_like (some_like (cons_like (h, i) k))))

    abbrev PairsLike : Pairs → Pairs → Type 0
    PairsLike = Pointwise (λ (p q : Term × Term). TermLike N p.0 q.0 × TermLike N p.1 q.1)

    abbrev GoesLike : Goes → Goes → Type 0
    GoesLike go go' = (bs cs : Substitution) (ws vs : Pairs) (s t s' t' : Term) (left : ℕ) → BindingsLike N bs cs → PairsLike ws vs → TermLike N s s' → TermLike N t t' → UnifyLike (go bs ws s t left) (go' cs vs s' t' left)

    unify_next_like : {bs cs : Substitution} {ws vs : Pairs} (left : ℕ) (go go' : Goes) → GoesLike go go' → BindingsLike N bs cs → PairsLike ws vs → UnifyLike (unify_next ws bs left go) (unify_next vs cs left go')
    unify_next_like left go go' f k nil_like = done_like (some_like k)
    unify_next_like {bs} {cs} left go go' f k (cons_like {a = w} {b = v} {xs = ws} {ys = vs} h hs) = f bs cs ws vs w.0 w.1 v.0 v.1 left k hs h.0 h.1

    unify_bound_like : {o o' : Option Substitution} {ws vs : Pairs} (left : ℕ) (go go' : Goes) → GoesLike go go' → OptionLike (BindingsLike N) o o' → PairsLike ws vs → UnifyLike (unify_bound o ws left go) (unify_bound o' vs left go')
    unify_bound_like left go go' f none_like ks = done_like none_like
    unify_bound_like left go go' f (some_like k) ks = unify_next_like left go go' f k ks

    unify_pair_like : {x y : Looked} {bs cs : Substitution} {ws vs : Pairs} (left : ℕ) (go go' : Goes) → GoesLike go go' → LookedLike x y → BindingsLike N bs cs → PairsLike ws vs → UnifyLike (unify_pair x bs ws left go) (unify_pair y cs vs left go')
    unify_pair_like left go go' f fails_like k ks = done_like none_like
    unify_pair_like left go go' f agrees_like k ks = unify_next_like left go go' f k ks
    unify_pair_like left go go' f (binds_like {x} {y} {s} {t} h i) k ks = then_like (OptionLike (BindingsLike N)) _ _ (bind_like x y s t k h i left) (λ a b l e. unify_bound_like l go go' f e ks)
    unify_pair_like {bs = bs} {cs} {ws} {vs} left go go' f (parts_like {s} {t} {u} {v} {s'} {t'} {u'} {v'} h₁ h₂ h₃ h₄) k ks =
        choose_like UnifyLike (ltb (length ws) (most waiting)) (ltb (length vs) (most waiting)) _ _ _ _ (ap (λ n. ltb n (most waiting)) (length_like ks)) (f bs cs ((t, v) ∷ ws) ((t', v') ∷ vs) s u s' u' left k (cons_like (h₂, h₄) ks) h₁ h₃) stop_like

    unify_like : (fuel : ℕ) → GoesLike (unify fuel) (unify fuel)
    unify_like zero bs cs ws vs s t s' t' left k ks h i = stop_like
    unify_like (suc fuel) bs cs ws vs s t s' t' zero k ks h i = stop_like
    unify_like (suc fuel) bs cs ws vs s t s' t' (suc left) k ks h i =
        unify_pair_like left _ _ (λ bs cs ws vs s t s' t' l k ks h i. unify_like fuel bs cs ws vs s t s' t' l k ks h i) (look_like (walk_like s s' k h) (walk_like t t' k i)) k ks

    pub unify_terms_like : {bs cs : Substitution} (s t s' t' : Term) → BindingsLike N bs cs → TermLike N s s' → TermLike N t t' → (left : ℕ) → UnifyLike (unify_terms bs s t left) (unify_terms cs s' t' left)
    unify_terms_like {bs} {cs} s t s' t' k h i left = unify_like left bs cs [] [] s t s' t' left k nil_like h i

    -- reviews
    reviewed_like : {bs cs : Substitution} {ds es : List Constraint} {c d : Constraint} → BindingsLike N bs cs → ConstraintsLike N ds es → ConstraintLike N c d → (left : ℕ) → ScanLike (reviewed bs ds c left) (reviewed cs es d left)
    reviewed_like b is (differ_like {s} {t} {u} {v} h k) left = then_like (λ x y. x ≡ y) _ _ (unify_terms_like s t u v b h k left) (λ o o' l e. done_like (trial_like b e))
    reviewed_like b is (typed_like {k} {s} {t} h) left = done_like (sort_fails_like k b is (walk_like s t b h))
    reviewed_like b is (absento_like {a} {s} {t} h) left = scan_like (is_atom a) (is_atom a) (is_atom_like a) b [] [] s t nil_like h left

    pub review_like : {bs cs : Substitution} {ds es : List Constraint} {c d : Constraint} → BindingsLike N bs cs → ConstraintsLike N ds es → ConstraintLike N c d → (left : ℕ) → ScanLike (review bs ds c left) (review cs es d left)
    review_like b is h left = step_like (λ x y. x ≡ y) left _ _ (λ l. reviewed_like b is h l)

    pub review_all_like : {bs cs : Substitution} {ds es fs gs : List Constraint} → BindingsLike N bs cs → ConstraintsLike N ds es → ConstraintsLike N fs gs → (left : ℕ) → ScanLike (review_all bs ds fs left) (review_all cs es gs left)
    review_all_like b is nil_like left = done_like refl
    review_all_like b is (cons_like h hs) left = then_like (λ x y. x ≡ y) _ _ (review_like b is h left) (λ x y l e. choose_like ScanLike x y _ _ _ _ e (done_like refl) (review_all_like b is hs l))

-- Arguments as written, and the last variable on an argument's way

pub as_written_equivariant : Equivariant as_written
as_written_equivariant N pairs bs cs s t k h = h

pub argument_equivariant : Equivariant argument
argument_equivariant N pairs bs cs s t k h = argument_like N pairs k h

-- "binds each parameter to its argument"
module _ (pass : Passing) (equivariant : Equivariant pass) (N : Renaming) (pairs : OneToOne N) where
  params_like : (base base' new new' : ℕ) {ts us : List Term} {bs cs : Substitution} → ((i : ℕ) → i < length ts → N (new + i) (new' + i)) →
      TermsLike (made_from N base base') ts us → BindingsLike N bs cs → BindingsLike N (bind_params_by pass new base ts bs) (bind_params_by pass new' base' us cs)
  params_like base base' new new' f nil_like k = k
  params_like base base' new new' {bs = bs} {cs} f (cons_like {a = s} {b = t} {xs = xs} h hs) k =
      let first : N new new' = subst₂ N (omega arith) (omega arith) (f 0 (omega arith)) in
      params_like base base' (suc new) (suc new') (λ i l. subst₂ N (omega arith) (omega arith) (f (suc i) (omega arith))) hs (cons_like (first, equivariant N pairs bs cs (shift base s) (shift base' t) k (shift_like base base' h)) k)

  pub bind_params_like : (new new' base base' : ℕ) {ts us : List Term} {bs cs : Substitution} → ((i : ℕ) → i < length ts → N (new + i) (new' + i)) →
      TermsLike (made_from N base base') ts us → BindingsLike N bs cs → BindingsLike N (bind_params_by pass new base ts bs) (bind_params_by pass new' base' us cs)
  bind_params_like new new' base base' = params_like base base' new new'
