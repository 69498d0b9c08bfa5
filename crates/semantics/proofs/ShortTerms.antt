-- Document 02, Note 10, for every occurs check of a run: no term that is bound, kept or waits is larger than the program's largest, as terms are only taken apart and their variables renumbered.
use Prim.Native.Nat.{◌*◌, ◌+◌, ◌≤◌, max, suc, zero, ℕ}
use mathlib.Core.Bool.{Bool, false, true}
use mathlib.Core.List.{List, [], ◌++◌, ◌∷◌}
use mathlib.Core.Option.{Option, none, some}
use mathlib.Core.Path.{◌∙◌, ◌≡◌, ap, ap₂, refl, subst, sym}
use native.Mathlib.Nat.{le-max_left, le-max_right, le_trans}
use native.Mathlib.Omega.{arith}
use lib.Dec.{eqb, leb, ltb}
use lib.ListN.{get_elem?, length, length-append}
use Rattle.rules.specs.Lists.{Each, Some}
use Rattle.rules.specs.Syntax.{Constraint, Goal, Goals, Program, Relation, Term, absento, atom, call, conj, constrain, differ, disj, equal, more, one, pair, typed, var}
use Rattle.rules.specs.Written.{term_words}
use Rattle.semantics.specs.Path.{ChoicePoint, Passing, Path, Taken, Task, as_written, bind_params_by, cut, equal_taken, goals_count, goes, leaves, make_call_by, take_goal_by, taken_by, wait_all, waiting_on, within}
use Rattle.semantics.specs.Review.{review, review_all}
use Rattle.semantics.specs.Round.{State, Tally, start}
use Rattle.semantics.specs.Situation.{ChecksFor, PathLeft, Pairing, Reached, Turns, Unifies, after_equality, agreed, bound, by_equality, by_writer, failed, gave_answer, gave_none, gave_repeat, goes_on, here, is_at_pair, largest_in_constraint, largest_in_goal, largest_in_goals, largest_of, largest_term, onto, parted, takes_goal, tries_last, tries_next, was_cut, when_taken}
use Rattle.semantics.specs.Steps.{Bound, Outcome, and_then, constraints, disjunctions, done, goals, most, stop, variables}
use Rattle.semantics.specs.Substitution.{Substitution, argument, same_atom, shift, shift_constraint, walk}
use Rattle.semantics.specs.Unify.{Looked, Pairs, agrees, bind, binds, fails, look, occurs_check, parts, unify, unify_terms}
use Rattle.semantics.proofs.Basics.{by_choose, clash, each_append, some_each}
use Rattle.semantics.proofs.OccursCheck.{check_looks, steps_left}
use Rattle.semantics.proofs.Sound.{argument_keeps}
use Rattle.semantics.proofs.SubstitutionLaws.{each_lookup, walk_for_keeps}
use Rattle.semantics.proofs.UnifyLaws.{UnifyStep, agree, extend, fail, halt, jammed, occurs, split, unify_rest, unify_step}

-- another environment does not change the number of words
pub shift_words : (base : ℕ) (t : Term) → length (term_words (shift base t)) ≡ length (term_words t)
unfolding term_words
shift_words base (var x) = refl
shift_words base (atom a) = refl
shift_words base (pair s t) =
    ap suc (length-append (term_words (shift base s)) (term_words (shift base t)) ∙ ap₂ ◌+◌ (shift_words base s) (shift_words base t) ∙ sym (length-append (term_words s) (term_words t)))

shift_largest : (base : ℕ) (c : Constraint) → largest_in_constraint (shift_constraint base c) ≡ largest_in_constraint c
shift_largest base (differ s t) = ap₂ max (shift_words base s) (shift_words base t)
shift_largest base (typed k t) = shift_words base t
shift_largest base (absento a t) = shift_words base t

-- both are within what the larger is within
both : {m n T : ℕ} → max m n ≤ T → (m ≤ T) × (n ≤ T)
both {m} {n} h = (le_trans (le-max_left m n) h, le_trans (le-max_right m n) h)

-- a binding adds itself
bind_adds : (bs : Substitution) (x : ℕ) (u : Term) (left : ℕ) (bs' : Substitution) (m : ℕ) → bind bs x u left ≡ done (some bs') m → ((x, u) ∷ bs) ≡ bs'
bind_adds bs x u left bs' m e = go (occurs_check x bs [] [] u left) refl
  where
    go : (o : Outcome Bool) → occurs_check x bs [] [] u left ≡ o → ((x, u) ∷ bs) ≡ bs'
    go (stop why l) q = clash (cc)
    go (done true l) q = let d : ◌≡◌ {A = Outcome (Option Substitution)} (done none l) (done (some bs') m) = rw q at e in clash (cc)
    go (done false l) q = let d : ◌≡◌ {A = Outcome (Option Substitution)} (done (some ((x, u) ∷ bs)) l) (done (some bs') m) = rw q at e in cc

-- Terms of at most T words

module _ (T : ℕ) where
  abbrev pub Short : Term → Type 0
  Short t = length (term_words t) ≤ T

  abbrev pub ShortBindings : Substitution → Type 0
  ShortBindings bs = Each (λ (b : ℕ × Term). Short b.1) bs

  shift_short : (base : ℕ) (t : Term) → Short t → Short (shift base t)
  shift_short base t h = subst (λ (m : ℕ). m ≤ T) (sym (shift_words base t)) h

  pair_short : (s t : Term) → Short (pair s t) → Short s × Short t
  unfolding term_words
  pair_short s t h = let e = length-append (term_words s) (term_words t) in (omega arith, omega arith)

  -- a bound variable leads to a short term, an open one is a term by itself
  walk_short : (bs : Substitution) → ShortBindings bs → (t : Term) → Short t → Short (walk bs t)
  walk_short bs i t h = walk_for_keeps Short (length bs) bs (λ x u e k. each_lookup (λ x t. Short t) bs i x u e) t h

  argument_short : (bs : Substitution) → ShortBindings bs → (t : Term) → Short t → Short (argument bs t)
  argument_short bs i t h = argument_keeps Short bs (λ x u e k. each_lookup (λ x t. Short t) bs i x u e) t h

  -- Unification

  abbrev LookShort : Looked → Type 0
  LookShort fails = Unit {0}
  LookShort agrees = Unit {0}
  LookShort (binds x r) = Short r
  LookShort (parts a b c d) = (Short a × Short b) × (Short c × Short d)

  look_short : (f g : Term) → Short f → Short g → LookShort (look f g)
  look_short (var x) (var y) h k = by_choose LookShort (eqb x y) _ _ (λ e. tt) (λ e. k)
  look_short (var x) (atom b) h k = k
  look_short (var x) (pair s t) h k = k
  look_short (atom a) (var y) h k = h
  look_short (atom a) (atom b) h k = by_choose LookShort (same_atom a b) _ _ (λ e. tt) (λ e. tt)
  look_short (atom a) (pair s t) h k = tt
  look_short (pair s t) (var y) h k = h
  look_short (pair s t) (atom b) h k = tt
  look_short (pair s t) (pair u v) h k = (pair_short s t h, pair_short u v k)

  -- a pair that unification comes to, with its bindings and the pairs that wait
  pub record ShortPair (bs : Substitution) (ws : Pairs) (s t : Term) : Type 0 where
    pub bindings_short : ShortBindings bs
    pub waits_short : Each (λ (w : Term × Term). Short w.0 × Short w.1) ws
    pub first_short : Short s
    pub second_short : Short t

  module _ {bs : Substitution} {ws : Pairs} {s t : Term} (h : ShortPair bs ws s t) where
    looked_short : LookShort (look (walk bs s) (walk bs t))
    looked_short = look_short (walk bs s) (walk bs t) (walk_short bs h.bindings_short s h.first_short) (walk_short bs h.bindings_short t h.second_short)

    pub checked_short : (x : ℕ) (r : Term) → look (walk bs s) (walk bs t) ≡ binds x r → Short r
    checked_short x r q = subst LookShort q looked_short

    bound_short : (x : ℕ) (r : Term) (left : ℕ) (bs' : Substitution) (m : ℕ) → look (walk bs s) (walk bs t) ≡ binds x r → bind bs x r left ≡ done (some bs') m → ShortBindings bs'
    bound_short x r left bs' m q p = subst ShortBindings (bind_adds bs x r left bs' m p) (checked_short x r q, h.bindings_short)

    parted_short : (a b c d : Term) → look (walk bs s) (walk bs t) ≡ parts a b c d → ShortPair bs ((b, d) ∷ ws) a c
    parted_short a b c d q = let k = subst LookShort q looked_short in record { bindings_short = h.bindings_short; waits_short = ((k.0.1, k.1.1), h.waits_short); first_short = k.0.0; second_short = k.1.0 }

  next_short : {bs bs' : Substitution} {w : Term × Term} {ws : Pairs} {s t : Term} → ShortPair bs (w ∷ ws) s t → ShortBindings bs' → ShortPair bs' ws w.0 w.1
  next_short h i = record { bindings_short = i; waits_short = h.waits_short.1; first_short = h.waits_short.0.0; second_short = h.waits_short.0.1 }

  -- every pair that it comes to
  pub pairing_short : {bs cs : Substitution} {ws vs : Pairs} {s t u v : Term} {left l : ℕ} → Pairing bs ws s t left cs vs u v l → ShortPair bs ws s t → ShortPair cs vs u v
  pairing_short is_at_pair h = h
  pairing_short (agreed q x) h = pairing_short x (next_short h h.bindings_short)
  pairing_short (bound {left = left} y r bs' m q p x) h = pairing_short x (next_short h (bound_short h y r left bs' m q p))
  pairing_short (parted a b c d q i x) h = pairing_short x (parted_short h a b c d q)

  -- so every occurs check, of an equality or of a trial, has short terms before it
  pub trial_looks : {bs cs : Substitution} {ws : Pairs} {s t u v : Term} {left l : ℕ} → ShortPair bs [] s t → Pairing bs [] s t left cs ws u v (suc l) → (x : ℕ) (r : Term) → look (walk cs u) (walk cs v) ≡ binds x r →
      l ≤ steps_left (occurs_check x cs [] [] r l) + T * (length cs + 1)
  trial_looks {cs = cs} {l = l} h p x r q = let i = pairing_short p h in check_looks x cs T i.bindings_short r (checked_short i x r q) l

  abbrev UnifiesShort : ℕ → Type 0
  UnifiesShort fuel = (bs : Substitution) (ws : Pairs) (s t : Term) (left : ℕ) (bs' : Substitution) (m : ℕ) → unify fuel bs ws s t left ≡ done (some bs') m → ShortPair bs ws s t → ShortBindings bs'

  -- and the bindings, where it succeeds
  pub unify_short : (fuel : ℕ) → UnifiesShort fuel
  unify_short zero bs ws s t left bs' m e h = clash (cc)
  unify_short (suc fuel) bs ws s t zero bs' m e h = clash (cc)
  unify_short (suc fuel) bs ws s t (suc left) bs' m e h = go (unify_step bs ws s t left) (unify_short fuel)
    where
      rest : (ws : Pairs) (cs : Substitution) (l : ℕ) → unify_rest fuel cs ws l ≡ done (some bs') m → ShortPair bs ws s t → ShortBindings cs → UnifiesShort fuel → ShortBindings bs'
      rest [] cs l d k i ih = let z : cs ≡ bs' = cc in subst ShortBindings z i
      rest (w ∷ vs) cs l d k i ih = ih cs vs w.0 w.1 l bs' m d (next_short k i)

      go : UnifyStep bs ws s t left → UnifiesShort fuel → ShortBindings bs'
      go (fail q d) ih = clash (cc (d fuel))
      go (agree q d) ih = rest ws bs left (sym (d fuel) ∙ e) h h.bindings_short ih
      go (halt x u why l q p d) ih = clash (cc (d fuel))
      go (occurs x u l q p d) ih = clash (cc (d fuel))
      go (extend x u cs l q p d) ih = rest ws cs l (sym (d fuel) ∙ e) h (bound_short h x u left cs l q p) ih
      go (split a b c d q p j) ih = ih bs ((b, d) ∷ ws) a c left bs' m (sym (j fuel) ∙ e) (parted_short h a b c d q)
      go (jammed a b c d q p j) ih = clash (cc (j fuel))

  -- Paths and states

  abbrev pub ShortTasks : List Task → Type 0
  ShortTasks ts = Each (λ (task : Task). largest_in_goal task.1 ≤ T) ts

  abbrev pub ShortKept : List Constraint → Type 0
  ShortKept cs = Each (λ c. largest_in_constraint c ≤ T) cs

  -- what is bound, kept and waits on a path
  pub record ShortPath (p : Path) : Type 0 where
    pub bindings_short : ShortBindings p.bindings
    pub kept_short : ShortKept p.kept
    pub stack_short : ShortTasks p.stack

  abbrev pub ShortChoices : List ChoicePoint → Type 0
  ShortChoices cs = Each (λ c. ShortPath c.path × (largest_in_goals c.rest ≤ T)) cs

  pub record ShortState (s : State) : Type 0 where
    pub task_short : largest_in_goal s.task.1 ≤ T
    pub path_short : ShortPath s.path
    pub choices_short : ShortChoices s.choices

  abbrev TakenShort : Outcome Taken → Type 0
  TakenShort (stop why l) = Unit {0}
  TakenShort (done leaves l) = Unit {0}
  TakenShort (done cut l) = Unit {0}
  TakenShort (done (goes p cs) l) = ShortPath p × ShortChoices cs

  then_short : {A : Type 0} (o : Outcome A) (go : A → ℕ → Outcome Taken) → ((a : A) (l : ℕ) → o ≡ done a l → TakenShort (go a l)) → TakenShort (and_then o go)
  then_short (done a l) go h = h a l refl
  then_short (stop why l) go h = tt

  within_short : (b : Bound) (n left : ℕ) (go : Unit {0} → Outcome Taken) → TakenShort (go tt) → TakenShort (within b n left go)
  within_short b n left go h = by_choose TakenShort (leb n (most b)) go _ (λ q. h) (λ q. tt)

  -- a conjunction's goals
  wait_short : (base : ℕ) (gs : Goals) (ts : List Task) → largest_in_goals gs ≤ T → ShortTasks ts → ShortTasks (wait_all base gs ts)
  unfolding largest_in_goals
  wait_short base (one g) ts h i = (h, i)
  wait_short base (more g gs) ts h i = let k = both h in (k.0, wait_short base gs ts k.1 i)

  -- the body that a call puts to wait
  relation_short : (P : Program) → largest_term P ≤ T → (r : ℕ) (R : Relation) → get_elem? P r ≡ some R → largest_in_goal R.body ≤ T
  relation_short [] h r R e = clash (cc)
  relation_short (S ∷ P) h zero R e = let z : S ≡ R = cc in subst (λ (R : Relation). largest_in_goal R.body ≤ T) z (both h).0
  relation_short (S ∷ P) h (suc r) R e = relation_short P (both h).1 r R e

  -- a passing of arguments that makes none larger
  abbrev pub KeepsShort : Passing → Type 0
  KeepsShort pass = (bs : Substitution) → ShortBindings bs → (t : Term) → Short t → Short (pass bs t)

  module _ (pass : Passing) (keeps : KeepsShort pass) (P : Program) (relations : largest_term P ≤ T) where
    -- parameters are bound to arguments, which are terms of the program
    params_short : (new base : ℕ) (ts : List Term) (bs : Substitution) → largest_of ts ≤ T → ShortBindings bs → ShortBindings (bind_params_by pass new base ts bs)
    params_short new base [] bs h i = i
    params_short new base (t ∷ ts) bs h i = let k = both h in params_short (suc new) base ts ((new, pass bs (shift base t)) ∷ bs) k.1 (keeps bs i (shift base t) (shift_short base t k.0), i)

    module _ (k : ℕ) (p : Path) (cs : List ChoicePoint) (path : ShortPath p) (choices : ShortChoices cs) where
      equal_short : (r : Option Substitution) (l : ℕ) → ((bs : Substitution) → r ≡ some bs → ShortBindings bs) → TakenShort (equal_taken p cs r l)
      equal_short none l h = tt
      equal_short (some bs) l h =
          by_choose TakenShort (eqb (length bs) (length p.bindings)) _ _ (λ q. (path, choices))
          (λ q. then_short (review_all bs p.kept p.kept l) _ (λ broken m e. by_choose TakenShort broken _ _ (λ e. tt) (λ e. (record { bindings_short = h bs refl; kept_short = path.kept_short; stack_short = path.stack_short }, choices))))

      call_short : (base : ℕ) (ts : List Term) (l : ℕ) → largest_of ts ≤ T → (o : Option Relation) → ((R : Relation) → o ≡ some R → largest_in_goal R.body ≤ T) → TakenShort (make_call_by pass p cs base ts o l)
      call_short base ts l h none i = tt
      call_short base ts l h (some R) i =
          within_short variables (p.made + R.vars) l _ (within_short goals (suc p.put) l _
          (record { bindings_short = params_short p.made base ts p.bindings h path.bindings_short; kept_short = path.kept_short; stack_short = (i R refl, path.stack_short) }, choices))

      waiting_short : (stack : List Task) (n : ℕ) → ShortTasks stack → ShortPath (waiting_on p stack n)
      waiting_short stack n h = record { bindings_short = path.bindings_short; kept_short = path.kept_short; stack_short = h }

      -- whatever the goal
      taken_short : (base : ℕ) (g : Goal) (l : ℕ) → largest_in_goal g ≤ T → TakenShort (taken_by pass k P p cs base g l)
      unfolding largest_in_goal largest_in_goals
      taken_short base (equal s t) l h =
          then_short (unify_terms p.bindings (shift base s) (shift base t) l) _ (λ r m e. equal_short r m (λ bs q.
          unify_short l p.bindings [] (shift base s) (shift base t) l bs m (e ∙ ap (λ (o : Option Substitution). done o m) q)
          (record { bindings_short = path.bindings_short; waits_short = tt; first_short = shift_short base s (both h).0; second_short = shift_short base t (both h).1 })))
      taken_short base (constrain d) l h =
          let c = shift_constraint base d in
          within_short constraints (suc (length p.kept)) l _ (then_short (review p.bindings (p.kept ++ (c ∷ [])) c l) _ (λ broken m e. by_choose TakenShort broken _ _ (λ e. tt) (λ e.
          (record { bindings_short = path.bindings_short; kept_short = (each_append (λ c. largest_in_constraint c ≤ T) p.kept (c ∷ [])).1 (path.kept_short, (subst (λ (m : ℕ). m ≤ T) (sym (shift_largest base d)) h, tt)); stack_short = path.stack_short }, choices))))
      taken_short base (conj gs) l h = within_short goals (p.put + goals_count gs) l _ (waiting_short (wait_all base gs p.stack) (p.put + goals_count gs) (wait_short base gs p.stack h path.stack_short), choices)
      taken_short base (disj (one g)) l h = within_short goals (suc p.put) l _ (waiting_short ((base, g) ∷ p.stack) (suc p.put) (h, path.stack_short), choices)
      taken_short base (disj (more g rest)) l h =
          within_short goals (suc p.put) l _ (within_short disjunctions (suc (length cs)) l _
          (waiting_short ((base, g) ∷ p.stack) (suc p.put) ((both h).0, path.stack_short), ((path, (both h).1), choices)))
      taken_short base (call r ts) l h = by_choose TakenShort (ltb p.calls k) _ _ (λ q. call_short base ts l h (get_elem? P r) (relation_short P relations r)) (λ q. tt)

    module _ (n k : ℕ) where
      -- what taking the goal of a state comes to
      takes_short : (s : State) → ShortState s → TakenShort (takes_goal pass P n k s)
      takes_short s h = go s.tally.left
        where
          go : (left : ℕ) → TakenShort (take_goal_by pass k P s.path s.choices s.task.0 s.task.1 left)
          go zero = tt
          go (suc l) = taken_short k s.path s.choices h.path_short h.choices_short s.task.0 s.task.1 l h.task_short

      -- a path that is left, with the disjunctions that have alternatives left
      left_short : {s : State} {t : Tally} {cs : List ChoicePoint} → PathLeft pass P n k s t cs → ShortState s → ShortChoices cs
      left_short (failed l e) h = h.choices_short
      left_short (was_cut l e) h = h.choices_short
      left_short {s} (gave_none p cs l e r i) h = (subst TakenShort e (takes_short s h)).1
      left_short {s} (gave_answer p m x ws l e i new) h = (subst TakenShort x.takes (takes_short s h)).1
      left_short {s} (gave_repeat p m x ws l e i given) h = (subst TakenShort x.takes (takes_short s h)).1

      -- a turn keeps it
      turns_short : {s s' : State} → Turns pass P n k s s' → ShortState s → ShortState s'
      unfolding largest_in_goals
      turns_short {s} (goes_on p cs l task stack e r) h =
          let (path, choices) : ShortPath p × ShortChoices cs = subst TakenShort e (takes_short s h) in let waits = subst ShortTasks r path.stack_short in
          record { task_short = waits.0; path_short = record { bindings_short = path.bindings_short; kept_short = path.kept_short; stack_short = waits.1 }; choices_short = choices }
      turns_short (tries_last t c cs g x e) h =
          let i = left_short x h in let path = i.0.0 in
          record { task_short = subst (λ (gs : Goals). largest_in_goals gs ≤ T) e i.0.1; path_short = record { bindings_short = path.bindings_short; kept_short = path.kept_short; stack_short = path.stack_short }; choices_short = i.1 }
      turns_short (tries_next t c cs g gs x e) h =
          let i = left_short x h in let path = i.0.0 in let j = both (subst (λ (gs : Goals). largest_in_goals gs ≤ T) e i.0.1) in
          record { task_short = j.0; path_short = record { bindings_short = path.bindings_short; kept_short = path.kept_short; stack_short = path.stack_short }; choices_short = ((path, j.1), i.1) }

      pub reached_short : {s s' : State} → Reached pass P n k s s' → ShortState s → ShortState s'
      reached_short here h = h
      reached_short (onto x r) h = reached_short r (turns_short x h)

      -- the two terms of a differ that is kept
      differ_short : (u v : Term) (cs : List Constraint) → ShortKept cs → Some (λ c. c ≡ differ u v) cs → Short u × Short v
      differ_short u v cs h i = some_each (λ c. c ≡ differ u v) (λ c. largest_in_constraint c ≤ T) cs (λ c j e. both (subst (λ (c : Constraint). largest_in_constraint c ≤ T) e j)) h i

      alone : {bs : Substitution} {u v : Term} → ShortBindings bs → Short u × Short v → ShortPair bs [] u v
      alone h i = record { bindings_short = h; waits_short = tt; first_short = i.0; second_short = i.1 }

      equality_short : {s : State} → ShortState s → (base : ℕ) (u v : Term) → s.task ≡ (base, equal u v) → ShortPair s.path.bindings [] (shift base u) (shift base v)
      unfolding largest_in_goal
      equality_short h base u v e = let i = both (subst (λ (task : Task). largest_in_goal task.1 ≤ T) e h.task_short) in alone h.path_short.bindings_short (shift_short base u i.0, shift_short base v i.1)

      -- the terms that are unified in a state, and the bindings under which they are
      pub unifies_short : {s : State} {bs : Substitution} {u v : Term} → ShortState s → Unifies pass P n k s bs u v → ShortPair bs [] u v
      unfolding largest_in_goal
      unifies_short h (by_equality base u v e) = equality_short h base u v e
      unifies_short h (when_taken base u v e) =
          let i = both (subst (λ (task : Task). largest_in_goal task.1 ≤ T) e h.task_short) in alone h.path_short.bindings_short (shift_short base u i.0, shift_short base v i.1)
      unifies_short {s} h (after_equality base a b left bs l u v e q i) =
          alone (unify_short left s.path.bindings [] (shift base a) (shift base b) left bs l q (equality_short h base a b e)) (differ_short u v s.path.kept h.path_short.kept_short i)
      unifies_short {s} h (by_writer p m u v x i) = let path = (subst TakenShort x.takes (takes_short s h)).0 in alone path.bindings_short (differ_short u v p.kept path.kept_short i)

      -- every occurs check in it
      check_in_short : {s : State} {x : ℕ} {bs : Substitution} {r : Term} {left : ℕ} → ShortState s → ChecksFor pass P n k s x bs r left → left ≤ steps_left (occurs_check x bs [] [] r left) + T * (length bs + 1)
      check_in_short {x = x} {r = r} h c = trial_looks (unifies_short h c.unifies) c.comes x r c.will_bind

-- Rounds of the program R ∷ Rs, whose query is R

module _ (R : Relation) (Rs : Program) where
  start_short : (t : Tally) → ShortState (largest_term (R ∷ Rs)) (start R t)
  start_short t = record { task_short = le-max_left (largest_in_goal R.body) (largest_term Rs); path_short = record { bindings_short = tt; kept_short = tt; stack_short = tt }; choices_short = tt }

  module _ (pass : Passing) (keeps : KeepsShort (largest_term (R ∷ Rs)) pass) (n k : ℕ) (t : Tally) (s : State) (reached : Reached pass (R ∷ Rs) n k (start R t) s) where
    -- no term that is bound, kept or waits is larger than the program's largest
    pub terms_short_by : ShortState (largest_term (R ∷ Rs)) s
    terms_short_by = reached_short (largest_term (R ∷ Rs)) pass keeps (R ∷ Rs) (omega arith) n k reached (start_short t)

    pub checks_look_by : (x : ℕ) (bs : Substitution) (r : Term) (left : ℕ) → ChecksFor pass (R ∷ Rs) n k s x bs r left → left ≤ steps_left (occurs_check x bs [] [] r left) + largest_term (R ∷ Rs) * (length bs + 1)
    checks_look_by x bs r left c = check_in_short (largest_term (R ∷ Rs)) pass keeps (R ∷ Rs) (omega arith) n k terms_short_by c

  module _ (n k : ℕ) (t : Tally) (s : State) where
    -- The code's run: in each state of a round
    pub every_term_short : Reached argument (R ∷ Rs) n k (start R t) s → ShortState (largest_term (R ∷ Rs)) s
    every_term_short = terms_short_by argument (argument_short (largest_term (R ∷ Rs))) n k t s

    -- "one check looks at no more than T times (v + 1) nodes, T being the words of the program's largest term and v the bound variables of the path, a trial's own among them"
    pub every_check_looks : Reached argument (R ∷ Rs) n k (start R t) s →
        (x : ℕ) (bs : Substitution) (r : Term) (left : ℕ) → ChecksFor argument (R ∷ Rs) n k s x bs r left → left ≤ steps_left (occurs_check x bs [] [] r left) + largest_term (R ∷ Rs) * (length bs + 1)
    every_check_looks = checks_look_by argument (argument_short (largest_term (R ∷ Rs))) n k t s

    -- and document 01's run, which passes arguments as written
    pub every_term_short_as_written : Reached as_written (R ∷ Rs) n k (start R t) s → ShortState (largest_term (R ∷ Rs)) s
    every_term_short_as_written = terms_short_by as_written (λ bs i t h. h) n k t s

    pub every_check_looks_as_written : Reached as_written (R ∷ Rs) n k (start R t) s →
        (x : ℕ) (bs : Substitution) (r : Term) (left : ℕ) → ChecksFor as_written (R ∷ Rs) n k s x bs r left → left ≤ steps_left (occurs_check x bs [] [] r left) + largest_term (R ∷ Rs) * (length bs + 1)
    every_check_looks_as_written = checks_look_by as_written (λ bs i t h. h) n k t s
