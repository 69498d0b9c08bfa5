-- Steps of taking a goal and of writing an answer: what they spend, and that more steps change nothing where they did not run out.
use Prim.Native.Nat.{◌+◌, ◌≤◌, suc, ℕ}
use mathlib.Core.Bool.{Bool, false, true}
use mathlib.Core.List.{List, [], ◌++◌, ◌∷◌, map}
use mathlib.Core.Option.{Option, none, some}
use mathlib.Core.Path.{◌≡◌}
use native.Mathlib.Omega.{arith}
use lib.Dec.{eqb, leb, ltb}
use lib.ListN.{get_elem?, length}
use Rattle.rules.specs.Reading.{choose}
use Rattle.rules.specs.Syntax.{Constraint, Goal, Program, Relation, Term, absento, call, conj, constrain, differ, disj, equal, more, one, typed}
use Rattle.semantics.specs.Answer.{all_lines, answer, lines_of, look_through, parameters, trial_bindings, trial_lines}
use Rattle.semantics.specs.Path.{ChoicePoint, Path, Taken, Passing, bound_to, called, cut, equal_taken, goals_count, goes, keeping, leaves, make_call, make_call_by, take_goal, taken, taken_by, within}
use Rattle.semantics.specs.Review.{review, review_all, reviewed, trial_fails}
use Rattle.semantics.specs.Steps.{Bound, Outcome, constraints, disjunctions, goals, most, variables}
use Rattle.semantics.specs.Substitution.{Substitution, shift, shift_constraint}
use Rattle.semantics.specs.Unify.{is_atom, never, scan, unify_terms}
use Rattle.semantics.proofs.Basics.{by_choose}
use Rattle.semantics.proofs.ScanLaws.{scan_more, scan_spent}
use Rattle.semantics.proofs.StepLaws.{More, Spent, more_bound, more_done, more_then, spent_then, spent_up, step_more, step_spent}
use Rattle.semantics.proofs.UnifyLaws.{unify_more, unify_spent}

-- Spending

review_spent : (bs : Substitution) (cs : List Constraint) (c : Constraint) (left : ℕ) → Spent left left (review bs cs c left)
review_spent bs cs c left = step_spent left _ (λ l. on c l)
  where
    on : (c : Constraint) (l : ℕ) → Spent l (suc l) (reviewed bs cs c l)
    on (differ s t) l = spent_then l (suc l) (unify_terms bs s t l) _ (spent_up l l l (suc l) (unify_terms bs s t l) (omega arith) (omega arith) (unify_spent l bs [] s t l)) (λ r m h. h)
    on (typed k t) l = omega arith
    on (absento a t) l = spent_up l l l (suc l) (scan (is_atom a) bs [] t l) (omega arith) (omega arith) (scan_spent (is_atom a) bs l [] t)

review_all_spent : (bs : Substitution) (cs later : List Constraint) (left : ℕ) → Spent left left (review_all bs cs later left)
review_all_spent bs cs [] left = omega arith
review_all_spent bs cs (c ∷ later) left = spent_then left left (review bs cs c left) _ (review_spent bs cs c left) (λ broken l h.
    by_choose (Spent left left) broken _ _ (λ _. h) (λ _. spent_up l l left left (review_all bs cs later l) h h (review_all_spent bs cs later l)))

-- a stop at a bound gives the goal's own step back
within_spent : (b : Bound) (n left : ℕ) (go : Unit {0} → Outcome Taken) → Spent left (suc left) (go tt) → Spent left (suc left) (within b n left go)
within_spent b n left go h = by_choose (Spent left (suc left)) (leb n (most b)) go _ (λ _. h) (λ _. omega arith)

equal_spent : (p : Path) (cs : List ChoicePoint) (left : ℕ) (r : Option Substitution) (l : ℕ) → l ≤ left → Spent left (suc left) (equal_taken p cs r l)
equal_spent p cs left none l h = h
equal_spent p cs left (some bs) l h = by_choose (Spent left (suc left)) (eqb (length bs) (length p.bindings)) _ _ (λ _. h) (λ _.
    spent_then left (suc left) (review_all bs p.kept p.kept l) _ (spent_up l l left (suc left) (review_all bs p.kept p.kept l) h (omega arith) (review_all_spent bs p.kept p.kept l)) (λ broken m i.
    by_choose (Spent left (suc left)) broken _ _ (λ _. i) (λ _. i)))

make_spent : (pass : Passing) (p : Path) (cs : List ChoicePoint) (base : ℕ) (ts : List Term) (o : Option Relation) (left : ℕ) → Spent left (suc left) (make_call_by pass p cs base ts o left)
make_spent pass p cs base ts none left = omega arith
make_spent pass p cs base ts (some R) left = within_spent variables (p.made + R.vars) left _ (within_spent goals (suc p.put) left _ (omega arith))

pub taken_spent : (pass : Passing) (k : ℕ) (P : Program) (p : Path) (cs : List ChoicePoint) (base : ℕ) (g : Goal) (left : ℕ) → Spent left (suc left) (taken_by pass k P p cs base g left)
taken_spent pass k P p cs base (equal s t) left =
    spent_then left (suc left) (unify_terms p.bindings (shift base s) (shift base t) left) _
    (spent_up left left left (suc left) (unify_terms p.bindings (shift base s) (shift base t) left) (omega arith) (omega arith) (unify_spent left p.bindings [] (shift base s) (shift base t) left))
    (λ r l h. equal_spent p cs left r l h)
taken_spent pass k P p cs base (constrain c) left = within_spent constraints (suc (length p.kept)) left _
    (spent_then left (suc left) (review p.bindings (p.kept ++ (shift_constraint base c ∷ [])) (shift_constraint base c) left) _
    (spent_up left left left (suc left) (review p.bindings (p.kept ++ (shift_constraint base c ∷ [])) (shift_constraint base c) left) (omega arith) (omega arith) (review_spent p.bindings (p.kept ++ (shift_constraint base c ∷ [])) (shift_constraint base c) left))
    (λ broken l h. by_choose (Spent left (suc left)) broken _ _ (λ _. h) (λ _. h)))
taken_spent pass k P p cs base (conj gs) left = within_spent goals (p.put + goals_count gs) left _ (omega arith)
taken_spent pass k P p cs base (disj (one g)) left = within_spent goals (suc p.put) left _ (omega arith)
taken_spent pass k P p cs base (disj (more g gs)) left = within_spent goals (suc p.put) left _ (within_spent disjunctions (suc (length cs)) left _ (omega arith))
taken_spent pass k P p cs base (call r ts) left = by_choose (Spent left (suc left)) (ltb p.calls k) _ _ (λ _. make_spent pass p cs base ts (get_elem? P r) left) (λ _. omega arith)

look_spent : (bs : Substitution) (ts : List Term) (left : ℕ) → Spent left left (look_through bs ts left)
look_spent bs [] left = omega arith
look_spent bs (t ∷ ts) left = spent_then left left (scan never bs [] t left) _ (scan_spent never bs left [] t) (λ b l h. spent_up l l left left (look_through bs ts l) h h (look_spent bs ts l))

trial_spent : (bs : Substitution) (left : ℕ) (r : Option Substitution) (l : ℕ) → l ≤ left → Spent left left (trial_lines bs r l)
trial_spent bs left none l h = h
trial_spent bs left (some bs') l h =
    let ts = map (λ (b : ℕ × Term). b.1) (trial_bindings bs bs') in
    spent_then left left (look_through bs ts l) _ (spent_up l l left left (look_through bs ts l) h h (look_spent bs ts l)) (λ u m i. i)

lines_spent : (bs : Substitution) (c : Constraint) (left : ℕ) → Spent left left (lines_of bs c left)
lines_spent bs (differ s t) left = spent_then left left (unify_terms bs s t left) _ (unify_spent left bs [] s t left) (λ r l h. trial_spent bs left r l h)
lines_spent bs (typed k t) left = spent_then left left (scan never bs [] t left) _ (scan_spent never bs left [] t) (λ b l h. h)
lines_spent bs (absento a t) left = spent_then left left (scan never bs [] t left) _ (scan_spent never bs left [] t) (λ b l h. h)

all_lines_spent : (bs : Substitution) (cs : List Constraint) (left : ℕ) → Spent left left (all_lines bs cs left)
all_lines_spent bs [] left = omega arith
all_lines_spent bs (c ∷ cs) left = spent_then left left (lines_of bs c left) _ (lines_spent bs c left) (λ ls l h.
    spent_then left left (all_lines bs cs l) _ (spent_up l l left left (all_lines bs cs l) h h (all_lines_spent bs cs l)) (λ ms m i. i))

pub answer_spent : (p : Path) (n left : ℕ) → Spent left left (answer p n left)
answer_spent p n left = spent_then left left (look_through p.bindings (parameters 0 n) left) _ (look_spent p.bindings (parameters 0 n) left) (λ u l h.
    spent_then left left (all_lines p.bindings p.kept l) _ (spent_up l l left left (all_lines p.bindings p.kept l) h h (all_lines_spent p.bindings p.kept l)) (λ ls m i. i))

-- More steps

module _ (d : ℕ) where
  choose_more : {A : Type 0} (b : Bool) (x y x' y' : Unit {0} → Outcome A) → More d (x tt) (x' tt) → More d (y tt) (y' tt) → More d (choose b x y) (choose b x' y')
  choose_more true x y x' y' h k = h
  choose_more false x y x' y' h k = k

  terms_more : (bs : Substitution) (s t : Term) (left left' : ℕ) → left' ≡ left + d → More d (unify_terms bs s t left) (unify_terms bs s t left')
  terms_more bs s t left left' e = unify_more d left left' bs [] s t left left' (omega arith) e

  review_more : (bs : Substitution) (cs : List Constraint) (c : Constraint) (left left' : ℕ) → left' ≡ left + d → More d (review bs cs c left) (review bs cs c left')
  review_more bs cs c left left' e = step_more d left left' _ e (λ l l' e. on c l l' e)
    where
      on : (c : Constraint) (l l' : ℕ) → l' ≡ l + d → More d (reviewed bs cs c l) (reviewed bs cs c l')
      on (differ s t) l l' e = more_then d (unify_terms bs s t l) (unify_terms bs s t l') _ _ (terms_more bs s t l l' e) (λ r m q m' i. more_done d (trial_fails bs r) m m' i)
      on (typed k t) l l' e = more_done d _ l l' e
      on (absento a t) l l' e = scan_more d (is_atom a) bs l l' [] t e

  review_all_more : (bs : Substitution) (cs later : List Constraint) (left left' : ℕ) → left' ≡ left + d → More d (review_all bs cs later left) (review_all bs cs later left')
  review_all_more bs cs [] left left' e = more_done d false left left' e
  review_all_more bs cs (c ∷ later) left left' e =
      more_then d (review bs cs c left) (review bs cs c left') _ _ (review_more bs cs c left left' e) (λ broken l q l' i. choose_more broken _ _ _ _ (more_done d true l l' i) (review_all_more bs cs later l l' i))

  within_more : (b : Bound) (n left left' : ℕ) (go go' : Unit {0} → Outcome Taken) → left' ≡ left + d → More d (go tt) (go' tt) → More d (within b n left go) (within b n left' go')
  within_more b n left left' go go' e h = choose_more (leb n (most b)) _ _ _ _ h (more_bound d b (suc left) (suc left') (omega arith))

  equal_more : (p : Path) (cs : List ChoicePoint) (r : Option Substitution) (l l' : ℕ) → l' ≡ l + d → More d (equal_taken p cs r l) (equal_taken p cs r l')
  equal_more p cs none l l' e = more_done d leaves l l' e
  equal_more p cs (some bs) l l' e = choose_more (eqb (length bs) (length p.bindings)) _ _ _ _ (more_done d (goes p cs) l l' e)
      (more_then d (review_all bs p.kept p.kept l) (review_all bs p.kept p.kept l') _ _ (review_all_more bs p.kept p.kept l l' e) (λ broken m q m' i.
      choose_more broken _ _ _ _ (more_done d leaves m m' i) (more_done d (goes (bound_to p bs) cs) m m' i)))

  make_more : (p : Path) (cs : List ChoicePoint) (base : ℕ) (ts : List Term) (o : Option Relation) (l l' : ℕ) → l' ≡ l + d → More d (make_call p cs base ts o l) (make_call p cs base ts o l')
  make_more p cs base ts none l l' e = more_done d leaves l l' e
  make_more p cs base ts (some R) l l' e = within_more variables (p.made + R.vars) l l' _ _ e (within_more goals (suc p.put) l l' _ _ e (more_done d (goes (called p base ts R) cs) l l' e))

  taken_more : (k : ℕ) (P : Program) (p : Path) (cs : List ChoicePoint) (base : ℕ) (g : Goal) (l l' : ℕ) → l' ≡ l + d → More d (taken k P p cs base g l) (taken k P p cs base g l')
  taken_more k P p cs base (equal s t) l l' e =
      more_then d (unify_terms p.bindings (shift base s) (shift base t) l) (unify_terms p.bindings (shift base s) (shift base t) l') _ _ (terms_more p.bindings (shift base s) (shift base t) l l' e) (λ r m q m' i. equal_more p cs r m m' i)
  taken_more k P p cs base (constrain c) l l' e =
      let c' = shift_constraint base c in
      within_more constraints (suc (length p.kept)) l l' _ _ e
      (more_then d (review p.bindings (p.kept ++ (c' ∷ [])) c' l) (review p.bindings (p.kept ++ (c' ∷ [])) c' l') _ _ (review_more p.bindings (p.kept ++ (c' ∷ [])) c' l l' e) (λ broken m q m' i.
      choose_more broken _ _ _ _ (more_done d leaves m m' i) (more_done d (goes (keeping p c') cs) m m' i)))
  taken_more k P p cs base (conj gs) l l' e = within_more goals (p.put + goals_count gs) l l' _ _ e (more_done d _ l l' e)
  taken_more k P p cs base (disj (one g)) l l' e = within_more goals (suc p.put) l l' _ _ e (more_done d _ l l' e)
  taken_more k P p cs base (disj (more g gs)) l l' e = within_more goals (suc p.put) l l' _ _ e (within_more disjunctions (suc (length cs)) l l' _ _ e (more_done d _ l l' e))
  taken_more k P p cs base (call r ts) l l' e = choose_more (ltb p.calls k) _ _ _ _ (make_more p cs base ts (get_elem? P r) l l' e) (more_done d cut l l' e)

  pub goal_more : (k : ℕ) (P : Program) (p : Path) (cs : List ChoicePoint) (base : ℕ) (g : Goal) (l l' : ℕ) → l' ≡ l + d → More d (take_goal k P p cs base g l) (take_goal k P p cs base g l')
  goal_more k P p cs base g l l' e = step_more d l l' _ e (taken_more k P p cs base g)

  look_more : (bs : Substitution) (ts : List Term) (l l' : ℕ) → l' ≡ l + d → More d (look_through bs ts l) (look_through bs ts l')
  look_more bs [] l l' e = more_done d tt l l' e
  look_more bs (t ∷ ts) l l' e = more_then d (scan never bs [] t l) (scan never bs [] t l') _ _ (scan_more d never bs l l' [] t e) (λ b m q m' i. look_more bs ts m m' i)

  trial_more : (bs : Substitution) (r : Option Substitution) (l l' : ℕ) → l' ≡ l + d → More d (trial_lines bs r l) (trial_lines bs r l')
  trial_more bs none l l' e = more_done d [] l l' e
  trial_more bs (some bs') l l' e =
      let ts = map (λ (b : ℕ × Term). b.1) (trial_bindings bs bs') in
      more_then d (look_through bs ts l) (look_through bs ts l') _ _ (look_more bs ts l l' e) (λ u m q m' i. more_done d _ m m' i)

  lines_more : (bs : Substitution) (c : Constraint) (l l' : ℕ) → l' ≡ l + d → More d (lines_of bs c l) (lines_of bs c l')
  lines_more bs (differ s t) l l' e = more_then d (unify_terms bs s t l) (unify_terms bs s t l') _ _ (terms_more bs s t l l' e) (λ r m q m' i. trial_more bs r m m' i)
  lines_more bs (typed k t) l l' e = more_then d (scan never bs [] t l) (scan never bs [] t l') _ _ (scan_more d never bs l l' [] t e) (λ b m q m' i. more_done d _ m m' i)
  lines_more bs (absento a t) l l' e = more_then d (scan never bs [] t l) (scan never bs [] t l') _ _ (scan_more d never bs l l' [] t e) (λ b m q m' i. more_done d _ m m' i)

  all_lines_more : (bs : Substitution) (cs : List Constraint) (l l' : ℕ) → l' ≡ l + d → More d (all_lines bs cs l) (all_lines bs cs l')
  all_lines_more bs [] l l' e = more_done d [] l l' e
  all_lines_more bs (c ∷ cs) l l' e = more_then d (lines_of bs c l) (lines_of bs c l') _ _ (lines_more bs c l l' e) (λ ls m q m' i.
      more_then d (all_lines bs cs m) (all_lines bs cs m') _ _ (all_lines_more bs cs m m' i) (λ ms o q o' j. more_done d _ o o' j))

  pub answer_more : (p : Path) (n l l' : ℕ) → l' ≡ l + d → More d (answer p n l) (answer p n l')
  answer_more p n l l' e = more_then d (look_through p.bindings (parameters 0 n) l) (look_through p.bindings (parameters 0 n) l') _ _ (look_more p.bindings (parameters 0 n) l l' e) (λ u m q m' i.
      more_then d (all_lines p.bindings p.kept m) (all_lines p.bindings p.kept m') _ _ (all_lines_more p.bindings p.kept m m' i) (λ ls o q o' j. more_done d _ o o' j))
