-- What taking a goal makes, adds and puts to wait is what `uses` says, and so no path comes to have more than the bounds allow, or more calls than its round's number.
use Prim.Native.Nat.{◌+◌, ◌<◌, ◌≤◌, max, suc, zero, ℕ}
use mathlib.Core.Bool.{Bool, false, true}
use mathlib.Core.List.{List, [], ◌++◌, ◌∷◌}
use mathlib.Core.Option.{Option, none, some}
use mathlib.Core.Path.{◌∙◌, ◌≡◌, ap, refl, subst, sym}
use native.Mathlib.Nat.{le-max_left, le-max_right, le_trans, max-eq_right, max-le, max-zero}
use native.Mathlib.Omega.{arith}
use lib.Dec.{eqb, leb, ltb}
use lib.ListN.{get_elem?, length, length-append}
use borrow.Author.Tests.{leb-true, ltb-true}
use Rattle.rules.specs.Reading.{choose}
use Rattle.rules.specs.Syntax.{Constraint, Goal, Goals, Program, Relation, Term, call, conj, constrain, disj, equal, more, one}
use Rattle.semantics.specs.Answer.{answer}
use Rattle.semantics.specs.Path.{ChoicePoint, Passing, Path, Taken, Task, bound_to, called_by, cut, equal_taken, goals_count, goes, keeping, leaves, make_call_by, take_goal_by, taken_by, wait_all, waiting_on, within}
use Rattle.semantics.specs.Review.{review, review_all}
use Rattle.semantics.specs.Round.{Next, State, Tally, after, backtrack, give, go_on, going, once, over, resume, spend, start, turn_by}
use Rattle.semantics.specs.Situation.{call_uses, has, so_many, takes_goal, uses}
use Rattle.semantics.specs.Steps.{Bound, Outcome, and_then, constraints, disjunctions, done, goals, most, stop, variables, waiting}
use Rattle.semantics.specs.Substitution.{Substitution, shift, shift_constraint}
use Rattle.semantics.specs.Unify.{unify_terms}
use Rattle.semantics.proofs.Basics.{by_choose}

-- Each of the five bounds
pub for_each : (Q : Bound → Type 0) → Q variables → Q goals → Q disjunctions → Q constraints → Q waiting → (b : Bound) → Q b
for_each Q v g d c w variables = v
for_each Q v g d c w goals = g
for_each Q v g d c w disjunctions = d
for_each Q v g d c w constraints = c
for_each Q v g d c w waiting = w

pub each_within : {v g d c : ℕ} → v ≤ 2048 → g ≤ 1024 → d ≤ 256 → c ≤ 512 → (b : Bound) → so_many v g d c b ≤ most b
each_within {v} {g} {d} {c} i j m n = for_each (λ b. so_many v g d c b ≤ most b) i j m n (omega arith)

one_fewer : (v g d c : ℕ) (b : Bound) → so_many v g d c b ≤ so_many v g (suc d) c b
one_fewer v g d c = for_each (λ b. so_many v g d c b ≤ so_many v g (suc d) c b) (omega arith) (omega arith) (omega arith) (omega arith) (omega arith)

stays : (n : ℕ) → n ≡ max n 0
stays n = sym (max-zero n)

grows : (n m : ℕ) → n ≤ m → m ≡ max n m
grows n m h = sym (max-eq_right h)

-- Taking a goal

module _ (pass : Passing) (k : ℕ) (P : Program) (p : Path) (cs : List ChoicePoint) where
  -- the choice points stay, or one is added, on the path without the goal
  pub data Chooses (p' : Path) : List ChoicePoint → Type 0 where
    no_new : Chooses p' cs
    one_new : (base : ℕ) (rest : Goals) → ((b : Bound) (later : List ChoicePoint) → has (waiting_on p p.stack (suc p.put)) later b ≡ has p' later b) → Chooses p' (record { path = p; base = base; rest = rest } ∷ cs)

  -- a goal was taken and the path goes on: "Taking a goal includes all that it makes, adds or puts to wait"
  pub record Took (g : Goal) (p' : Path) (cs' : List ChoicePoint) : Type 0 where
    -- of each bound the path has what it had, or what the goal came to, which is allowed
    pub has_used : (b : Bound) → has p' cs' b ≡ max (has p cs b) (uses k P p cs g b)
    pub uses_allowed : (b : Bound) → uses k P p cs g b ≤ most b
    pub calls_allowed : p.calls ≤ k → p'.calls ≤ k
    pub chooses : Chooses p' cs'

  abbrev pub TookAs : Goal → Outcome Taken → Type 0
  TookAs g (stop why l) = Unit {0}
  TookAs g (done leaves l) = Unit {0}
  TookAs g (done cut l) = Unit {0}
  TookAs g (done (goes p' cs') l) = Took g p' cs'

  then_took : {A : Type 0} (g : Goal) (o : Outcome A) (go : A → ℕ → Outcome Taken) → ((a : A) (l : ℕ) → TookAs g (go a l)) → TookAs g (and_then o go)
  then_took g (done a l) go h = h a l
  then_took g (stop why l) go h = tt

  within_took : (g : Goal) (b : Bound) (n left : ℕ) (go : Unit {0} → Outcome Taken) → (n ≤ most b → TookAs g (go tt)) → TookAs g (within b n left go)
  within_took g b n left go h = by_choose (TookAs g) (leb n (most b)) go _ (λ q. h (leb-true n (most b) q)) (λ q. tt)

  -- a goal that comes to so many of each, and the path that goes on from it
  goes_with : (g : Goal) (p' : Path) (cs' : List ChoicePoint) (v n d c : ℕ) → uses k P p cs g ≡ so_many v n d c → ((b : Bound) → so_many v n d c b ≤ most b) →
      p'.made ≡ max p.made v → p'.put ≡ max p.put n → length cs' ≡ max (length cs) d → length p'.kept ≡ max (length p.kept) c → (p.calls ≤ k → p'.calls ≤ k) → Chooses p' cs' → Took g p' cs'
  goes_with g p' cs' v n d c e h made put choices kept calls chosen = record {
    has_used = subst (λ (u : Bound → ℕ). (b : Bound) → has p' cs' b ≡ max (has p cs b) (u b)) (sym e) (for_each (λ b. has p' cs' b ≡ max (has p cs b) (so_many v n d c b)) made put choices kept refl);
    uses_allowed = subst (λ (u : Bound → ℕ). (b : Bound) → u b ≤ most b) (sym e) h;
    calls_allowed = calls;
    chooses = chosen;
  }

  equal_took : (s t : Term) (r : Option Substitution) (l : ℕ) → TookAs (equal s t) (equal_taken p cs r l)
  equal_took s t none l = tt
  equal_took s t (some bs) l =
      by_choose (TookAs (equal s t)) (eqb (length bs) (length p.bindings)) _ _ (λ q. same p.bindings)
      (λ q. then_took (equal s t) (review_all bs p.kept p.kept l) _ (λ broken m. by_choose (TookAs (equal s t)) broken _ _ (λ e. tt) (λ e. same bs)))
    where
      same : (bs : Substitution) → Took (equal s t) (bound_to p bs) cs
      same bs = goes_with (equal s t) (bound_to p bs) cs 0 0 0 0 refl (each_within (omega arith) (omega arith) (omega arith) (omega arith)) (stays p.made) (stays p.put) (stays (length cs)) (stays (length p.kept)) (λ h. h) no_new

  constraint_took : (d c : Constraint) → suc (length p.kept) ≤ 512 → Took (constrain d) (keeping p c) cs
  constraint_took d c h =
      goes_with (constrain d) (keeping p c) cs 0 0 0 (suc (length p.kept)) refl (each_within (omega arith) (omega arith) (omega arith) h) (stays p.made) (stays p.put) (stays (length cs))
      (longer ∙ grows (length p.kept) (suc (length p.kept)) (omega arith)) (λ h. h) no_new
    where
      longer : length (p.kept ++ (c ∷ [])) ≡ suc (length p.kept)
      longer = omega (arith, length-append p.kept (c ∷ []))

  -- so many goals then were put to wait
  waits : (g : Goal) (stack : List Task) (n : ℕ) → uses k P p cs g ≡ so_many 0 n 0 0 → p.put ≤ n → n ≤ 1024 → Took g (waiting_on p stack n) cs
  waits g stack n e i h = goes_with g (waiting_on p stack n) cs 0 n 0 0 e (each_within (omega arith) h (omega arith) (omega arith)) (stays p.made) (grows p.put n i) (stays (length cs)) (stays (length p.kept)) (λ h. h) no_new

  call_took : (base r : ℕ) (ts : List Term) (l : ℕ) → p.calls < k → (o : Option Relation) → uses k P p cs (call r ts) ≡ call_uses p o → TookAs (call r ts) (make_call_by pass p cs base ts o l)
  call_took base r ts l c none e = tt
  call_took base r ts l c (some R) e =
      within_took (call r ts) variables (p.made + R.vars) l _ (λ i. within_took (call r ts) goals (suc p.put) l _ (λ j.
      goes_with (call r ts) (called_by pass p base ts R) cs (p.made + R.vars) (suc p.put) 0 0 e (each_within i j (omega arith) (omega arith)) (grows p.made (p.made + R.vars) (omega arith)) (grows p.put (suc p.put) (omega arith)) (stays (length cs)) (stays (length p.kept)) (λ h. omega arith) no_new))

  taken_took : (base : ℕ) (g : Goal) (l : ℕ) → TookAs g (taken_by pass k P p cs base g l)
  taken_took base (equal s t) l = then_took (equal s t) (unify_terms p.bindings (shift base s) (shift base t) l) _ (equal_took s t)
  taken_took base (constrain d) l =
      let c = shift_constraint base d in
      within_took (constrain d) constraints (suc (length p.kept)) l _ (λ h. then_took (constrain d) (review p.bindings (p.kept ++ (c ∷ [])) c l) _ (λ broken m. by_choose (TookAs (constrain d)) broken _ _ (λ e. tt) (λ e. constraint_took d c h)))
  taken_took base (conj gs) l = within_took (conj gs) goals (p.put + goals_count gs) l _ (λ h. waits (conj gs) (wait_all base gs p.stack) (p.put + goals_count gs) refl (omega arith) h)
  taken_took base (disj (one g)) l = within_took (disj (one g)) goals (suc p.put) l _ (λ h. waits (disj (one g)) ((base, g) ∷ p.stack) (suc p.put) refl (omega arith) h)
  taken_took base (disj (more g rest)) l =
      within_took (disj (more g rest)) goals (suc p.put) l _ (λ i. within_took (disj (more g rest)) disjunctions (suc (length cs)) l _ (λ j.
      goes_with (disj (more g rest)) (waiting_on p ((base, g) ∷ p.stack) (suc p.put)) (record { path = p; base = base; rest = rest } ∷ cs) 0 (suc p.put) (suc (length cs)) 0 refl (each_within (omega arith) i j (omega arith))
      (stays p.made) (grows p.put (suc p.put) (omega arith)) (grows (length cs) (suc (length cs)) (omega arith)) (stays (length p.kept)) (λ h. h) (one_new base rest (λ b later. refl))))
  taken_took base (call r ts) l = by_test (ltb p.calls k) refl
    where
      by_test : (t : Bool) → ltb p.calls k ≡ t → TookAs (call r ts) (choose t (λ _. make_call_by pass p cs base ts (get_elem? P r) l) (λ _. done cut l))
      by_test true q = call_took base r ts l (ltb-true p.calls k q) (get_elem? P r) (ap (λ (t : Bool). choose t (λ _. call_uses p (get_elem? P r)) (λ _. so_many 0 0 0 0)) q)
      by_test false q = tt

  -- whatever the goal and the steps left
  pub goal_took : (base : ℕ) (g : Goal) (left : ℕ) → TookAs g (take_goal_by pass k P p cs base g left)
  goal_took base g zero = tt
  goal_took base g (suc l) = taken_took base g l

-- Whole rounds

-- A path with its choice points has no more of each bound than is allowed, or than it set out with, and no more calls than k.
module _ (k : ℕ) (first : Bound → ℕ) where
  pub record Within (p : Path) (cs : List ChoicePoint) : Type 0 where
    pub each_bound : (b : Bound) → has p cs b ≤ max (most b) (first b)
    pub few_calls : p.calls ≤ k

  -- so are the paths on which the alternatives left are tried, with one goal more put to wait
  abbrev pub Others : List ChoicePoint → Type 0
  Others [] = Unit {0}
  Others (c ∷ cs) = Within (waiting_on c.path c.path.stack (suc c.path.put)) (c ∷ cs) × Others cs

  pub record StateWithin (s : State) : Type 0 where
    pub path_within : Within s.path s.choices
    pub others_within : Others s.choices

  abbrev pub NextWithin : Next → Type 0
  NextWithin (going s) = StateWithin s
  NextWithin (over r) = Unit {0}

  back_within : (cs : List ChoicePoint) (t : Tally) → Others cs → NextWithin (backtrack cs t)
  back_within [] t h = tt
  back_within (c ∷ cs) t (w, h) = go c.rest
    where
      go : (gs : Goals) → NextWithin (resume c.path c.base gs cs t)
      go (one g) = record { path_within = record { each_bound = λ b. le_trans (one_fewer c.path.made (suc c.path.put) (length cs) (length c.path.kept) b) (w.each_bound b); few_calls = w.few_calls }; others_within = h }
      go (more g gs) = record { path_within = record { each_bound = w.each_bound; few_calls = w.few_calls }; others_within = (record { each_bound = w.each_bound; few_calls = w.few_calls }, h) }

  module _ (pass : Passing) (P : Program) (n : ℕ) where
    -- a path that goes on
    took_within : (p p' : Path) (cs cs' : List ChoicePoint) (g : Goal) → Within p cs → Others cs → Took pass k P p cs g p' cs' → Within p' cs' × Others cs'
    took_within p p' cs cs' g w h x = (record { each_bound = bounds; few_calls = x.calls_allowed w.few_calls }, others cs' x.chooses bounds)
      where
        bounds : (b : Bound) → has p' cs' b ≤ max (most b) (first b)
        bounds b = subst (λ (m : ℕ). m ≤ max (most b) (first b)) (sym (x.has_used b)) (max-le (w.each_bound b) (le_trans (x.uses_allowed b) (le-max_left (most b) (first b))))

        others : (ds : List ChoicePoint) → Chooses pass k P p cs p' ds → ((b : Bound) → has p' ds b ≤ max (most b) (first b)) → Others ds
        others ds no_new f = h
        others ds (one_new base rest e) f = (record { each_bound = λ b. subst (λ (m : ℕ). m ≤ max (most b) (first b)) (sym (e b ds)) (f b); few_calls = w.few_calls }, h)

    go_on_within : (p : Path) (stack : List Task) (cs : List ChoicePoint) (t : Tally) → Within p cs → Others cs → NextWithin (go_on (once pass) n k p stack cs t)
    go_on_within p [] cs t w h = by_choose NextWithin (eqb p.calls k) _ _ (λ q. given (answer p n t.left)) (λ q. back_within cs t h)
      where
        given : (o : Outcome (List ℕ)) → NextWithin (give (once pass) n k cs t o)
        given (stop why l) = tt
        given (done ws l) = by_choose NextWithin (leb (length ws) t.room) _ _ (λ q. back_within cs _ h) (λ q. tt)
    go_on_within p (task ∷ stack) cs t w h = record { path_within = record { each_bound = w.each_bound; few_calls = w.few_calls }; others_within = h }

    -- a turn keeps it
    pub turn_within : (s : State) → StateWithin s → NextWithin (turn_by (once pass) P n k s)
    turn_within s w = go (takes_goal pass P n k s) (goal_took pass k P s.path s.choices s.task.0 s.task.1 s.tally.left)
      where
        go : (o : Outcome Taken) → TookAs pass k P s.path s.choices s.task.1 o → NextWithin (after (once pass) n k s o)
        go (stop why l) x = tt
        go (done leaves l) x = back_within s.choices _ w.others_within
        go (done cut l) x = back_within s.choices _ w.others_within
        go (done (goes p cs) l) x = let (u, v) = took_within s.path p s.choices cs s.task.1 w.path_within w.others_within x in go_on_within p p.stack cs (spend s.tally l) u v

-- what a round of the query R sets out with
abbrev pub set_out : Relation → Bound → ℕ
set_out R = so_many R.vars 1 0 0

pub start_within : (k : ℕ) (R : Relation) (t : Tally) → StateWithin k (set_out R) (start R t)
start_within k R t = record { path_within = record { each_bound = λ b. le-max_right (most b) (set_out R b); few_calls = omega arith }; others_within = tt }
