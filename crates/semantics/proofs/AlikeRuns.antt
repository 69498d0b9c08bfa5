-- Programs whose goals are the same but for the numbers of variables and of called relations run in lockstep: each turn of the one is a turn of the other, with the same steps, cuts and answers.
use Prim.Native.Nat.{◌+◌, ◌-◌, ◌<◌, ◌≤◌, suc, ℕ}
use mathlib.Core.Bool.{Bool, false, true}
use mathlib.Core.List.{List, ◌∷◌}
use mathlib.Core.Option.{Option, none, some}
use mathlib.Core.Path.{◌≡◌, ap, ap₂, refl, subst, sym}
use native.Mathlib.Omega.{arith}
use lib.Dec.{eqb, leb, ltb}
use lib.ListN.{get_elem?, length}
use borrow.Author.Tests.{ltb-true}
use Rattle.rules.specs.Reading.{choose}
use Rattle.rules.specs.Syntax.{Constraint, Goal, Goals, Program, Relation, Term, call, conj, constrain, disj, equal, more, one}
use Rattle.semantics.specs.Path.{ChoicePoint, Passing, Path, Taken, Task, bound_to, cut, equal_taken, goals_count, goes, keeping, leaves, make_call_by, take_call_by, take_conj, take_constraint, take_disj, take_goal_by, taken_by, wait_all, waiting_on, within}
use Rattle.semantics.specs.Round.{Answer, Next, State, Tally, after, backtrack, give, go_on, list_answer, once, one_round_by, resume, rounds_by, search_by, start, turn_by}
use Rattle.semantics.specs.Steps.{Bound, Outcome, and_then, constraints, disjunctions, done, goals, most, variables}
use Rattle.semantics.specs.Substitution.{Substitution, shift}
use Rattle.semantics.proofs.Alike.{BindingsLike, ConstraintLike, ConstraintsLike, Equivariant, OneToOne, Renaming, TermLike, TermsLike, bind_params_like, bindings_weaken, constraint_weaken, made_from, review_all_like, review_like, shift_constraint_like, shift_like, term_weaken, terms_weaken, unify_terms_like}
use Rattle.semantics.proofs.AlikeAnswer.{answer_like}
use Rattle.semantics.proofs.Liftings.{OptionLike, OutcomeLike, Pointwise, append_like, choose_like, cons_like, done_like, length_like, nil_like, none_like, pointwise_weaken, some_like, step_like, stop_like, then_like, waived_like}
use Rattle.semantics.proofs.Lockstep.{NextLike, ResultLike, RoundedLike, going_like, over_like, rounds_like, search_like, waived_next}

-- Goals that are alike: variables are paired by N, and H says of two called relations, with so many arguments, that calls of them are alike.
module _ (N : Renaming) (H : ℕ → ℕ → ℕ → Type 0) where
  mutual
    pub data GoalLike : Goal → Goal → Type 0 where
      equal_like : {s t u v : Term} → TermLike N s u → TermLike N t v → GoalLike (equal s t) (equal u v)
      constrain_like : {c d : Constraint} → ConstraintLike N c d → GoalLike (constrain c) (constrain d)
      conj_like : {gs hs : Goals} → GoalsLike gs hs → GoalLike (conj gs) (conj hs)
      disj_like : {gs hs : Goals} → GoalsLike gs hs → GoalLike (disj gs) (disj hs)
      call_like : {r q : ℕ} {ts us : List Term} → H r q (length ts) → TermsLike N ts us → GoalLike (call r ts) (call q us)

    pub data GoalsLike : Goals → Goals → Type 0 where
      one_like : {g h : Goal} → GoalLike g h → GoalsLike (one g) (one h)
      more_like : {g h : Goal} {gs hs : Goals} → GoalLike g h → GoalsLike gs hs → GoalsLike (more g gs) (more h hs)

-- what is alike stays so where more variables are paired, and more calls are alike
module _ {N M : Renaming} {H K : ℕ → ℕ → ℕ → Type 0} (f : (x y : ℕ) → N x y → M x y) (e : (r q a : ℕ) → H r q a → K r q a) where
  mutual
    pub goal_weaken : {g h : Goal} → GoalLike N H g h → GoalLike M K g h
    goal_weaken (equal_like h k) = equal_like (term_weaken f h) (term_weaken f k)
    goal_weaken (constrain_like h) = constrain_like (constraint_weaken f h)
    goal_weaken (conj_like h) = conj_like (goals_weaken h)
    goal_weaken (disj_like h) = disj_like (goals_weaken h)
    goal_weaken (call_like {r} {q} {ts} h hs) = call_like (e r q (length ts) h) (terms_weaken f hs)

    pub goals_weaken : {gs hs : Goals} → GoalsLike N H gs hs → GoalsLike M K gs hs
    goals_weaken (one_like h) = one_like (goal_weaken h)
    goals_weaken (more_like h hs) = more_like (goal_weaken h) (goals_weaken hs)

goals_count_like : {N : Renaming} {H : ℕ → ℕ → ℕ → Type 0} {gs hs : Goals} → GoalsLike N H gs hs → goals_count gs ≡ goals_count hs
goals_count_like (one_like h) = refl
goals_count_like (more_like h hs) = ap suc (goals_count_like hs)

-- A world says which variables are paired (`N w`) and that so many were made on either side (`Made w`); a call may lead to another world, in which what was paired still is. `CallLike j r q a`: with
-- j calls left on a path, calls of r and of q with a arguments are alike. Worlds and `CallLike` are the user's; what is asked of them is in `ProgramLike` and `QueryLike`.
module _ (Waived : Bound → Type 0) (World : Type 0) (N : World → Renaming) (Made : World → ℕ → ℕ → Type 0) (CallLike : ℕ → ℕ → ℕ → ℕ → Type 0) where
  -- R and S are called: in some world the variables paired before still are, the parameters that are bound are paired, and the bodies are alike
  pub record Entered (w : World) (j made made' args : ℕ) (R S : Relation) : Type 0 where
    pub inner : World
    pub before : (x y : ℕ) → N w x y → N inner x y
    pub made_too : Made inner (made + R.vars) (made' + S.vars)
    pub params : (i : ℕ) → i < args → N inner (made + i) (made' + i)
    pub bodies : GoalLike (made_from (N inner) made made') (CallLike j) R.body S.body

  -- what calls that are alike come to: neither relation is there; both are, within the bound on variables or not; or the first exceeds it, which is waived
  pub data Enters (w : World) (j made made' args : ℕ) : Option Relation → Option Relation → Type 0 where
    neither_there : Enters w j made made' args none none
    entered : {R S : Relation} → leb (made + R.vars) (most variables) ≡ leb (made' + S.vars) (most variables) → Entered w j made made' args R S → Enters w j made made' args (some R) (some S)
    too_many : {R : Relation} {o : Option Relation} → leb (made + R.vars) (most variables) ≡ false → Waived variables → Enters w j made made' args (some R) o

  -- what is asked of two programs: calls that are alike, with one call left at least, lead on to bodies that are
  pub record ProgramLike (P Q : Program) : Type 0 where
    pub pairs : (w : World) → OneToOne (N w)
    pub fewer : (j r q a : ℕ) → CallLike (suc j) r q a → CallLike j r q a
    pub enters : (w : World) (j made made' r q a : ℕ) → Made w made made' → CallLike (suc j) r q a → Enters w j made made' a (get_elem? P r) (get_elem? Q q)

  -- the query relations of round k
  pub record QueryLike (k : ℕ) (R S : Relation) : Type 0 where
    pub same_params : R.params ≡ S.params
    pub world : World
    pub made : Made world R.vars S.vars
    pub query : (x : ℕ) → x < R.params → N world x x
    pub bodies : GoalLike (made_from (N world) 0 0) (CallLike k) R.body S.body

  module _ (pass : Passing) (equivariant : Equivariant pass) (P Q : Program) (L : ProgramLike P Q) where
    -- round k of n query terms
    module _ (n k : ℕ) where
      abbrev TaskLike : World → ℕ → Task → Task → Type 0
      TaskLike w j t u = GoalLike (made_from (N w) t.0 u.0) (CallLike j) t.1 u.1

      record PathLike (w : World) (p q : Path) : Type 0 where
        made_like : Made w p.made q.made
        query_like : (x : ℕ) → x < n → N w x x
        bindings_like : BindingsLike (N w) p.bindings q.bindings
        kept_like : ConstraintsLike (N w) p.kept q.kept
        same_put : p.put ≡ q.put
        same_calls : p.calls ≡ q.calls
        stack_like : Pointwise (TaskLike w (k - p.calls)) p.stack q.stack

      -- each choice point has its own world
      record ChoiceLike (c d : ChoicePoint) : Type 0 where
        world : World
        path_like : PathLike world c.path d.path
        rest_like : GoalsLike (made_from (N world) c.base d.base) (CallLike (k - c.path.calls)) c.rest d.rest

      data TakenLike : Taken → Taken → Type 0 where
        leaves_like : TakenLike leaves leaves
        cut_like : TakenLike cut cut
        goes_like : {p q : Path} {cs ds : List ChoicePoint} (w : World) → PathLike w p q → Pointwise ChoiceLike cs ds → TakenLike (goes p cs) (goes q ds)

      abbrev TookLike : Outcome Taken → Outcome Taken → Type 0
      TookLike = OutcomeLike Waived TakenLike

      -- the same paths with other bindings; with one constraint more; with another stack
      rebound : {w : World} {p q : Path} {bs cs : Substitution} → PathLike w p q → BindingsLike (N w) bs cs → PathLike w (bound_to p bs) (bound_to q cs)
      rebound h bs = record { made_like = h.made_like; query_like = h.query_like; bindings_like = bs; kept_like = h.kept_like; same_put = h.same_put; same_calls = h.same_calls; stack_like = h.stack_like }

      kept_too : {w : World} {p q : Path} {c d : Constraint} → PathLike w p q → ConstraintLike (N w) c d → PathLike w (keeping p c) (keeping q d)
      kept_too h c = record { made_like = h.made_like; query_like = h.query_like; bindings_like = h.bindings_like; kept_like = append_like h.kept_like (cons_like c nil_like); same_put = h.same_put; same_calls = h.same_calls; stack_like = h.stack_like }

      restacked : {w : World} {p q : Path} (ts us : List Task) (m m' : ℕ) → PathLike w p q → m ≡ m' → Pointwise (TaskLike w (k - p.calls)) ts us → PathLike w (waiting_on p ts m) (waiting_on q us m')
      restacked ts us m m' h e hs = record { made_like = h.made_like; query_like = h.query_like; bindings_like = h.bindings_like; kept_like = h.kept_like; same_put = e; same_calls = h.same_calls; stack_like = hs }

      -- taking a goal
      within_like : (b : Bound) (m m' left : ℕ) (go go' : Unit {0} → Outcome Taken) → m ≡ m' → TookLike (go tt) (go' tt) → TookLike (within b m left go) (within b m' left go')
      within_like b m m' left go go' e h = choose_like TookLike (leb m (most b)) (leb m' (most b)) _ _ _ _ (ap (λ m. leb m (most b)) e) h stop_like

      module _ (w : World) (p q : Path) (path : PathLike w p q) (cs ds : List ChoicePoint) (choices : Pointwise ChoiceLike cs ds) where
        -- a review fails, or the path goes on
        reviewed_taken : {p' q' : Path} → PathLike w p' q' → {o o' : Outcome Bool} → OutcomeLike Waived (λ x y. x ≡ y) o o' →
            TookLike (and_then o (λ broken l. choose broken (λ _. done leaves l) (λ _. done (goes p' cs) l))) (and_then o' (λ broken l. choose broken (λ _. done leaves l) (λ _. done (goes q' ds) l)))
        reviewed_taken h i = then_like TakenLike _ _ i (λ x y l e. choose_like TookLike x y _ _ _ _ e (done_like leaves_like) (done_like (goes_like w h choices)))

        equal_taken_like : {o o' : Option Substitution} → OptionLike (BindingsLike (N w)) o o' → (left : ℕ) → TookLike (equal_taken p cs o left) (equal_taken q ds o' left)
        equal_taken_like none_like left = done_like leaves_like
        equal_taken_like (some_like {a = bs} {b = bs'} h) left =
            choose_like TookLike (eqb (length bs) (length p.bindings)) (eqb (length bs') (length q.bindings)) _ _ _ _ (ap₂ eqb (length_like h) (length_like path.bindings_like)) (done_like (goes_like w path choices))
            (reviewed_taken (rebound path h) (review_all_like (N w) (L.pairs w) Waived h path.kept_like path.kept_like left))

        take_constraint_like : {c d : Constraint} → ConstraintLike (N w) c d → (left : ℕ) → TookLike (take_constraint p cs c left) (take_constraint q ds d left)
        take_constraint_like h left =
            let after = kept_too path h in
            within_like constraints (suc (length p.kept)) (suc (length q.kept)) left _ _ (ap suc (length_like path.kept_like))
            (reviewed_taken after (review_like (N w) (L.pairs w) Waived path.bindings_like after.kept_like h left))

        -- of environments b and c
        module _ (b c : ℕ) where
          abbrev GoalsHere : Goals → Goals → Type 0
          GoalsHere = GoalsLike (made_from (N w) b c) (CallLike (k - p.calls))

          wait_all_like : {gs hs : Goals} {ts us : List Task} → GoalsHere gs hs → Pointwise (TaskLike w (k - p.calls)) ts us → Pointwise (TaskLike w (k - p.calls)) (wait_all b gs ts) (wait_all c hs us)
          wait_all_like (one_like h) ks = cons_like h ks
          wait_all_like (more_like h hs) ks = cons_like h (wait_all_like hs ks)

          take_conj_like : {gs hs : Goals} → GoalsHere gs hs → (left : ℕ) → TookLike (take_conj p cs b gs left) (take_conj q ds c hs left)
          take_conj_like {gs} {hs} h left =
              let e : p.put + goals_count gs ≡ q.put + goals_count hs = ap₂ ◌+◌ path.same_put (goals_count_like h) in
              within_like goals (p.put + goals_count gs) (q.put + goals_count hs) left _ _ e
              (done_like (goes_like w (restacked (wait_all b gs p.stack) (wait_all c hs q.stack) (p.put + goals_count gs) (q.put + goals_count hs) path e (wait_all_like h path.stack_like)) choices))

          take_disj_like : {gs hs : Goals} → GoalsHere gs hs → (left : ℕ) → TookLike (take_disj p cs b gs left) (take_disj q ds c hs left)
          take_disj_like {gs} {hs} h left = go h
            where
              one_more : suc p.put ≡ suc q.put
              one_more = ap suc path.same_put

              first : {g h : Goal} → GoalLike (made_from (N w) b c) (CallLike (k - p.calls)) g h → PathLike w (waiting_on p ((b, g) ∷ p.stack) (suc p.put)) (waiting_on q ((c, h) ∷ q.stack) (suc q.put))
              first {g} {h} i = restacked ((b, g) ∷ p.stack) ((c, h) ∷ q.stack) (suc p.put) (suc q.put) path one_more (cons_like i path.stack_like)

              go : {gs hs : Goals} → GoalsHere gs hs → TookLike (take_disj p cs b gs left) (take_disj q ds c hs left)
              go (one_like i) = within_like goals (suc p.put) (suc q.put) left _ _ one_more (done_like (goes_like w (first i) choices))
              go (more_like i is) = within_like goals (suc p.put) (suc q.put) left _ _ one_more
                  (within_like disjunctions (suc (length cs)) (suc (length ds)) left _ _ (ap suc (length_like choices))
                  (done_like (goes_like w (first i) (cons_like (record { world = w; path_like = path; rest_like = is }) choices))))

          -- one call less is left
          stack_after : (j : ℕ) → k - p.calls ≡ suc j → (v : World) → ((x y : ℕ) → N w x y → N v x y) → Pointwise (TaskLike v j) p.stack q.stack
          stack_after j e v f = pointwise_weaken (λ (t u : Task) h. goal_weaken (λ x y n. f (t.0 + x) (u.0 + y) n) (λ r q a m. L.fewer j r q a (subst (λ (i : ℕ). CallLike i r q a) e m)) h) path.stack_like

          make_call_like : {ts us : List Term} {o o' : Option Relation} (j : ℕ) → k - p.calls ≡ suc j → TermsLike (made_from (N w) b c) ts us → Enters w j p.made q.made (length ts) o o' → (left : ℕ) →
              TookLike (make_call_by pass p cs b ts o left) (make_call_by pass q ds c us o' left)
          make_call_like j e hs neither_there left = done_like leaves_like
          make_call_like j e hs (too_many full waived) left = rw full (waived_like waived)
          make_call_like j e hs (entered {R} {S} fits h) left =
              choose_like TookLike (leb (p.made + R.vars) (most variables)) (leb (q.made + S.vars) (most variables)) _ _ _ _ fits
              (within_like goals (suc p.put) (suc q.put) left _ _ (ap suc path.same_put)
              (done_like (goes_like h.inner (record {
                made_like = h.made_too;
                query_like = λ x i. h.before x x (path.query_like x i);
                bindings_like = bind_params_like pass equivariant (N h.inner) (L.pairs h.inner) p.made q.made b c h.params (terms_weaken (λ x y n. h.before (b + x) (c + y) n) hs) (bindings_weaken h.before path.bindings_like);
                kept_like = pointwise_weaken (λ c d k. constraint_weaken h.before k) path.kept_like;
                same_put = ap suc path.same_put;
                same_calls = ap suc path.same_calls;
                stack_like = let i : k - suc p.calls ≡ j = omega arith in
                    subst (λ (i : ℕ). Pointwise (TaskLike h.inner i) ((p.made, R.body) ∷ p.stack) ((q.made, S.body) ∷ q.stack)) (sym i) (cons_like h.bodies (stack_after j e h.inner h.before));
              }) choices))) stop_like

          take_call_like : {ts us : List Term} (r r' : ℕ) → CallLike (k - p.calls) r r' (length ts) → TermsLike (made_from (N w) b c) ts us → (left : ℕ) → TookLike (take_call_by pass k P p cs b r ts left) (take_call_by pass k Q q ds c r' us left)
          take_call_like {ts} {us} r r' h hs left = go (ltb p.calls k) refl
            where
              same_test : ltb p.calls k ≡ ltb q.calls k
              same_test = ap (λ m. ltb m k) path.same_calls

              go : (x : Bool) → ltb p.calls k ≡ x → TookLike (take_call_by pass k P p cs b r ts left) (take_call_by pass k Q q ds c r' us left)
              go false e = rw (sym same_test, e) (done_like cut_like)
              go true e =
                  let i : p.calls < k = ltb-true p.calls k e in let j : k - p.calls ≡ suc (k - suc p.calls) = omega arith in
                  choose_like TookLike (ltb p.calls k) (ltb q.calls k) _ _ _ _ same_test
                  (make_call_like (k - suc p.calls) j hs (L.enters w (k - suc p.calls) p.made q.made r r' (length ts) path.made_like (subst (λ (i : ℕ). CallLike i r r' (length ts)) j h)) left) (done_like cut_like)

          taken_like : {g h : Goal} → GoalLike (made_from (N w) b c) (CallLike (k - p.calls)) g h → (left : ℕ) → TookLike (taken_by pass k P p cs b g left) (taken_by pass k Q q ds c h left)
          taken_like (equal_like {s} {t} {u} {v} h i) left =
              then_like TakenLike _ _ (unify_terms_like (N w) (L.pairs w) Waived (shift b s) (shift b t) (shift c u) (shift c v) path.bindings_like (shift_like b c h) (shift_like b c i) left) (λ o o' l e. equal_taken_like e l)
          taken_like (constrain_like h) left = take_constraint_like (shift_constraint_like b c h) left
          taken_like (conj_like h) left = take_conj_like h left
          taken_like (disj_like h) left = take_disj_like h left
          taken_like (call_like {r} {q = r'} h hs) left = take_call_like r r' h hs left

      -- states and turns
      record StateLike (s t : State) : Type 0 where
        world : World
        path_like : PathLike world s.path t.path
        task_like : TaskLike world (k - s.path.calls) s.task t.task
        choices_like : Pointwise ChoiceLike s.choices t.choices
        same_tally : s.tally ≡ t.tally

      abbrev TurnLike : Next → Next → Type 0
      TurnLike = NextLike Waived StateLike

      back_like : {cs ds : List ChoicePoint} → Pointwise ChoiceLike cs ds → (t : Tally) → TurnLike (backtrack cs t) (backtrack ds t)
      back_like nil_like t = over_like
      back_like (cons_like {a = c} {b = d} {xs = cs} {ys = ds} h hs) t = go h.rest_like
        where
          again : PathLike h.world (waiting_on c.path c.path.stack (suc c.path.put)) (waiting_on d.path d.path.stack (suc d.path.put))
          again = restacked c.path.stack d.path.stack (suc c.path.put) (suc d.path.put) h.path_like (ap suc h.path_like.same_put) h.path_like.stack_like

          go : {gs gs' : Goals} → GoalsLike (made_from (N h.world) c.base d.base) (CallLike (k - c.path.calls)) gs gs' → TurnLike (resume c.path c.base gs cs t) (resume d.path d.base gs' ds t)
          go (one_like i) = going_like (record { world = h.world; path_like = again; task_like = i; choices_like = hs; same_tally = refl })
          go (more_like i is) = going_like (record { world = h.world; path_like = again; task_like = i; choices_like = cons_like (record { world = h.world; path_like = h.path_like; rest_like = is }) hs; same_tally = refl })

      give_like : (cs ds : List ChoicePoint) → Pointwise ChoiceLike cs ds → (t : Tally) {o o' : Outcome (List ℕ)} → OutcomeLike Waived (λ x y. x ≡ y) o o' → TurnLike (give (once pass) n k cs t o) (give (once pass) n k ds t o')
      give_like cs ds hs t (done_like {a = ws} {b = vs} {l = l} e) =
          choose_like TurnLike (leb (length ws) t.room) (leb (length vs) t.room) _ _ _ _ (ap (λ (ws : List ℕ). leb (length ws) t.room) e)
          (subst (λ (vs : List ℕ). TurnLike (backtrack cs (list_answer (once pass) t k l ws)) (backtrack ds (list_answer (once pass) t k l vs))) e (back_like hs (list_answer (once pass) t k l ws))) over_like
      give_like cs ds hs t stop_like = over_like
      give_like cs ds hs t (waived_like waived) = waived_next waived

      go_on_like : (w : World) (p q : Path) {ts us : List Task} (cs ds : List ChoicePoint) → PathLike w p q → Pointwise (TaskLike w (k - p.calls)) ts us → Pointwise ChoiceLike cs ds → (t : Tally) → TurnLike (go_on (once pass) n k p ts cs t) (go_on (once pass) n k q us ds t)
      go_on_like w p q cs ds h nil_like hs t = choose_like TurnLike (eqb p.calls k) (eqb q.calls k) _ _ _ _ (ap (λ c. eqb c k) h.same_calls)
          (give_like cs ds hs t (answer_like (N w) (L.pairs w) Waived n p q h.query_like h.bindings_like h.kept_like t.left)) (back_like hs t)
      go_on_like w p q cs ds h (cons_like {xs = ts} {ys = us} i is) hs t = going_like (record { world = w; path_like = restacked ts us p.put q.put h h.same_put is; task_like = i; choices_like = hs; same_tally = refl })

      after_like : (s t : State) → StateLike s t → {o o' : Outcome Taken} → TookLike o o' → TurnLike (after (once pass) n k s o) (after (once pass) n k t o')
      after_like s t h {o} {o'} i = subst (λ (u : Tally). TurnLike (after (once pass) n k s o) (after (once pass) n k (record { task = t.task; path = t.path; choices = t.choices; tally = u }) o')) h.same_tally (go i)
        where
          go : {o o' : Outcome Taken} → TookLike o o' → TurnLike (after (once pass) n k s o) (after (once pass) n k (record { task = t.task; path = t.path; choices = t.choices; tally = s.tally }) o')
          go (done_like leaves_like) = back_like h.choices_like _
          go (done_like cut_like) = back_like h.choices_like _
          go (done_like (goes_like {p} {q} {cs} {ds} w i is)) = go_on_like w p q cs ds i i.stack_like is _
          go stop_like = over_like
          go (waived_like waived) = waived_next waived

      turn_like : (s t : State) → StateLike s t → TurnLike (turn_by (once pass) P n k s) (turn_by (once pass) Q n k t)
      turn_like s t h = after_like s t h (subst (λ (l : ℕ). TookLike (take_goal_by pass k P s.path s.choices s.task.0 s.task.1 s.tally.left) (take_goal_by pass k Q t.path t.choices t.task.0 t.task.1 l))
          (ap (λ (t : Tally). t.left) h.same_tally)
          (step_like TakenLike s.tally.left _ _ (λ l. taken_like h.world s.path t.path h.path_like s.choices t.choices h.choices_like s.task.0 t.task.0 h.task_like l)))

    module _ (R S : Relation) where
      pub round_like : (k room left : ℕ) (written : List Answer) → QueryLike k R S → RoundedLike Waived (one_round_by (once pass) P R k room left written) (one_round_by (once pass) Q S k room left written)
      round_like k room left written h =
          let t : Tally = record { left = left; room = room; cuts = 0; written = written } in
          subst (λ (n : ℕ). RoundedLike Waived (one_round_by (once pass) P R k room left written) (search_by (once pass) Q n k (suc left) (start S t))) h.same_params
          (search_like Waived pass pass P Q R.params R.params k (StateLike R.params k) (λ s t i. i.same_tally) (turn_like R.params k) (suc left) (start R t) (start S t) (record {
            world = h.world;
            path_like = record { made_like = h.made; query_like = h.query; bindings_like = nil_like; kept_like = nil_like; same_put = refl; same_calls = refl; stack_like = nil_like };
            task_like = let e : k ≡ k - 0 = omega arith in subst (λ (i : ℕ). GoalLike (made_from (N h.world) 0 0) (CallLike i) R.body S.body) e h.bodies;
            choices_like = nil_like;
            same_tally = refl;
          }))

      -- the law: rounds k to k + later in lockstep
      pub run_like : (limit later k room left last_cut : ℕ) (written : List Answer) → ((j : ℕ) → j ≤ k + later → QueryLike j R S) → ResultLike Waived (rounds_by limit (once pass) P R later k room left last_cut written) (rounds_by limit (once pass) Q S later k room left last_cut written)
      run_like limit later k room left last_cut written h =
          rounds_like Waived pass pass P Q R S (λ room. Unit {0}) (λ j room left written t u e. tt) limit later k room left last_cut written tt (λ j room left written l u. round_like j room left written (h j l))
