-- The states that a round comes to: a turn leads to another as `Turns` says, breaks the round off as `TurnBreaks` says, or leaves its last path; so a round is broken off or completed in just that situation.
use Prim.Native.Nat.{◌+◌, ◌<◌, ◌≤◌, suc, zero, ℕ}
use mathlib.Core.Bool.{Bool}
use mathlib.Core.List.{List, [], ◌∷◌}
use mathlib.Core.Logic.{◌↔◌}
use mathlib.Core.Path.{◌∙◌, ◌≡◌, ap, refl, subst}
use native.Mathlib.Nat.{max-eq_left}
use native.Mathlib.Omega.{arith}
use lib.Dec.{eqb, leb}
use lib.ListN.{length}
use borrow.Author.Tests.{eqb-false, eqb-true, le-leb, leb-true, ne_eqb}
use Rattle.rules.specs.Reading.{choose}
use Rattle.rules.specs.Syntax.{Goals, Program, Relation, more, one}
use Rattle.semantics.specs.Answer.{answer}
use Rattle.semantics.specs.Path.{ChoicePoint, Passing, Path, Taken, Task, cut, goes, leaves}
use Rattle.semantics.specs.Round.{Answer, End, Next, Rounded, State, Tally, after, backtrack, broken, completed, give, go_on, going, list_answer, once, one_round_by, onward, output_full, over, repeats, resume, search_by, spend, start, turn_by, write}
use Rattle.semantics.specs.Run.{page}
use Rattle.semantics.specs.Situation.{BreaksOff, Completes, PathEnds, PathLeft, Reached, Turns, failed, gave_answer, gave_none, gave_repeat, goes_on, has, here, onto, takes_goal, tries_last, tries_next, was_cut}
use Rattle.semantics.specs.Steps.{Bound, Outcome, done, most, stop, variables}
use Rattle.semantics.proofs.Basics.{by_choose}
use Rattle.semantics.proofs.Fair.{NextFair, turn_fair}
use Rattle.semantics.proofs.Repeats.{given_repeats, new_not_given, not_given_new, repeats_given}
use Rattle.semantics.proofs.Situations.{ends_give, turn_breaks}
use Rattle.semantics.proofs.WithinBounds.{NextWithin, StateWithin, TookAs, each_within, goal_took, set_out, start_within, turn_within}

module _ (pass : Passing) (P : Program) (n k : ℕ) (s : State) where
  -- a path that ended is backtracked from with its answer listed
  abbrev back_listed : (p : Path) (m : ℕ) → PathEnds pass P n k s p m → List ℕ → ℕ → Bool → Next
  back_listed p m x ws l b = backtrack x.choices (choose b (λ _. spend s.tally l) (λ _. write s.tally k l ws))

  gave_back : (p : Path) (m : ℕ) (x : PathEnds pass P n k s p m) (ws : List ℕ) (l : ℕ) → answer p n m ≡ done ws l → length ws ≤ s.tally.room → turn_by (once pass) P n k s ≡ back_listed p m x ws l (repeats ws s.tally.written)
  gave_back p m x ws l e h =
      ends_give pass P n k s p m x ∙ ap (give (once pass) n k x.choices (spend s.tally m)) e
      ∙ ap (λ (b : Bool). choose b (λ _. backtrack x.choices (list_answer (once pass) (spend s.tally m) k l ws)) (λ _. over (broken output_full (spend (spend s.tally m) l)))) (le-leb (length ws) s.tally.room h)

  -- a path that is left is backtracked from
  left_back : {t : Tally} {cs : List ChoicePoint} → PathLeft pass P n k s t cs → turn_by (once pass) P n k s ≡ backtrack cs t
  left_back (failed l e) = ap (after (once pass) n k s) e
  left_back (was_cut l e) = ap (after (once pass) n k s) e
  left_back (gave_none p cs l e r h) =
      ap (after (once pass) n k s) e ∙ ap (λ (stack : List Task). go_on (once pass) n k p stack cs (spend s.tally l)) r
      ∙ ap (λ (b : Bool). choose b (λ _. give (once pass) n k cs (spend s.tally l) (answer p n l)) (λ _. backtrack cs (spend s.tally l))) (ne_eqb p.calls k (omega arith))
  left_back (gave_answer p m x ws l e h new) = gave_back p m x ws l e h ∙ ap (back_listed p m x ws l) (not_given_new ws s.tally.written new)
  left_back (gave_repeat p m x ws l e h given) = gave_back p m x ws l e h ∙ ap (back_listed p m x ws l) (given_repeats ws s.tally.written given)

  -- one turn
  pub turns_going : {s' : State} → Turns pass P n k s s' → turn_by (once pass) P n k s ≡ going s'
  turns_going (goes_on p cs l task stack e r) = ap (after (once pass) n k s) e ∙ ap (λ (tasks : List Task). go_on (once pass) n k p tasks cs (spend s.tally l)) r
  turns_going (tries_last t c cs g x e) = left_back x ∙ ap (λ (gs : Goals). resume c.path c.base gs cs t) e
  turns_going (tries_next t c cs g gs x e) = left_back x ∙ ap (λ (gs : Goals). resume c.path c.base gs cs t) e

  -- The other way, of a state with no more calls than the round's number

  -- what a turn that is not broken off comes to
  abbrev LeadsTo : Next → Type 0
  LeadsTo (going s') = Turns pass P n k s s'
  LeadsTo (over (completed t)) = PathLeft pass P n k s t []
  LeadsTo (over (broken e t)) = Unit {0}

  left_leads : {t : Tally} (cs : List ChoicePoint) → PathLeft pass P n k s t cs → LeadsTo (backtrack cs t)
  left_leads [] x = x
  left_leads {t} (c ∷ cs) x = go c.rest refl
    where
      go : (gs : Goals) → c.rest ≡ gs → LeadsTo (resume c.path c.base gs cs t)
      go (one g) e = tries_last t c cs g x e
      go (more g gs) e = tries_next t c cs g gs x e

  turn_leads : s.path.calls ≤ k → LeadsTo (turn_by (once pass) P n k s)
  turn_leads few = on (takes_goal pass P n k s) refl (goal_took pass k P s.path s.choices s.task.0 s.task.1 s.tally.left)
    where
      given : (p : Path) (m : ℕ) (x : PathEnds pass P n k s p m) (o : Outcome (List ℕ)) → answer p n m ≡ o → LeadsTo (give (once pass) n k x.choices (spend s.tally m) o)
      given p m x (stop why l) f = tt
      given p m x (done ws l) f = by_choose LeadsTo (leb (length ws) s.tally.room) _ _ (λ h. by_choose (λ (u : Tally). LeadsTo (backtrack x.choices u)) (repeats ws s.tally.written) _ _
          (λ r. left_leads x.choices (gave_repeat p m x ws l f (leb-true (length ws) s.tally.room h) (repeats_given ws s.tally.written r)))
          (λ r. left_leads x.choices (gave_answer p m x ws l f (leb-true (length ws) s.tally.room h) (new_not_given ws s.tally.written r)))) (λ h. tt)

      ended : (p : Path) (cs : List ChoicePoint) (m : ℕ) → takes_goal pass P n k s ≡ done (goes p cs) m → p.calls ≤ k → (stack : List Task) → p.stack ≡ stack → LeadsTo (go_on (once pass) n k p stack cs (spend s.tally m))
      ended p cs m f i (task ∷ stack) r = goes_on p cs m task stack f r
      ended p cs m f i [] r = by_choose LeadsTo (eqb p.calls k) _ _
          (λ h. given p m (record { choices = cs; takes = f; none_waits = r; all_calls = eqb-true p.calls k h }) (answer p n m) refl)
          (λ h. left_leads cs (gave_none p cs m f r (omega (arith, eqb-false p.calls k h))))

      on : (o : Outcome Taken) → takes_goal pass P n k s ≡ o → TookAs pass k P s.path s.choices s.task.1 o → LeadsTo (after (once pass) n k s o)
      on (stop why l) f x = tt
      on (done leaves l) f x = left_leads s.choices (failed l f)
      on (done cut l) f x = left_leads s.choices (was_cut l f)
      on (done (goes p cs) l) f x = ended p cs l f (x.calls_allowed few) p.stack refl

-- Rounds

-- a round is over with what the turn of a state that it reaches says
reached_over : {pass : Passing} {P : Program} {n k : ℕ} {s s' : State} → Reached pass P n k s s' → (r : Rounded) → turn_by (once pass) P n k s' ≡ over r → (fuel : ℕ) → s.tally.left < fuel → search_by (once pass) P n k fuel s ≡ r
reached_over {pass} {P} {n} {k} {s} x r q zero h = absurd (omega arith)
reached_over {pass} {P} {n} {k} {s} here r q (suc fuel) h = ap (λ (y : Next). onward y (λ s'. search_by (once pass) P n k fuel s')) q
reached_over {pass} {P} {n} {k} {s} (onto {s' = m} p x) r q (suc fuel) h =
    let e : turn_by (once pass) P n k s ≡ going m = turns_going pass P n k s p in
    ap (λ (y : Next). onward y (λ s'. search_by (once pass) P n k fuel s')) e
    ∙ reached_over x r q fuel (let f : NextFair s.tally.left (s.tally.room + length (page s.tally.written)) (going m) = subst (NextFair s.tally.left (s.tally.room + length (page s.tally.written))) e (turn_fair pass P n k s.tally.left (s.tally.room + length (page s.tally.written)) s refl refl) in omega (arith, f.0))

-- and it always is over so
record OverAt (pass : Passing) (P : Program) (n k : ℕ) (from_state : State) (r : Rounded) : Type 0 where
  pub state : State
  pub reached : Reached pass P n k from_state state
  pub few_calls : state.path.calls ≤ k
  pub turns : turn_by (once pass) P n k state ≡ over r

over_at : (pass : Passing) (P : Program) (n k : ℕ) (first : Bound → ℕ) (fuel : ℕ) (s : State) (r : Rounded) → StateWithin k first s → s.tally.left < fuel → search_by (once pass) P n k fuel s ≡ r → OverAt pass P n k s r
over_at pass P n k first zero s r w h q = absurd (omega arith)
over_at pass P n k first (suc fuel) s r w h q =
    go (turn_by (once pass) P n k s) refl (turn_within k first pass P n s w) (turn_leads pass P n k s w.path_within.few_calls) (turn_fair pass P n k s.tally.left (s.tally.room + length (page s.tally.written)) s refl refl) q (λ s'. over_at pass P n k first fuel s' r)
  where
    go : (x : Next) → turn_by (once pass) P n k s ≡ x → NextWithin k first x → LeadsTo pass P n k s x → NextFair s.tally.left (s.tally.room + length (page s.tally.written)) x → onward x (λ s'. search_by (once pass) P n k fuel s') ≡ r →
        ((s' : State) → StateWithin k first s' → s'.tally.left < fuel → search_by (once pass) P n k fuel s' ≡ r → OverAt pass P n k s' r) → OverAt pass P n k s r
    go (going s') p v y (l, f) q ih = let b = ih s' v (omega arith) q in record { state = b.state; reached = onto y b.reached; few_calls = b.few_calls; turns = b.turns }
    go (over u) p v y f q ih = record { state = s; reached = here; few_calls = w.path_within.few_calls; turns = p ∙ ap over q }

module _ (pass : Passing) (P : Program) (R : Relation) (k room left : ℕ) (before : List Answer) where
  abbrev sets_out : State
  sets_out = start R (record { left = left; room = room; cuts = 0; written = before })

  over_in : (r : Rounded) → one_round_by (once pass) P R k room left before ≡ r → OverAt pass P R.params k sets_out r
  over_in r q = over_at pass P R.params k (set_out R) (suc left) sets_out r (start_within k R sets_out.tally) (omega arith) q

  -- a round is broken off by an end if and only if one of its states is in that situation
  pub round_breaks : (e : End) (t : Tally) → (one_round_by (once pass) P R k room left before ≡ broken e t) ↔ BreaksOff pass P R k room left before e t
  round_breaks e t = (
    λ q. let a = over_in (broken e t) q in let (l, z, b) = (turn_breaks pass P R.params k a.state e t).0 a.turns in (a.state, l, a.reached, z, b),
    λ (s, l, x, z, b). reached_over x (broken e t) ((turn_breaks pass P R.params k s e t).1 (l, z, b)) (suc left) (omega arith),
  )

  -- and completed if and only if the last of them leaves its path with no alternative left
  pub round_completes : (t : Tally) → (one_round_by (once pass) P R k room left before ≡ completed t) ↔ Completes pass P R k room left before t
  round_completes t = (
    λ q. let a = over_in (completed t) q in (a.state, a.reached, subst (LeadsTo pass P R.params k a.state) a.turns (turn_leads pass P R.params k a.state a.few_calls)),
    λ (s, x, y). reached_over x (completed t) (left_back pass P R.params k s y) (suc left) (omega arith),
  )

-- Bounds

-- every state that is reached is within what the first is within
pub reached_within : {pass : Passing} {P : Program} {n k : ℕ} {first : Bound → ℕ} {s s' : State} → Reached pass P n k s s' → StateWithin k first s → StateWithin k first s'
reached_within here w = w
reached_within {pass} {P} {n} {k} {first} {s} (onto p x) w = reached_within x (subst (NextWithin k first) (turns_going pass P n k s p) (turn_within k first pass P n s w))

-- "On one path: 2,048 variables, 1,024 goals put to wait .., 256 disjunctions with alternatives left, 512 constraints": no state of a round has more, if the query has no more variables
pub bounds_kept : (pass : Passing) (P : Program) (n k : ℕ) (R : Relation) (t : Tally) → R.vars ≤ most variables → {s : State} → Reached pass P n k (start R t) s → (b : Bound) → has s.path s.choices b ≤ most b
bounds_kept pass P n k R t h {s} x b =
    subst (λ (m : ℕ). has s.path s.choices b ≤ m) (max-eq_left (each_within h (omega arith) (omega arith) (omega arith) b)) ((reached_within x (start_within k R t)).path_within.each_bound b)
