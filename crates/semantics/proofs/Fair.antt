-- Turns spend steps, answers fit the room left, and fuel never ends a run.
use Prim.Native.Nat.{◌+◌, ◌<◌, ◌≤◌, suc, zero, ℕ}
use mathlib.Core.List.{List, [], ◌++◌, ◌∷◌, map, map-append}
use mathlib.Core.Path.{◌∙◌, ◌≡◌, ap, fun_ext, refl}
use native.Mathlib.Omega.{arith}
use lib.Dec.{eqb, leb}
use lib.ListN.{length, length-append}
use borrow.Author.Tests.{leb-true}
use Rattle.rules.specs.Lists.{joined}
use Rattle.rules.specs.Syntax.{Goals, Program, Relation, more, one}
use Rattle.semantics.specs.Answer.{answer}
use Rattle.semantics.specs.Path.{ChoicePoint, Passing, Path, Taken, Task, cut, goes, leaves, take_goal_by, taken_by}
use Rattle.semantics.specs.Round.{Answer, End, Next, Result, Rounded, State, Tally, after, after_round, backtrack, broken, completed, count_cut, end_of, finished, give, go_on, going, once, one_round_by, onward, output_full, over, path_limit, repeats, result, resume, rounds_by, rounds_used, search_by, spend, start, steps_used, turn_by, write}
use Rattle.semantics.specs.Run.{page}
use Rattle.semantics.specs.Steps.{Outcome, Stop, at_bound, done, no_steps, stop}
use Rattle.semantics.proofs.Basics.{by_choose, joined_more}
use Rattle.semantics.proofs.Counts.{answer_spent, taken_spent}
use Rattle.semantics.proofs.StepLaws.{Spent, spent_up}

-- the answers so far and the room left make up the usable words
abbrev pub FitsPage : ℕ → Tally → Type 0
FitsPage total t = t.room + length (page t.written) ≡ total

-- the page with one answer more
pub page_more : (earlier : List Answer) (k : ℕ) (ws : List ℕ) → page (earlier ++ ((k, ws) ∷ [])) ≡ page earlier ++ ws
page_more earlier k ws = ap joined (map-append (λ a. a.1) earlier ((k, ws) ∷ [])) ∙ joined_more (map (λ a. a.1) earlier) ws

-- the steps left where a round is broken off by this end
abbrev pub Broke : End → Tally → Type 0
Broke finished t = ⊥
Broke rounds_used t = ⊥
Broke steps_used t = t.left ≡ 0
Broke output_full t = Unit {0}
Broke (path_limit b) t = 0 < t.left

-- what a turn leads to: a round under way has spent a step more, so that fewer than m are left
abbrev pub RoundedFair : ℕ → ℕ → Rounded → Type 0
RoundedFair m total (completed t) = (t.left ≤ m) × FitsPage total t
RoundedFair m total (broken e t) = (t.left ≤ m) × FitsPage total t × Broke e t

abbrev pub NextFair : ℕ → ℕ → Next → Type 0
NextFair m total (going s) = (s.tally.left < m) × FitsPage total s.tally
NextFair m total (over r) = RoundedFair m total r

module _ (pass : Passing) (P : Program) (n k m total : ℕ) where
  back_fair : (cs : List ChoicePoint) (t : Tally) → t.left < m → FitsPage total t → NextFair m total (backtrack cs t)
  back_fair [] t h f = (omega arith, f)
  back_fair (c ∷ cs) t h f = go c.rest
    where
      go : (gs : Goals) → NextFair m total (resume c.path c.base gs cs t)
      go (one g) = (h, f)
      go (more g gs) = (h, f)

  stop_fair : (t : Tally) (why : Stop) (l : ℕ) → Spent {A = Taken} m m (stop why l) → l ≤ m → FitsPage total t → NextFair m total (over (broken (end_of why) (spend t l)))
  stop_fair t no_steps l h i f = (i, f, h)
  stop_fair t (at_bound b) l h i f = (i, f, h.0)

  give_fair : (cs : List ChoicePoint) (t : Tally) → t.left < m → FitsPage total t → (o : Outcome (List ℕ)) → Spent t.left t.left o → NextFair m total (give (once pass) n k cs t o)
  give_fair cs t h f (stop no_steps l) s = stop_fair t no_steps l s (omega arith) f
  give_fair cs t h f (stop (at_bound b) l) s = stop_fair t (at_bound b) l (s.0, omega (arith, s.1)) (omega (arith, s.1)) f
  give_fair cs t h f (done ws l) s = by_choose (NextFair m total) (leb (length ws) t.room) _ _
      (λ q. by_choose (λ (u : Tally). NextFair m total (backtrack cs u)) (repeats ws t.written) _ _
      (λ r. back_fair cs (spend t l) (omega arith) f)
      (λ r. back_fair cs (write t k l ws) (omega arith) (let a = ap length (page_more t.written k ws) in let b = length-append (page t.written) ws in let c = leb-true (length ws) t.room q in omega arith)))
      (λ q. (omega arith, f, tt))

  go_on_fair : (p : Path) (stack : List Task) (cs : List ChoicePoint) (t : Tally) → t.left < m → FitsPage total t → NextFair m total (go_on (once pass) n k p stack cs t)
  go_on_fair p [] cs t h f = by_choose (NextFair m total) (eqb p.calls k) _ _ (λ q. give_fair cs t h f (answer p n t.left) (answer_spent p n t.left)) (λ q. back_fair cs t h f)
  go_on_fair p (task ∷ stack) cs t h f = (h, f)

  after_fair : (s : State) (o : Outcome Taken) (l : ℕ) → suc l ≡ m → Spent l m o → FitsPage total s.tally → NextFair m total (after (once pass) n k s o)
  after_fair s (stop no_steps l) l' e h f = stop_fair s.tally no_steps l h (omega arith) f
  after_fair s (stop (at_bound b) l) l' e h f = stop_fair s.tally (at_bound b) l h h.1 f
  after_fair s (done leaves l) l' e h f = back_fair s.choices (spend s.tally l) (omega arith) f
  after_fair s (done cut l) l' e h f = back_fair s.choices (count_cut s.tally l) (omega arith) f
  after_fair s (done (goes p cs) l) l' e h f = go_on_fair p p.stack cs (spend s.tally l) (omega arith) f

  pub turn_fair : (s : State) → s.tally.left ≡ m → FitsPage total s.tally → NextFair m total (turn_by (once pass) P n k s)
  turn_fair s e f = go s.tally.left e
    where
      go : (l : ℕ) → l ≡ m → NextFair m total (after (once pass) n k s (take_goal_by pass k P s.path s.choices s.task.0 s.task.1 l))
      go zero e = (omega arith, f, refl)
      go (suc l) e = after_fair s (taken_by pass k P s.path s.choices s.task.0 s.task.1 l) l e
          (spent_up l (suc l) l m (taken_by pass k P s.path s.choices s.task.0 s.task.1 l) (omega arith) (omega arith) (taken_spent pass k P s.path s.choices s.task.0 s.task.1 l)) f

rounded_up : (l m total : ℕ) → l ≤ m → (r : Rounded) → RoundedFair l total r → RoundedFair m total r
rounded_up l m total h (completed t) (i, f) = (omega arith, f)
rounded_up l m total h (broken e t) (i, f, b) = (omega arith, f, b)

module _ (pass : Passing) (P : Program) (n k total : ℕ) where
  pub search_fair : (fuel : ℕ) (s : State) → s.tally.left < fuel → FitsPage total s.tally → RoundedFair s.tally.left total (search_by (once pass) P n k fuel s)
  search_fair zero s h f = absurd (omega arith)
  search_fair (suc fuel) s h f = go (turn_by (once pass) P n k s) (turn_fair pass P n k s.tally.left total s refl f) (search_fair fuel)
    where
      go : (x : Next) → NextFair s.tally.left total x → ((s : State) → s.tally.left < fuel → FitsPage total s.tally → RoundedFair s.tally.left total (search_by (once pass) P n k fuel s)) →
          RoundedFair s.tally.left total (onward x (λ s'. search_by (once pass) P n k fuel s'))
      go (going s') (l, f) ih = rounded_up s'.tally.left s.tally.left total (omega arith) (search_by (once pass) P n k fuel s') (ih s' (omega arith) f)
      go (over r) h ih = h

-- Fuel: any amount above the steps left makes no difference.
pub search_fuel : (pass : Passing) (P : Program) (n k fuel fuel' : ℕ) (s : State) → s.tally.left < fuel → s.tally.left < fuel' → search_by (once pass) P n k fuel s ≡ search_by (once pass) P n k fuel' s
search_fuel pass P n k zero fuel' s h i = absurd (omega arith)
search_fuel pass P n k (suc fuel) zero s h i = absurd (omega arith)
search_fuel pass P n k (suc fuel) (suc fuel') s h i = go (turn_by (once pass) P n k s) (turn_fair pass P n k s.tally.left (s.tally.room + length (page s.tally.written)) s refl refl) (search_fuel pass P n k fuel fuel')
  where
    go : (x : Next) → NextFair s.tally.left (s.tally.room + length (page s.tally.written)) x → ((s : State) → s.tally.left < fuel → s.tally.left < fuel' → search_by (once pass) P n k fuel s ≡ search_by (once pass) P n k fuel' s) →
        onward x (λ s'. search_by (once pass) P n k fuel s') ≡ onward x (λ s'. search_by (once pass) P n k fuel' s')
    go (going s') (l, f) ih = ih s' (omega arith) (omega arith)
    go (over r) h ih = refl

-- a run whose rounds have this fuel, for the steps left at their start
unfoldable pub rounds_with : Passing → (ℕ → ℕ) → ℕ → Program → Relation → ℕ → ℕ → ℕ → ℕ → ℕ → List Answer → Result
rounds_with pass fuel limit P R zero k room left last_cut written =
    after_round limit k last_cut (search_by (once pass) P R.params k (fuel left) (start R (record { left = left; room = room; cuts = 0; written = written }))) (λ t. result limit rounds_used k t.cuts t)
rounds_with pass fuel limit P R (suc later) k room left last_cut written =
    after_round limit k last_cut (search_by (once pass) P R.params k (fuel left) (start R (record { left = left; room = room; cuts = 0; written = written }))) (λ t. rounds_with pass fuel limit P R later (suc k) t.room t.left t.cuts t.written)

-- Fuel is never what ends a run: with any fuel that is more than the steps left, the run says the same.
pub fuel_enough : (pass : Passing) (fuel : ℕ → ℕ) → ((left : ℕ) → left < fuel left) → (limit : ℕ) (P : Program) (R : Relation) (later k room left last_cut : ℕ) (written : List Answer) →
    rounds_with pass fuel limit P R later k room left last_cut written ≡ rounds_by limit (once pass) P R later k room left last_cut written
unfolding rounds_with
fuel_enough pass fuel h limit P R zero k room left last_cut written =
    ap (λ (r : Rounded). after_round limit k last_cut r (λ t. result limit rounds_used k t.cuts t)) (search_fuel pass P R.params k (fuel left) (suc left) (start R (record { left = left; room = room; cuts = 0; written = written })) (h left) (omega arith))
fuel_enough pass fuel h limit P R (suc later) k room left last_cut written =
    ap (λ (r : Rounded). after_round limit k last_cut r (λ t. rounds_with pass fuel limit P R later (suc k) t.room t.left t.cuts t.written)) (search_fuel pass P R.params k (fuel left) (suc left) (start R (record { left = left; room = room; cuts = 0; written = written })) (h left) (omega arith))
    ∙ ap (λ (go : Tally → Result). after_round limit k last_cut (one_round_by (once pass) P R k room left written) go) (fun_ext (λ t. fuel_enough pass fuel h limit P R later (suc k) t.room t.left t.cuts t.written))
