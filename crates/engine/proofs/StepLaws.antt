-- The search's steps on words: a goal put to wait, a choice point made, the way back to it.
use Prim.Native.Nat.{ℕ, zero, suc, ◌+◌, ◌≤◌, ◌<◌}
use mathlib.Core.Path.{◌≡◌, refl, sym, ap, subst, ◌∙◌}
use mathlib.Core.Logic.{◌≢◌}
use mathlib.Core.List.{List, [], ◌∷◌, ◌++◌}
use native.Mathlib.Omega.{arith}
use lib.ListN.{length, set, length-set, length-append}
use lib.Seq.{sets, length-sets, get_or-set_same, get_or-set_other}
use Rattle.rules.specs.Syntax.{Constraint, Goal, Goals, one, more, Program}
use Rattle.semantics.specs.Substitution.{Substitution}
use Rattle.semantics.specs.Path.{Path, ChoicePoint, waiting_on}
use Rattle.rules.specs.Reading.{after}
use Rattle.rules.specs.Settings.{scratch_words}
use Rattle.engine.specs.Reference.{at, beyond, pos_of, TaskAt, RestAt}
use Rattle.engine.specs.Memory.{goal_at, next_at, point_at, Registers, saved, BindingsIn, KeptIn, PathIn, Grown, ChoiceIn, Stored, cell, point}
use Rattle.engine.proofs.FrameLaws.{Untouched, frame, Outside, store, path_same, table_same, names_same, kept_same, choices_same}
use Rattle.engine.specs.Trail.{Trailed, Undone}
use Rattle.engine.proofs.TrailLaws.{fresh_few}
use Rattle.engine.proofs.GoalLaws.{Then, task_one, task_more}
use Rattle.engine.proofs.ClaimLaws.{counted, waited, count, claim_cell, claim_point}

-- A run of stores
pub sets_other : (vs l : List ℕ) (i k : ℕ) → ((j : ℕ) → i ≤ j → j < i + length vs → k ≢ j) → at (sets l i vs) k ≡ at l k
sets_other [] l i k out = refl
sets_other (a ∷ vs) l i k out = sets_other vs (set l i a) (suc i) k (λ j lo hi. out j (omega arith) (omega arith)) ∙ get_or-set_other l i k a 0 (out i (omega arith) (omega arith))

pub sets_here : (vs l : List ℕ) (i j : ℕ) → j < length vs → i + length vs ≤ length l → at (sets l i vs) (i + j) ≡ at vs j
sets_here [] l i j lt le = absurd (omega arith)
sets_here (a ∷ vs) l i zero lt le =
    let e : i + 0 ≡ i = omega arith in
    rw e (sets_other vs (set l i a) (suc i) i (λ j lo hi. omega arith) ∙ get_or-set_same l i a 0 (omega arith))
sets_here (a ∷ vs) l i (suc j) lt le =
    let e : i + suc j ≡ suc i + j = omega arith in
    rw e (sets_here vs (set l i a) (suc i) j (omega arith) (rw length-set (omega arith)))

module _ {P : Program} {ws s : List ℕ} {r : Registers} {n : ℕ} {p : Path} {cs : List ChoicePoint} where
  -- A goal is put to wait: two stores.
  pub wait_one : (base : ℕ) (g : Goal) (w : ℕ) → r.goals < 1024 → TaskAt ws w (base, g) → Stored P ws s r n p cs → Stored P ws (cell s (r.goals + 1) w r.head) (waited r) n (waiting_on p ((base, g) ∷ p.stack) (suc p.put)) cs
  wait_one base g w lt is h =
      let c : ℕ = r.goals + 1 in
      let long : scratch_words ≤ length s = h.roomy.long in
      let few : n ≤ 256 = h.roomy.choices in
      let trail : r.trail ≤ 2048 = h.roomy.trail in
      let k : Stored P ws (cell s c w r.head) r n p cs = store (next_at c) r.head (omega arith) (store (goal_at c) w (omega arith) h) in
      let goal : at (cell s c w r.head) (goal_at c) ≡ w = get_or-set_other (set s (goal_at c) w) (next_at c) (goal_at c) r.head 0 (omega arith) ∙ get_or-set_same s (goal_at c) w 0 (omega arith) in
      let next : at (cell s c w r.head) (next_at c) ≡ r.head = get_or-set_same (set s (goal_at c) w) (next_at c) r.head 0 (rw length-set (omega arith)) in
      claim_cell base g lt (rw goal is) next k

  -- A choice point is made: eight stores.
  pub push : (base : ℕ) (rest : Goals) (w to : ℕ) → n < 256 → r.goals < 1024 → RestAt ws w to base rest → Stored P ws s r n p cs → Stored P ws (point s n w to r) r (n + 1) p (record { path = p; base = base; rest = rest } ∷ cs)
  push base rest w to lt room is h =
      let long : scratch_words ≤ length s = h.roomy.long in
      let trail : r.trail ≤ 2048 = h.roomy.trail in
      let kept : r.constraints ≤ 512 = h.roomy.kept in
      let vs : List ℕ = w ∷ to ∷ r.head ∷ r.trail ∷ r.variables ∷ r.goals ∷ r.constraints ∷ r.calls ∷ [] in
      let same : (i : ℕ) → ((j : ℕ) → point_at n ≤ j → j < point_at n + 8 → i ≢ j) → at (point s n w to r) i ≡ at s i = λ i out. sets_other vs s (point_at n) i out in
      let u : Untouched s (point s n w to r) r n = record {
        long = rw length-sets (omega arith);
        bindings = λ i lo hi. same i (omega arith);
        trail = λ i lo hi. same i (omega arith);
        cells = λ i lo hi. same i (omega arith);
        names = λ i lo hi. same i (omega arith);
        points = λ i lo hi. same i (omega arith);
        kept = λ i lo hi. same i (omega arith);
        table = λ i lo hi. same i (omega arith);
      } in
      let here : (j : ℕ) → j < 8 → at (point s n w to r) (point_at n + j) ≡ at vs j = λ j l. sets_here vs s (point_at n) j l (omega arith) in
      let is_saved : saved (point s n w to r) n ≡ r = rw (here 2 (omega arith), here 3 (omega arith), here 4 (omega arith), here 5 (omega arith), here 6 (omega arith), here 7 (omega arith)) refl in
      let zero_is : point_at n + 0 ≡ point_at n = omega arith in
      let first : at (point s n w to r) (point_at n) ≡ w = rw zero_is at (here 0 (omega arith)) in
      claim_point base rest lt room is_saved (rw (first, here 1 (omega arith)) is) (frame u h)

pub kept_front : (ws s : List ℕ) (n : ℕ) (cs ds : List Constraint) → KeptIn ws s n (cs ++ ds) → KeptIn ws s n cs
kept_front ws s n [] ds k = tt
kept_front ws s n (c ∷ cs) ds k = (k.0, kept_front ws s (suc n) cs ds k.1)

-- The way back to choice point m, s' being the scratch when the trail is taken back to where it was: the saved registers are the registers.
pub record Restored (P : Program) (ws s s' : List ℕ) (m : ℕ) (c : ChoicePoint) (cs : List ChoicePoint) : Type 0 where
  pub stored : Stored P ws s' (saved s m) m c.path cs
  pub rest_at : RestAt ws (at s (point_at m)) (at s (point_at m + 1)) c.base c.rest
  pub room : (saved s m).goals < 1024
  pub above : (i : ℕ) → 2048 ≤ i → at s' i ≡ at s i

-- the trail as it is taken back
pub marked : {P : Program} {ws s : List ℕ} {r : Registers} {p : Path} {c : ChoicePoint} {cs : List ChoicePoint} (m : ℕ) → Stored P ws s r (m + 1) p (c ∷ cs)
    → (new : Substitution) × Trailed ws s new c.path.bindings (at s (point_at m + 3)) r.trail
marked {P} {ws} {s} {r} {p} {c} {cs} m h =
    let e : length cs ≡ m = omega (arith, h.choices_are) in
    let d : ChoiceIn ws s m p c = subst (λ k. ChoiceIn ws s k p c) e h.choices_in.0 in (
      d.grown.new,
      record {
        long = h.roomy.long;
        bindings_in = subst (BindingsIn ws s) d.grown.bindings h.bindings_in;
        mark_is = d.path_in.trail;
        trail_is = h.path_in.trail ∙ ap length d.grown.bindings;
      },
    )

pub restore : {P : Program} {ws s : List ℕ} {r : Registers} {p : Path} {c : ChoicePoint} {cs : List ChoicePoint} (m : ℕ) (s' : List ℕ) → Stored P ws s r (m + 1) p (c ∷ cs) → Undone ws s s' c.path.bindings
    → Restored P ws s s' m c cs
restore {P} {ws} {s} {r} {p} {c} {cs} m s' h u =
    let q : Path = c.path in
    let e : length cs ≡ m = omega (arith, h.choices_are) in
    let d : ChoiceIn ws s m p c = subst (λ k. ChoiceIn ws s k p c) e h.choices_in.0 in
    let g : Grown q p = d.grown in
    let i : PathIn ws s (saved s m) q = d.path_in in
    let long : scratch_words ≤ length s = h.roomy.long in
    let few : m + 1 ≤ 256 = h.roomy.choices in
    let kept_sum : length p.kept ≡ length q.kept + length g.later = ap length g.kept ∙ length-append q.kept g.later in
    record {
      stored = record {
        roomy = record {
          long = omega (arith, u.long);
          trail = omega (arith, i.trail, fresh_few q.bindings u.bindings_in.fresh);
          made = omega (arith, i.made, g.made, h.path_in.made, h.roomy.made);
          put = omega (arith, i.put, d.room);
          choices = omega arith;
          kept = omega (arith, i.kept, kept_sum, h.path_in.kept, h.roomy.kept);
        };
        table = table_same P ws s s' (λ i lo hi. u.above i (omega arith)) h.table;
        bindings_in = u.bindings_in;
        kept_in = kept_same ws s s' 0 q.kept (λ i lo hi. u.above i (omega arith)) (kept_front ws s 0 q.kept g.later (subst (λ ks. KeptIn ws s 0 ks) g.kept h.kept_in));
        path_in = path_same ws s s' (saved s m) q (λ i lo hi. u.above i (omega arith)) i;
        choices_in = choices_same ws s s' q cs (λ i lo hi. u.above i (omega arith)) (λ i lo hi. u.above i (omega arith)) h.choices_in.1;
        choices_are = sym e;
        nameless = names_same s s' (λ i lo hi. u.above i (omega arith)) h.nameless;
      };
      rest_at = d.rest_at;
      room = omega (arith, i.put, d.room);
      above = u.above;
    }

-- The last alternative: the choice point is gone.
pub resume_last : {P : Program} {ws s s' : List ℕ} {q : Path} {base : ℕ} {g : Goal} {cs : List ChoicePoint} (m : ℕ) → Restored P ws s s' m (record { path = q; base = base; rest = one g }) cs
    → (after ws (pos_of (at s (point_at m))) ≡ at s (point_at m + 1)) × TaskAt ws (at s (point_at m)) (base, g) × Stored P ws s' (counted (saved s m)) m (waiting_on q q.stack (suc q.put)) cs
resume_last {ws = ws} {s = s} {base = base} {g = g} m k =
    let one_is = task_one ws (at s (point_at m)) (at s (point_at m + 1)) base g k.rest_at in
    (one_is.0, one_is.1, count k.room k.stored)

-- Another one is left: the choice point stays, with its first word moved on.
pub resume_next : {P : Program} {ws s s' : List ℕ} {q : Path} {base : ℕ} {g : Goal} {gs : Goals} {cs : List ChoicePoint} (m : ℕ) → m < 256 → Restored P ws s s' m (record { path = q; base = base; rest = more g gs }) cs
    → (after ws (pos_of (at s (point_at m))) < at s (point_at m + 1)) × TaskAt ws (at s (point_at m)) (base, g)
    × Stored P ws (set s' (point_at m) (beyond ws (at s (point_at m)))) (counted (saved s m)) (m + 1) (waiting_on q q.stack (suc q.put)) (record { path = q; base = base; rest = gs } ∷ cs)
resume_next {P} {ws} {s} {s'} {q} {base} {g} {gs} {cs} m few k =
    let w : ℕ = at s (point_at m) in
    let v : ℕ = beyond ws w in
    let t : Then ws w (at s (point_at m + 1)) base g gs = task_more ws w (at s (point_at m + 1)) base g gs k.rest_at in
    let long : scratch_words ≤ length s' = k.stored.roomy.long in
    let room : (saved s m).goals < 1024 = k.room in
    let trail : (saved s m).trail ≤ 2048 = k.stored.roomy.trail in
    let out : Outside (saved s m) m (point_at m) = omega arith in
    let j : Stored P ws (set s' (point_at m) v) (saved s m) m q cs = store (point_at m) v out k.stored in
    let words : (i : ℕ) → point_at m < i → at (set s' (point_at m) v) i ≡ at s i = λ i lo. get_or-set_other s' (point_at m) i v 0 (omega arith) ∙ k.above i (omega arith) in
    let is_saved : saved (set s' (point_at m) v) m ≡ saved s m = rw (words (point_at m + 2) (omega arith), words (point_at m + 3) (omega arith), words (point_at m + 4) (omega arith), words (point_at m + 5) (omega arith), words (point_at m + 6) (omega arith), words (point_at m + 7) (omega arith)) refl in
    let first : at (set s' (point_at m) v) (point_at m) ≡ v = get_or-set_same s' (point_at m) v 0 (omega arith) in
    let rest : RestAt ws (at (set s' (point_at m) v) (point_at m)) (at (set s' (point_at m) v) (point_at m + 1)) base gs = rw (first, words (point_at m + 1) (omega arith)) t.others in
    (t.not_last, t.first, count room (claim_point base gs (omega arith) room is_saved rest j))

-- A disjunction is taken. With one alternative it is that goal put to wait (`wait_one`); with more, a choice point is made first.
abbrev pub disjoined : List ℕ → List ℕ → Registers → ℕ → ℕ → ℕ → List ℕ
disjoined ws s r n w to = cell (point s n (beyond ws w) to r) (r.goals + 1) w r.head

module _ {P : Program} {ws s : List ℕ} {r : Registers} {n : ℕ} {p : Path} {cs : List ChoicePoint} where
  pub disj_one : (base : ℕ) (g : Goal) (w to : ℕ) → r.goals < 1024 → RestAt ws w to base (one g) → Stored P ws s r n p cs → Stored P ws (cell s (r.goals + 1) w r.head) (waited r) n (waiting_on p ((base, g) ∷ p.stack) (suc p.put)) cs
  disj_one base g w to lt is h = wait_one base g w lt (task_one ws w to base g is).1 h

  pub disj_more : (base : ℕ) (g : Goal) (rest : Goals) (w to : ℕ) → r.goals < 1024 → n < 256 → RestAt ws w to base (more g rest) → Stored P ws s r n p cs
      → Stored P ws (disjoined ws s r n w to) (waited r) (n + 1) (waiting_on p ((base, g) ∷ p.stack) (suc p.put)) (record { path = p; base = base; rest = rest } ∷ cs)
  disj_more base g rest w to lt few is h =
      let t : Then ws w to base g rest = task_more ws w to base g rest is in
      wait_one base g w lt t.first (push base rest (beyond ws w) to few lt t.others h)
