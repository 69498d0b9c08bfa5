-- Backtracking, as the code does it: one law for each way in which `backtrack` returns, and what it needs on the way.
use Rattle.std.specs.Prelude.{None, Some}
use Prim.Native.Nat.{ℕ, suc, ◌+◌, ◌-◌, ◌≤◌, ◌<◌}
use mathlib.Core.Path.{◌≡◌, refl, sym, ap, subst, ◌∙◌}
use mathlib.Core.List.{List, [], ◌∷◌}
use native.Mathlib.Omega.{arith}
use lib.ListN.{length, set, length-set}
use lib.Seq.{get_or-set_other}
use Rattle.rules.specs.Syntax.{Goals, one, more, Program}
use Rattle.rules.specs.Settings.{scratch_words}
use Rattle.semantics.specs.Substitution.{Substitution}
use Rattle.semantics.specs.Path.{Path, ChoicePoint, waiting_on}
use Rattle.semantics.specs.Round.{Tally, backtrack}
use Rattle.engine.specs.Reference.{at, pos_of}
use Rattle.engine.specs.Memory.{point_at, saved, Stored}
use Rattle.engine.specs.Walk.{PartRead}
use Rattle.engine.specs.Trail.{Trailed, Undone}
use Rattle.engine.specs.Take.{registers, PathHeld, BacktrackAs, resumed}
use Rattle.engine.specs.declared.search.state.State.{State}
use Rattle.engine.proofs.FrameLaws.{saved_same}
use Rattle.engine.proofs.ClaimLaws.{counted}
use Rattle.engine.proofs.StepLaws.{Restored, marked, restore, resume_last, resume_next}
use Rattle.engine.proofs.ConjLaws.{Next, next_goal}

-- no choice point is left
pub back_none : {P : Program} {ws s : List ℕ} {p : Path} {cs : List ChoicePoint} (st : State) (t : Tally) → PathHeld P ws s st p cs → st.choices ≡ 0 → BacktrackAs P ws s st t (backtrack cs t) None
unfolding BacktrackAs
back_none {P} {ws} {s} {p} {cs} st t h e = go cs h.choices_are
  where
    none_left : (ds : List ChoicePoint) → st.choices ≡ length ds → ds ≡ []
    none_left [] q = refl
    none_left (d ∷ ds) q = absurd (omega (arith, q))

    go : (ds : List ChoicePoint) → st.choices ≡ length ds → BacktrackAs P ws s st t (backtrack ds t) None
    go [] q = record { path = p; says = refl; held = subst (λ ds. PathHeld P ws s st p ds) (none_left cs h.choices_are) h }
    go (d ∷ ds) q = absurd (omega (arith, q))

-- The newest choice point, s' being the scratch when the trail is taken back.
pub record Backtracking (P : Program) (ws s s' : List ℕ) (st : State) (cs : List ChoicePoint) : Type 0 where
  pub point : ChoicePoint
  pub others : List ChoicePoint
  pub are : cs ≡ point ∷ others
  pub few : st.choices - 1 < 256
  pub restored : Restored P ws s s' (st.choices - 1) point others

module _ {P : Program} {ws s : List ℕ} (st : State) {p : Path} {cs : List ChoicePoint} (h : PathHeld P ws s st p cs) (n : st.choices ≡ 0 → ⊥) where
  some_point : (Q : List ChoicePoint → Type 0) → ((c : ChoicePoint) (ds : List ChoicePoint) → cs ≡ c ∷ ds → Stored P ws s (registers st) (st.choices - 1 + 1) p (c ∷ ds) → Q (c ∷ ds)) → Q cs
  some_point Q f = go cs refl
    where
      e : st.choices ≡ st.choices - 1 + 1
      e = omega (arith, n)

      go : (ds : List ChoicePoint) → cs ≡ ds → Q ds
      go [] q = absurd (n (h.choices_are ∙ ap length q))
      go (d ∷ ds) q = f d ds q (subst (λ ds. Stored P ws s (registers st) (st.choices - 1 + 1) p ds) q (subst (λ k. Stored P ws s (registers st) k p cs) e h))

  pub back_undoes : (us : List ℕ) × (new : Substitution) × (bs : Substitution) × Trailed us s new bs (at s (point_at (st.choices - 1) + 3)) st.trail
  back_undoes = some_point (λ _. (us : List ℕ) × (new : Substitution) × (bs : Substitution) × Trailed us s new bs (at s (point_at (st.choices - 1) + 3)) st.trail)
      (λ c ds e k. let q = marked (st.choices - 1) k in (ws, q.0, c.path.bindings, q.1))

  pub back_came : {s' : List ℕ} → ((us : List ℕ) (new bs : Substitution) → Trailed us s new bs (at s (point_at (st.choices - 1) + 3)) st.trail → Undone us s s' bs) → Backtracking P ws s s' st cs
  back_came {s'} undone = some_point (λ ds. Backtracking P ws s s' st ds) (λ c ds e k. record {
    point = c;
    others = ds;
    are = refl;
    few = omega (arith, n, h.roomy.choices);
    restored = restore (st.choices - 1) s' k (undone ws (marked (st.choices - 1) k).0 c.path.bindings (marked (st.choices - 1) k).1);
  })

module _ {P : Program} {ws s s' : List ℕ} {st : State} {cs : List ChoicePoint} (k : Backtracking P ws s s' st cs) where
  -- the next alternative's word is there
  pub back_next : Next ws (at s (point_at (st.choices - 1))) (at s (point_at (st.choices - 1) + 1))
  back_next = next_goal ws (at s (point_at (st.choices - 1))) (at s (point_at (st.choices - 1) + 1)) k.point.base k.point.rest k.restored.rest_at

  same_saved : saved s' (st.choices - 1) ≡ saved s (st.choices - 1)
  same_saved = saved_same s s' (st.choices - 1) (λ i lo hi. k.restored.above i (omega arith))

  -- what the choice point has saved is read where it was, also when its first word is moved on
  pub back_room : (scratch_words ≤ length s') × (at s' (point_at (st.choices - 1) + 5) + 1 ≤ 1024)
  back_room = (k.restored.stored.roomy.long, let e : at s' (point_at (st.choices - 1) + 5) ≡ (saved s (st.choices - 1)).goals = k.restored.above _ (omega arith) in omega (arith, k.restored.room))

  moved_saved : (v : ℕ) → saved (set s' (point_at (st.choices - 1)) v) (st.choices - 1) ≡ saved s (st.choices - 1)
  moved_saved v =
      let i : ℕ = point_at (st.choices - 1) in
      let words : (j : ℕ) → i < j → at (set s' i v) j ≡ at s j = λ j lo. get_or-set_other s' i j v 0 (omega arith) ∙ k.restored.above j (omega arith) in
      rw (words (i + 2) (omega arith), words (i + 3) (omega arith), words (i + 4) (omega arith), words (i + 5) (omega arith), words (i + 6) (omega arith), words (i + 7) (omega arith)) refl

  pub moved_room : (v : ℕ) → (scratch_words ≤ length (set s' (point_at (st.choices - 1)) v)) × (at (set s' (point_at (st.choices - 1)) v) (point_at (st.choices - 1) + 5) + 1 ≤ 1024)
  moved_room v =
      let i : ℕ = point_at (st.choices - 1) in
      (simp length-set back_room.0, let e : at (set s' i v) (i + 5) ≡ at s' (i + 5) = get_or-set_other s' i (i + 5) v 0 (omega arith) in omega (arith, back_room.1))

  -- the last alternative
  pub back_last : {b l z here : ℕ} {r : State} (t : Tally) → PartRead ws (at s (point_at (st.choices - 1))) b l z → here ≡ pos_of (at s (point_at (st.choices - 1))) + 1 + z → here ≡ at s (point_at (st.choices - 1) + 1)
      → r ≡ resumed s' st (st.choices - 1) → BacktrackAs P ws s' st t (backtrack cs t) (Some (r, at s (point_at (st.choices - 1))))
  unfolding BacktrackAs
  back_last {r = r} t i is-here e q = subst (λ ds. BacktrackAs P ws s' st t (backtrack ds t) (Some (r, w))) (sym k.are) (subst (λ x. BacktrackAs P ws s' st t (backtrack (k.point ∷ k.others) t) (Some (x, w))) (sym q) (go k.point k.restored))
    where
      w : ℕ
      w = at s (point_at (st.choices - 1))

      go : (c : ChoicePoint) → Restored P ws s s' (st.choices - 1) c k.others → BacktrackAs P ws s' st t (backtrack (c ∷ k.others) t) (Some (resumed s' st (st.choices - 1), w))
      go c j = inside c.rest j
        where
          inside : (gs : Goals) → Restored P ws s s' (st.choices - 1) (record { path = c.path; base = c.base; rest = gs }) k.others
              → BacktrackAs P ws s' st t (backtrack (record { path = c.path; base = c.base; rest = gs } ∷ k.others) t) (Some (resumed s' st (st.choices - 1), w))
          inside (one g) j =
              let o = resume_last (st.choices - 1) j in
              let q' : Path = waiting_on c.path c.path.stack (suc c.path.put) in
              record { task = (c.base, g); path = q'; choices = k.others; says = refl; task_at = o.1; held = subst (λ y. Stored P ws s' (counted y) (st.choices - 1) q' k.others) (sym same_saved) o.2; left_is = refl }
          inside (more g gs) j = absurd (omega (arith, e, is-here, i.is_payload, (resume_next (st.choices - 1) k.few j).0))

  -- another one is left
  pub back_more : {b l z here : ℕ} {r : State} (t : Tally) → (st.choices ≡ 0 → ⊥) → PartRead ws (at s (point_at (st.choices - 1))) b l z → here ≡ pos_of (at s (point_at (st.choices - 1))) + 1 + z → (here ≡ at s (point_at (st.choices - 1) + 1) → ⊥)
      → r ≡ resumed (set s' (point_at (st.choices - 1)) (at s (point_at (st.choices - 1)) + 1 + z)) st st.choices
      → BacktrackAs P ws (set s' (point_at (st.choices - 1)) (at s (point_at (st.choices - 1)) + 1 + z)) st t (backtrack cs t) (Some (r, at s (point_at (st.choices - 1))))
  unfolding BacktrackAs
  back_more {z = z} {r = r} t some_left i is-here e q = subst (λ ds. BacktrackAs P ws s'' st t (backtrack ds t) (Some (r, w))) (sym k.are) (subst (λ x. BacktrackAs P ws s'' st t (backtrack (k.point ∷ k.others) t) (Some (x, w))) (sym q) (go k.point k.restored))
    where
      w : ℕ
      w = at s (point_at (st.choices - 1))

      s'' : List ℕ
      s'' = set s' (point_at (st.choices - 1)) (w + 1 + z)

      count : st.choices - 1 + 1 ≡ st.choices
      count = omega (arith, some_left)

      go : (c : ChoicePoint) → Restored P ws s s' (st.choices - 1) c k.others → BacktrackAs P ws s'' st t (backtrack (c ∷ k.others) t) (Some (resumed s'' st st.choices, w))
      go c j = inside c.rest j
        where
          inside : (gs : Goals) → Restored P ws s s' (st.choices - 1) (record { path = c.path; base = c.base; rest = gs }) k.others
              → BacktrackAs P ws s'' st t (backtrack (record { path = c.path; base = c.base; rest = gs } ∷ k.others) t) (Some (resumed s'' st st.choices, w))
          inside (one g) j = absurd (e (is-here ∙ ap (λ y. pos_of w + 1 + y) i.is_payload ∙ (resume_last (st.choices - 1) j).0))
          inside (more g gs) j =
              let o = resume_next (st.choices - 1) k.few j in
              let ds : List ChoicePoint = record { path = c.path; base = c.base; rest = gs } ∷ k.others in
              let q' : Path = waiting_on c.path c.path.stack (suc c.path.put) in
              let a : Stored P ws s'' (counted (saved s (st.choices - 1))) (st.choices - 1 + 1) q' ds = subst (λ y. Stored P ws (set s' (point_at (st.choices - 1)) (w + 1 + y)) (counted (saved s (st.choices - 1))) (st.choices - 1 + 1) q' ds) (sym i.is_payload) o.2 in
              let b : Stored P ws s'' (counted (saved s (st.choices - 1))) st.choices q' ds = subst (λ y. Stored P ws s'' (counted (saved s (st.choices - 1))) y q' ds) count a in
              record { task = (c.base, g); path = q'; choices = ds; says = refl; task_at = o.1; held = subst (λ y. Stored P ws s'' (counted y) st.choices q' ds) (sym (moved_saved (w + 1 + z))) b; left_is = refl }
