-- From stored words to a longer path: what may be claimed of words that are there, and the stores that put them there.
use Prim.Native.Nat.{ℕ, suc, ◌+◌, ◌≤◌, ◌<◌}
use mathlib.Core.Path.{◌≡◌, refl, sym, subst, ◌∙◌}
use mathlib.Core.List.{List, [], ◌∷◌, append-nil}
use native.Mathlib.Omega.{arith}
use lib.ListN.{length}
use Rattle.rules.specs.Syntax.{Goal, Goals, Program}
use Rattle.semantics.specs.Path.{Task, Path, ChoicePoint, waiting_on}
use Rattle.engine.specs.Reference.{at, TaskAt, RestAt}
use Rattle.engine.proofs.StoredLaws.{choices_grown}
use Rattle.engine.specs.Memory.{goal_at, next_at, point_at, Registers, saved, BindingsIn, StackIn, KeptIn, PathIn, Grown, ChoiceIn, Roomy, Stored}

-- paths that have grown
pub grown_same : (p : Path) → Grown p p
grown_same p = record { new = []; bindings = refl; later = []; kept = sym (append-nil p.kept); made = omega arith; put = omega arith }

pub stays : (p p' : Path) → p'.bindings ≡ p.bindings → p'.kept ≡ p.kept → p.made ≤ p'.made → p.put ≤ p'.put → Grown p p'
stays p p' b k m q = record { new = []; bindings = b; later = []; kept = k ∙ sym (append-nil p.kept); made = m; put = q }

-- The one law for claims: another path and registers, with nothing stored.
pub claim : {P : Program} {ws s : List ℕ} {r : Registers} {n : ℕ} {p : Path} {cs : List ChoicePoint} (r' : Registers) (p' : Path) → Grown p p' → Roomy s r' n
    → BindingsIn ws s p'.bindings → KeptIn ws s 0 p'.kept → PathIn ws s r' p' → Stored P ws s r n p cs → Stored P ws s r' n p' cs
claim {ws = ws} {s = s} {p = p} {cs = cs} r' p' g room b k m h = record {
  roomy = room;
  table = h.table;
  bindings_in = b;
  kept_in = k;
  path_in = m;
  choices_in = choices_grown ws s p p' cs g h.choices_in;
  choices_are = h.choices_are;
  nameless = h.nameless;
}

-- Registers, changed
abbrev pub with_head : Registers → ℕ → Registers
with_head r h = record { head = h; trail = r.trail; variables = r.variables; goals = r.goals; constraints = r.constraints; calls = r.calls }

-- one more goal put to wait, in a cell or not
abbrev pub counted : Registers → Registers
counted r = record { head = r.head; trail = r.trail; variables = r.variables; goals = r.goals + 1; constraints = r.constraints; calls = r.calls }

abbrev pub waited : Registers → Registers
waited r = record { head = r.goals + 1; trail = r.trail; variables = r.variables; goals = r.goals + 1; constraints = r.constraints; calls = r.calls }

abbrev pub constrained : Registers → Registers
constrained r = record { head = r.head; trail = r.trail; variables = r.variables; goals = r.goals; constraints = r.constraints + 1; calls = r.calls }

-- cells stay good while more are put
pub tasks_more : (ws s : List ℕ) (put put' h : ℕ) (ts : List Task) → put ≤ put' → StackIn ws s put h ts → StackIn ws s put' h ts
tasks_more ws s put put' h [] le t = t
tasks_more ws s put put' h (task ∷ ts) le t = (record { is_cell = t.0.is_cell; low = omega (arith, t.0.low); task_is = t.0.task_is }, tasks_more ws s put put' (at s (next_at h)) ts le t.1)

module _ {P : Program} {ws s : List ℕ} {r : Registers} {n : ℕ} {p : Path} {cs : List ChoicePoint} where
  -- a goal counts as put to wait
  pub count : r.goals < 1024 → Stored P ws s r n p cs → Stored P ws s (counted r) n (waiting_on p p.stack (suc p.put)) cs
  count lt h =
      let m = h.path_in in
      claim (counted r) (waiting_on p p.stack (suc p.put))
      (stays p _ refl refl (omega arith) (omega arith))
      (record { long = h.roomy.long; trail = h.roomy.trail; made = h.roomy.made; put = omega arith; choices = h.roomy.choices; kept = h.roomy.kept })
      h.bindings_in h.kept_in
      (record { tasks = tasks_more ws s r.goals (r.goals + 1) r.head p.stack (omega arith) m.tasks; trail = m.trail; made = m.made; put = omega (arith, m.put); kept = m.kept; calls = m.calls }) h

  -- a goal waits in the next cell, which is written
  pub claim_cell : (base : ℕ) (g : Goal) → r.goals < 1024 → TaskAt ws (at s (goal_at (r.goals + 1))) (base, g) → at s (next_at (r.goals + 1)) ≡ r.head
      → Stored P ws s r n p cs → Stored P ws s (waited r) n (waiting_on p ((base, g) ∷ p.stack) (suc p.put)) cs
  claim_cell base g lt is next h =
      let m = h.path_in in
      claim (waited r) (waiting_on p ((base, g) ∷ p.stack) (suc p.put))
      (stays p _ refl refl (omega arith) (omega arith))
      (record { long = h.roomy.long; trail = h.roomy.trail; made = h.roomy.made; put = omega arith; choices = h.roomy.choices; kept = h.roomy.kept })
      h.bindings_in h.kept_in
      (record {
        tasks = (record { is_cell = omega arith; low = omega arith; task_is = is }, rw next (tasks_more ws s r.goals (r.goals + 1) r.head p.stack (omega arith) m.tasks));
        trail = m.trail;
        made = m.made;
        put = omega (arith, m.put);
        kept = m.kept;
        calls = m.calls;
      }) h

  -- a choice point, which is written
  pub claim_point : (base : ℕ) (rest : Goals) → n < 256 → r.goals < 1024 → saved s n ≡ r → RestAt ws (at s (point_at n)) (at s (point_at n + 1)) base rest
      → Stored P ws s r n p cs → Stored P ws s r (n + 1) p (record { path = p; base = base; rest = rest } ∷ cs)
  claim_point base rest lt room is at_rest h =
      let e : n ≡ length cs = h.choices_are in
      let is_put : r.goals ≡ p.put = h.path_in.put in
      let here : ChoiceIn ws s n p (record { path = p; base = base; rest = rest }) = record { grown = grown_same p; room = omega arith; path_in = subst (λ q. PathIn ws s q p) (sym is) h.path_in; rest_at = at_rest } in
      record {
        roomy = record { long = h.roomy.long; trail = h.roomy.trail; made = h.roomy.made; put = h.roomy.put; choices = omega arith; kept = h.roomy.kept };
        table = h.table;
        bindings_in = h.bindings_in;
        kept_in = h.kept_in;
        path_in = h.path_in;
        choices_in = (subst (λ k. ChoiceIn ws s k p (record { path = p; base = base; rest = rest })) e here, h.choices_in);
        choices_are = omega arith;
        nameless = h.nameless;
      }

module _ {P : Program} {ws s : List ℕ} {r : Registers} {n : ℕ} (p : Path) {cs : List ChoicePoint} where
  -- the first waiting goal is taken
  pub pop : (task : Task) (tasks : List Task) → Stored P ws s r n (waiting_on p (task ∷ tasks) p.put) cs
      → (0 < r.head) × TaskAt ws (at s (goal_at r.head)) task × Stored P ws s (with_head r (at s (next_at r.head))) n (waiting_on p tasks p.put) cs
  pop task tasks h =
      let m = h.path_in in
      let c = m.tasks.0 in (
        c.is_cell,
        c.task_is,
        claim (with_head r (at s (next_at r.head))) (waiting_on p tasks p.put)
            (stays (waiting_on p (task ∷ tasks) p.put) (waiting_on p tasks p.put) refl refl (omega arith) (omega arith))
            (record { long = h.roomy.long; trail = h.roomy.trail; made = h.roomy.made; put = h.roomy.put; choices = h.roomy.choices; kept = h.roomy.kept })
            h.bindings_in h.kept_in
            (record { tasks = m.tasks.1; trail = m.trail; made = m.made; put = m.put; kept = m.kept; calls = m.calls }) h,
      )
