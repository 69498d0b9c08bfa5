-- What a store leaves as it is.
use Prim.Native.Nat.{ℕ, suc, ◌+◌, ◌*◌, ◌≤◌, ◌<◌}
use mathlib.Core.Path.{◌≡◌, sym, subst, ◌∙◌}
use mathlib.Core.Logic.{◌≢◌}
use mathlib.Core.List.{List, [], ◌∷◌}
use native.Mathlib.Omega.{arith}
use lib.ListN.{length, set, length-set}
use lib.Seq.{get_or-set_other}
use Rattle.rules.specs.Syntax.{Constraint, Program}
use Rattle.semantics.specs.Substitution.{Substitution}
use Rattle.semantics.specs.Path.{Task, Path, ChoicePoint}
use Rattle.engine.specs.Reference.{at}
use Rattle.engine.specs.Memory.{trail_at, goal_at, next_at, point_at, kept_at, table_at, Registers, saved, TrailIn, BindingsIn, CellIn, StackIn, KeptIn, PathIn, ChoiceIn, ChoicesIn, TableIn, Nameless, Stored}
use Rattle.engine.specs.Trail.{Same}

-- one law for each area: its reading is kept where its words are
pub tasks_same : (ws s s' : List ℕ) (put h : ℕ) (ts : List Task) → Same s s' 6144 (6144 + 2 * put) → StackIn ws s put h ts → StackIn ws s' put h ts
tasks_same ws s s' put h [] e t = t
tasks_same ws s s' put h (task ∷ ts) e t =
    let c : CellIn ws s put h task = t.0 in
    let g : at s' (goal_at h) ≡ at s (goal_at h) = e (goal_at h) (omega arith) (omega arith) in
    let n : at s' (next_at h) ≡ at s (next_at h) = e (next_at h) (omega arith) (omega arith) in
    (record { is_cell = c.is_cell; low = c.low; task_is = rw g c.task_is }, rw n (tasks_same ws s s' put (at s (next_at h)) ts e t.1))

pub kept_same : (ws s s' : List ℕ) (n : ℕ) (cs : List Constraint) → Same s s' 10240 (10240 + (n + length cs)) → KeptIn ws s n cs → KeptIn ws s' n cs
kept_same ws s s' n [] e k = tt
kept_same ws s s' n (c ∷ cs) e k =
    let g : at s' (kept_at n) ≡ at s (kept_at n) = e (kept_at n) (omega arith) (omega arith) in
    (rw g k.0, kept_same ws s s' (suc n) cs (λ i lo hi. e i lo (omega arith)) k.1)

pub trail_same : (s s' : List ℕ) (bs : Substitution) → Same s s' 2048 (2048 + length bs) → TrailIn s bs → TrailIn s' bs
trail_same s s' [] e t = tt
trail_same s s' (b ∷ bs) e t = (e (trail_at (length bs)) (omega arith) (omega arith) ∙ t.0, trail_same s s' bs (λ i lo hi. e i lo (omega arith)) t.1)

pub bindings_same : (ws s s' : List ℕ) (bs : Substitution) → Same s s' 0 2048 → Same s s' 2048 (2048 + length bs) → BindingsIn ws s bs → BindingsIn ws s' bs
bindings_same ws s s' bs e f b = record { words = λ x lt. rw (e x (omega arith) lt) (b.words x lt); trail = trail_same s s' bs f b.trail; fresh = b.fresh }

pub path_same : (ws s s' : List ℕ) (r : Registers) (p : Path) → Same s s' 6144 (6144 + 2 * r.goals) → PathIn ws s r p → PathIn ws s' r p
path_same ws s s' r p e h = record { tasks = tasks_same ws s s' r.goals r.head p.stack e h.tasks; trail = h.trail; made = h.made; put = h.put; kept = h.kept; calls = h.calls }

pub saved_same : (s s' : List ℕ) (n : ℕ) → Same s s' (point_at n) (point_at n + 8) → saved s' n ≡ saved s n
saved_same s s' n e = rw (e (point_at n + 2) (omega arith) (omega arith), e (point_at n + 3) (omega arith) (omega arith), e (point_at n + 4) (omega arith) (omega arith), e (point_at n + 5) (omega arith) (omega arith), e (point_at n + 6) (omega arith) (omega arith), e (point_at n + 7) (omega arith) (omega arith))

pub choices_same : (ws s s' : List ℕ) (p : Path) (cs : List ChoicePoint) → Same s s' 6144 (6144 + 2 * p.put) → Same s s' 8192 (8192 + 8 * length cs) → ChoicesIn ws s p cs → ChoicesIn ws s' p cs
choices_same ws s s' p [] e f h = tt
choices_same ws s s' p (c ∷ cs) e f h =
    let n : ℕ = length cs in
    let d : ChoiceIn ws s n p c = h.0 in
    let q : saved s' n ≡ saved s n = saved_same s s' n (λ i lo hi. f i (omega arith) (omega arith)) in
    let w : at s' (point_at n) ≡ at s (point_at n) = f (point_at n) (omega arith) (omega arith) in
    let t : at s' (point_at n + 1) ≡ at s (point_at n + 1) = f (point_at n + 1) (omega arith) (omega arith) in
    let less : c.path.put ≤ p.put = d.grown.put in
    let is_put : at s (point_at n + 5) ≡ c.path.put = d.path_in.put in (
      record {
        grown = d.grown;
        room = d.room;
        path_in = subst (λ r. PathIn ws s' r c.path) (sym q) (path_same ws s s' (saved s n) c.path (λ i lo hi. e i lo (omega arith)) d.path_in);
        rest_at = rw (w, t) d.rest_at;
      },
      choices_same ws s s' c.path cs (λ i lo hi. e i lo (omega arith)) (λ i lo hi. f i lo (omega arith)) h.1,
    )

pub table_same : (P : Program) (ws s s' : List ℕ) → Same s s' 11776 12032 → TableIn ws s P → TableIn ws s' P
table_same P ws s s' e t = λ k R is. let h = t k R is in (h.0, rw (e (table_at k) (omega arith) (omega (arith, h.0))) h.1)

pub names_same : (s s' : List ℕ) → Same s s' 4096 6144 → Nameless s → Nameless s'
names_same s s' e h = λ i lo hi. e i lo hi ∙ h i lo hi

-- The one law for all of it: what is not alive may be stored at will.
pub record Untouched (s s' : List ℕ) (r : Registers) (n : ℕ) : Type 0 where
  pub long : length s ≤ length s'
  pub bindings : Same s s' 0 2048
  pub trail : Same s s' 2048 (2048 + r.trail)
  pub names : Same s s' 4096 6144
  pub cells : Same s s' 6144 (6144 + 2 * r.goals)
  pub points : Same s s' 8192 (8192 + 8 * n)
  pub kept : Same s s' 10240 (10240 + r.constraints)
  pub table : Same s s' 11776 12032

pub frame : {P : Program} {ws s s' : List ℕ} {r : Registers} {n : ℕ} {p : Path} {cs : List ChoicePoint} → Untouched s s' r n → Stored P ws s r n p cs → Stored P ws s' r n p cs
frame {P} {ws} {s} {s'} {r} {n} {p} {cs} u h =
    let m = h.path_in in
    let put_is : r.goals ≡ p.put = m.put in
    let trail_is : r.trail ≡ length p.bindings = m.trail in
    let kept_is : r.constraints ≡ length p.kept = m.kept in
    let choices_are : n ≡ length cs = h.choices_are in
    record {
      roomy = record { long = omega (arith, u.long, h.roomy.long); trail = h.roomy.trail; made = h.roomy.made; put = h.roomy.put; choices = h.roomy.choices; kept = h.roomy.kept };
      table = table_same P ws s s' u.table h.table;
      bindings_in = bindings_same ws s s' p.bindings u.bindings (λ i lo hi. u.trail i lo (omega arith)) h.bindings_in;
      kept_in = kept_same ws s s' 0 p.kept (λ i lo hi. u.kept i lo (omega arith)) h.kept_in;
      path_in = path_same ws s s' r p u.cells m;
      choices_in = choices_same ws s s' p cs (λ i lo hi. u.cells i lo (omega arith)) (λ i lo hi. u.points i lo (omega arith)) h.choices_in;
      choices_are = choices_are;
      nameless = names_same s s' u.names h.nameless;
    }

-- a place that is in no area's living part
pub record Outside (r : Registers) (n j : ℕ) : Type 0 where
  pub bindings : (i : ℕ) → i < 2048 → i ≢ j
  pub trail : (i : ℕ) → 2048 ≤ i → i < 2048 + r.trail → i ≢ j
  pub names : (i : ℕ) → 4096 ≤ i → i < 6144 → i ≢ j
  pub cells : (i : ℕ) → 6144 ≤ i → i < 6144 + 2 * r.goals → i ≢ j
  pub points : (i : ℕ) → 8192 ≤ i → i < 8192 + 8 * n → i ≢ j
  pub kept : (i : ℕ) → 10240 ≤ i → i < 10240 + r.constraints → i ≢ j
  pub table : (i : ℕ) → 11776 ≤ i → i < 12032 → i ≢ j

pub outside_untouched : (s : List ℕ) (r : Registers) (n j v : ℕ) → Outside r n j → Untouched s (set s j v) r n
outside_untouched s r n j v o = record {
  long = rw (length-set s j v) (omega arith);
  bindings = λ i lo hi. get_or-set_other s j i v 0 (o.bindings i hi);
  trail = λ i lo hi. get_or-set_other s j i v 0 (o.trail i lo hi);
  names = λ i lo hi. get_or-set_other s j i v 0 (o.names i lo hi);
  cells = λ i lo hi. get_or-set_other s j i v 0 (o.cells i lo hi);
  points = λ i lo hi. get_or-set_other s j i v 0 (o.points i lo hi);
  kept = λ i lo hi. get_or-set_other s j i v 0 (o.kept i lo hi);
  table = λ i lo hi. get_or-set_other s j i v 0 (o.table i lo hi);
}

pub store : {P : Program} {ws s : List ℕ} {r : Registers} {n : ℕ} {p : Path} {cs : List ChoicePoint} (j v : ℕ) → Outside r n j → Stored P ws s r n p cs → Stored P ws (set s j v) r n p cs
store {s = s} {r = r} {n = n} j v o h = frame (outside_untouched s r n j v o) h
