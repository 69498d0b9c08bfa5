-- A conjunction on words: its goals in a row of cells, written in order, each linked to the next and the last to the old head.
use Prim.Native.Nat.{ℕ, suc, ◌+◌, ◌*◌, ◌≤◌, ◌<◌}
use mathlib.Core.Path.{◌≡◌, refl, subst, ◌∙◌}
use mathlib.Core.Logic.{◌≢◌}
use mathlib.Core.List.{List, [], ◌∷◌, ◌++◌}
use native.Mathlib.Omega.{arith}
use lib.ListN.{length, set, length-set, length-append}
use lib.Seq.{get_or-set_same, get_or-set_other}
use Rattle.rules.specs.Syntax.{Goals, one, more, Program, Constraint}
use Rattle.semantics.specs.Path.{Task, Path, ChoicePoint, waiting_on, keeping, goals_count, wait_all}
use Rattle.rules.specs.Reading.{after}
use Rattle.engine.specs.Layout.{references}
use Rattle.engine.specs.Reference.{at, beyond, pos_of, RestAt, KeepsAt}
use Rattle.engine.proofs.GoalLaws.{Then, task_one, task_more}
use Rattle.engine.specs.Memory.{goal_at, next_at, kept_at, Registers, CellIn, StackIn, KeptIn, Stored, cell}
use Rattle.engine.specs.Trail.{Same}
use Rattle.rules.specs.Settings.{most_words, scratch_words}
use Rattle.engine.proofs.FrameLaws.{Untouched, frame, store}
use Rattle.engine.proofs.ClaimLaws.{stays, claim, constrained, tasks_more}

-- the goals stand in the cells from h on
abbrev pub RowIn : List ℕ → List ℕ → ℕ → ℕ → ℕ → Goals → Type 0
RowIn ws s h w head (one g) = (at s (goal_at h) ≡ w) × (at s (next_at h) ≡ head)
RowIn ws s h w head (more g gs) = (at s (goal_at h) ≡ w) × (at s (next_at h) ≡ h + 1) × RowIn ws s (h + 1) (beyond ws w) head gs

pub row_tasks : (ws s : List ℕ) (h w to base head put full : ℕ) (gs : Goals) (ts : List Task) → RestAt ws w to base gs → 0 < h → h + goals_count gs ≤ full + 1 → put ≤ full
    → StackIn ws s put head ts → RowIn ws s h w head gs → StackIn ws s full h (wait_all base gs ts)
row_tasks ws s h w to base head put full (one g) ts is pos le l t row =
    let c : CellIn ws s full h (base, g) = record { is_cell = pos; low = omega arith; task_is = rw row.0 (task_one ws w to base g is).1 } in
    (c, rw row.1 (tasks_more ws s put full head ts l t))
row_tasks ws s h w to base head put full (more g gs) ts is pos le l t row =
    let m : Then ws w to base g gs = task_more ws w to base g gs is in
    let c : CellIn ws s full h (base, g) = record { is_cell = pos; low = omega arith; task_is = rw row.0 m.first } in
    (c, rw row.1 (row_tasks ws s (h + 1) (beyond ws w) to base head put full gs ts m.others (omega arith) (omega arith) l t row.2))

-- s' has the row, and nothing else has changed
pub record Rowed (ws s s' : List ℕ) (put w head : ℕ) (gs : Goals) : Type 0 where
  pub long : length s' ≡ length s
  pub low : Same s s' 0 (6144 + 2 * put)
  pub high : (i : ℕ) → 8192 ≤ i → at s' i ≡ at s i
  pub is_row : RowIn ws s' (put + 1) w head gs

cell_goal : (s : List ℕ) (h w next : ℕ) → next_at h < length s → at (cell s h w next) (goal_at h) ≡ w
cell_goal s h w next lt = get_or-set_other (set s (goal_at h) w) (next_at h) (goal_at h) next 0 (omega arith) ∙ get_or-set_same s (goal_at h) w 0 (omega arith)

cell_next : (s : List ℕ) (h w next : ℕ) → next_at h < length s → at (cell s h w next) (next_at h) ≡ next
cell_next s h w next lt = get_or-set_same (set s (goal_at h) w) (next_at h) next 0 (rw length-set lt)

cell_other : (s : List ℕ) (h w next i : ℕ) → i ≢ goal_at h → i ≢ next_at h → at (cell s h w next) i ≡ at s i
cell_other s h w next i a b = get_or-set_other (set s (goal_at h) w) (next_at h) i next 0 b ∙ get_or-set_other s (goal_at h) i w 0 a

cell_long : (s : List ℕ) (h w next : ℕ) → length (cell s h w next) ≡ length s
cell_long s h w next = simp length-set

-- Under way: the goals from reference w on are left, after those in the cells up to `filled`; whatever the scratch becomes above, the row of those left completes the row of all.
pub record Lining (ws s₀ s : List ℕ) (put head w₀ to base : ℕ) (gs : Goals) (w filled : ℕ) : Type 0 where
  pub rest : Goals
  pub is_rest : RestAt ws w to base rest
  pub count : filled + goals_count rest ≡ put + goals_count gs
  pub more_filled : put ≤ filled
  pub few_filled : filled ≤ 1024
  pub long : length s ≡ length s₀
  pub long_enough : scratch_words ≤ length s₀
  pub low : Same s₀ s 0 (6144 + 2 * put)
  pub high : (i : ℕ) → 8192 ≤ i → at s i ≡ at s₀ i
  pub row : (s' : List ℕ) → Same s s' (6144 + 2 * put) (6144 + 2 * filled) → RowIn ws s' (filled + 1) w head rest → RowIn ws s' (put + 1) w₀ head gs

pub lining_start : (ws s : List ℕ) (put head w to base : ℕ) (gs : Goals) → RestAt ws w to base gs → put ≤ 1024 → scratch_words ≤ length s → Lining ws s s put head w to base gs w put
lining_start ws s put head w to base gs is le long = record {
  rest = gs;
  is_rest = is;
  count = refl;
  more_filled = omega arith;
  few_filled = le;
  long = refl;
  long_enough = long;
  low = λ i lo hi. refl;
  high = λ i lo. refl;
  row = λ s' same r. r;
}

-- what the code sees of the goal that is next
pub record Next (ws : List ℕ) (w to : ℕ) : Type 0 where
  pub inside : pos_of w < length ws
  pub within : after ws (pos_of w) ≤ to
  pub small : to ≤ most_words
  pub below : w < references

pub next_goal : (ws : List ℕ) (w to base : ℕ) (gs : Goals) → RestAt ws w to base gs → Next ws w to
next_goal ws w to base (one g) h = record { inside = omega (arith, h.goals.1, h.inside); within = omega (arith, h.goals.1); small = h.small; below = h.below }
next_goal ws w to base (more g gs) h =
    let m : Then ws w to base g gs = task_more ws w to base g gs h in
    record { inside = omega (arith, m.not_last, h.inside); within = omega (arith, m.not_last); small = h.small; below = h.below }

pub lining_next : (ws s₀ s : List ℕ) (put head w₀ to base : ℕ) (gs : Goals) (w filled : ℕ) → Lining ws s₀ s put head w₀ to base gs w filled → Next ws w to
lining_next ws s₀ s put head w₀ to base gs w filled l = next_goal ws w to base l.rest l.is_rest

-- too many goals: there is one more than fits
pub lining_full : (ws s₀ s : List ℕ) (put head w₀ to base : ℕ) (gs : Goals) (w filled : ℕ) → Lining ws s₀ s put head w₀ to base gs w filled → 1024 ≤ filled → 1024 < put + goals_count gs
lining_full ws s₀ s put head w₀ to base gs w filled l full = go l.rest l.count
  where
    go : (us : Goals) → filled + goals_count us ≡ put + goals_count gs → 1024 < put + goals_count gs
    go (one g) e = omega (arith, e)
    go (more g us) e = omega (arith, e)

-- the last goal: the row is complete
pub lining_last : (ws s₀ s : List ℕ) (put head w₀ to base : ℕ) (gs : Goals) (w filled : ℕ) → Lining ws s₀ s put head w₀ to base gs w filled → filled < 1024 → after ws (pos_of w) ≡ to
    → Rowed ws s₀ (cell s (filled + 1) w head) put w₀ head gs × (filled + 1 ≡ put + goals_count gs)
lining_last ws s₀ s put head w₀ to base gs w filled l lt e = go l.rest l.is_rest l.count l.row
  where
    s' : List ℕ
    s' = cell s (filled + 1) w head

    long : scratch_words ≤ length s
    long = omega (arith, l.long, l.long_enough)

    up : put ≤ filled
    up = l.more_filled

    go : (us : Goals) → RestAt ws w to base us → filled + goals_count us ≡ put + goals_count gs
        → ((t : List ℕ) → Same s t (6144 + 2 * put) (6144 + 2 * filled) → RowIn ws t (filled + 1) w head us → RowIn ws t (put + 1) w₀ head gs)
        → Rowed ws s₀ s' put w₀ head gs × (filled + 1 ≡ put + goals_count gs)
    go (one g) is c row = (
      record {
        long = cell_long s (filled + 1) w head ∙ l.long;
        low = λ i lo hi. cell_other s (filled + 1) w head i (omega arith) (omega arith) ∙ l.low i lo hi;
        high = λ i lo. cell_other s (filled + 1) w head i (omega arith) (omega arith) ∙ l.high i lo;
        is_row = row s' (λ i lo hi. cell_other s (filled + 1) w head i (omega arith) (omega arith)) (cell_goal s (filled + 1) w head (omega arith), cell_next s (filled + 1) w head (omega arith));
      },
      c,
    )
    go (more g us) is c row = absurd (omega (arith, e, (task_more ws w to base g us is).not_last))

-- another one follows
pub lining_more : (ws s₀ s : List ℕ) (put head w₀ to base : ℕ) (gs : Goals) (w filled : ℕ) → Lining ws s₀ s put head w₀ to base gs w filled → filled < 1024 → (after ws (pos_of w) ≡ to → ⊥)
    → Lining ws s₀ (cell s (filled + 1) w (filled + 2)) put head w₀ to base gs (beyond ws w) (filled + 1)
lining_more ws s₀ s put head w₀ to base gs w filled l lt n = go l.rest l.is_rest l.count l.row
  where
    s' : List ℕ
    s' = cell s (filled + 1) w (filled + 2)

    long : scratch_words ≤ length s
    long = omega (arith, l.long, l.long_enough)

    up : put ≤ filled
    up = l.more_filled

    go : (us : Goals) → RestAt ws w to base us → filled + goals_count us ≡ put + goals_count gs
        → ((t : List ℕ) → Same s t (6144 + 2 * put) (6144 + 2 * filled) → RowIn ws t (filled + 1) w head us → RowIn ws t (put + 1) w₀ head gs)
        → Lining ws s₀ s' put head w₀ to base gs (beyond ws w) (filled + 1)
    go (one g) is c row = absurd (n (task_one ws w to base g is).0)
    go (more g us) is c row = record {
      rest = us;
      is_rest = (task_more ws w to base g us is).others;
      count = omega (arith, c);
      more_filled = omega arith;
      few_filled = omega arith;
      long = cell_long s (filled + 1) w (filled + 2) ∙ l.long;
      long_enough = l.long_enough;
      low = λ i lo hi. cell_other s (filled + 1) w (filled + 2) i (omega arith) (omega arith) ∙ l.low i lo hi;
      high = λ i lo. cell_other s (filled + 1) w (filled + 2) i (omega arith) (omega arith) ∙ l.high i lo;
      row = λ t same r.
          let two : filled + 2 ≡ filled + 1 + 1 = omega arith in
          row t (λ i lo hi. same i lo (omega arith) ∙ cell_other s (filled + 1) w (filled + 2) i (omega arith) (omega arith)) (
            same (goal_at (filled + 1)) (omega arith) (omega arith) ∙ cell_goal s (filled + 1) w (filled + 2) (omega arith),
            same (next_at (filled + 1)) (omega arith) (omega arith) ∙ cell_next s (filled + 1) w (filled + 2) (omega arith) ∙ two,
            r,
          );
    }

-- k goals more wait, in cells
abbrev pub lined_up : Registers → ℕ → Registers
lined_up r k = record { head = r.goals + 1; trail = r.trail; variables = r.variables; goals = r.goals + k; constraints = r.constraints; calls = r.calls }

module _ {P : Program} {ws s : List ℕ} {r : Registers} {n : ℕ} {p : Path} {cs : List ChoicePoint} where
  -- A conjunction is taken.
  pub conj_all : (base : ℕ) (gs : Goals) (w to : ℕ) (s' : List ℕ) → r.goals + goals_count gs ≤ 1024 → RestAt ws w to base gs → Rowed ws s s' r.goals w r.head gs → Stored P ws s r n p cs
      → Stored P ws s' (lined_up r (goals_count gs)) n (waiting_on p (wait_all base gs p.stack) (p.put + goals_count gs)) cs
  conj_all base gs w to s' le is d h =
      let m = h.path_in in
      let long : scratch_words ≤ length s = h.roomy.long in
      let few : n ≤ 256 = h.roomy.choices in
      let trail : r.trail ≤ 2048 = h.roomy.trail in
      let u : Untouched s s' r n = record {
        long = rw d.long (omega arith);
        bindings = λ i lo hi. d.low i (omega arith) (omega arith);
        trail = λ i lo hi. d.low i (omega arith) (omega arith);
        cells = λ i lo hi. d.low i (omega arith) (omega arith);
        names = λ i lo hi. d.low i (omega arith) (omega arith);
        points = λ i lo hi. d.high i (omega arith);
        kept = λ i lo hi. d.high i (omega arith);
        table = λ i lo hi. d.high i (omega arith);
      } in
      let j : Stored P ws s' r n p cs = frame u h in
      claim (lined_up r (goals_count gs)) (waiting_on p (wait_all base gs p.stack) (p.put + goals_count gs)) (stays p _ refl refl (omega arith) (omega arith))
      (record { long = j.roomy.long; trail = j.roomy.trail; made = j.roomy.made; put = le; choices = j.roomy.choices; kept = j.roomy.kept })
      j.bindings_in j.kept_in
      (record {
        tasks = row_tasks ws s' (r.goals + 1) w to base r.head r.goals (r.goals + goals_count gs) gs p.stack is (omega arith) (omega arith) (omega arith) j.path_in.tasks d.is_row;
        trail = m.trail;
        made = m.made;
        put = omega (arith, m.put);
        kept = m.kept;
        calls = m.calls;
      }) j

-- A constraint is kept: one store.
pub kept_snoc : (ws s : List ℕ) (n : ℕ) (cs : List Constraint) (c : Constraint) → KeptIn ws s n cs → KeepsAt ws (at s (kept_at (n + length cs))) c → KeptIn ws s n (cs ++ (c ∷ []))
kept_snoc ws s n [] c k e = let q : n + 0 ≡ n = omega arith in (rw q at e, tt)
kept_snoc ws s n (d ∷ cs) c k e = let q : n + suc (length cs) ≡ suc n + length cs = omega arith in (k.0, kept_snoc ws s (suc n) cs c k.1 (rw q at e))

module _ {P : Program} {ws s : List ℕ} {r : Registers} {n : ℕ} {p : Path} {cs : List ChoicePoint} where
  pub keep : (c : Constraint) (w : ℕ) → r.constraints < 512 → KeepsAt ws w c → Stored P ws s r n p cs → Stored P ws (set s (kept_at r.constraints) w) (constrained r) n (keeping p c) cs
  keep c w lt is h =
      let m = h.path_in in
      let long : scratch_words ≤ length s = h.roomy.long in
      let few : n ≤ 256 = h.roomy.choices in
      let put : r.goals ≤ 1024 = h.roomy.put in
      let trail : r.trail ≤ 2048 = h.roomy.trail in
      let s' : List ℕ = set s (kept_at r.constraints) w in
      let j : Stored P ws s' r n p cs = store (kept_at r.constraints) w (omega arith) h in
      let here : at s' (kept_at r.constraints) ≡ w = get_or-set_same s (kept_at r.constraints) w 0 (omega arith) in
      let e : r.constraints ≡ 0 + length p.kept = omega (arith, m.kept) in
      claim (constrained r) (keeping p c) (record { new = []; bindings = refl; later = c ∷ []; kept = refl; made = omega arith; put = omega arith })
      (record { long = j.roomy.long; trail = j.roomy.trail; made = j.roomy.made; put = j.roomy.put; choices = j.roomy.choices; kept = omega arith })
      j.bindings_in (kept_snoc ws s' 0 p.kept c j.kept_in (subst (λ i. KeepsAt ws (at s' (kept_at i)) c) e (rw here is)))
      (record { tasks = j.path_in.tasks; trail = m.trail; made = m.made; put = m.put; kept = omega (arith, m.kept, length-append p.kept (c ∷ [])); calls = m.calls }) j
