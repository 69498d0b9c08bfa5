-- How a program's words, the lent scratch and a few registers hold a path and its choice points: the memory layout, and the relation that every private function keeps.
use Rattle.std.specs.Prelude.{ℕ, suc, ◌+◌, ◌*◌, ◌-◌, ◌≤◌, ◌<◌, ◌≡◌, List, [], ◌∷◌, ◌++◌, length, set}
use Rattle.std.proofs.Math.Option.{Option, none, some}
use Rattle.std.proofs.Math.ListN.{get_elem?}
use Rattle.std.proofs.lemmas.List.Edits.{sets}
use Rattle.rules.specs.Syntax.{Term, Constraint, Relation, Program}
use Rattle.rules.specs.Settings.{most_relations, scratch_words}
use Rattle.semantics.specs.Substitution.{Substitution, lookup}
use Rattle.semantics.specs.Path.{Task, Path, ChoicePoint}
use Rattle.engine.specs.Layout.{most_variables, most_goals, most_disjunctions, most_constraints, trail_area, names_area, cells_area, points_area, constraints_area, relations_area}
use Rattle.engine.specs.Reference.{at, Stands, TaskAt, RestAt, KeepsAt, RelationAt}

-- Places in the scratch.
abbrev pub trail_at : ℕ → ℕ
trail_at n = trail_area + n

-- cells are numbered from 1 on, and 0 is no cell
abbrev pub goal_at : ℕ → ℕ
goal_at h = 6142 + 2 * h

abbrev pub next_at : ℕ → ℕ
next_at h = 6143 + 2 * h

abbrev pub point_at : ℕ → ℕ
point_at n = points_area + 8 * n

abbrev pub kept_at : ℕ → ℕ
kept_at n = constraints_area + n

abbrev pub table_at : ℕ → ℕ
table_at r = relations_area + r

-- What a choice point saves, and no more: the same six words, of the path that is under way, are the registers.
pub record Registers : Type 0 where
  pub head : ℕ
  pub trail : ℕ
  pub variables : ℕ
  pub goals : ℕ
  pub constraints : ℕ
  pub calls : ℕ

abbrev pub saved : List ℕ → ℕ → Registers
saved s n = record { head = at s (point_at n + 2); trail = at s (point_at n + 3); variables = at s (point_at n + 4); goals = at s (point_at n + 5); constraints = at s (point_at n + 6); calls = at s (point_at n + 7) }

-- Bindings. The word of a variable says what it is bound to; every word below the trail's is right, of variables not made too.
pub record BoundTo (ws : List ℕ) (w : ℕ) (t : Term) : Type 0 where
  pub some_word : 0 < w
  pub stands : Stands ws (w - 1) t

abbrev pub Entry : List ℕ → ℕ → Option Term → Type 0
Entry ws w none = w ≡ 0
Entry ws w (some t) = BoundTo ws w t

-- the trail names the variables in order
abbrev pub TrailIn : List ℕ → Substitution → Type 0
TrailIn s [] = Unit {0}
TrailIn s (b ∷ bs) = (at s (trail_at (length bs)) ≡ b.0) × TrailIn s bs

-- each variable was open when it was bound
abbrev pub Fresh : Substitution → Type 0
Fresh [] = Unit {0}
Fresh (b ∷ bs) = (b.0 < most_variables) × (lookup bs b.0 ≡ none) × Fresh bs

pub record BindingsIn (ws s : List ℕ) (bs : Substitution) : Type 0 where
  pub words : (x : ℕ) → x < most_variables → Entry ws (at s x) (lookup bs x)
  pub trail : TrailIn s bs
  pub fresh : Fresh bs

-- Waiting goals: linked cells, as many as goals were put to wait.
pub record CellIn (ws s : List ℕ) (put h : ℕ) (task : Task) : Type 0 where
  pub is_cell : 0 < h
  pub low : h ≤ put
  pub task_is : TaskAt ws (at s (goal_at h)) task

abbrev pub StackIn : List ℕ → List ℕ → ℕ → ℕ → List Task → Type 0
StackIn ws s put h [] = h ≡ 0
StackIn ws s put h (t ∷ ts) = CellIn ws s put h t × StackIn ws s put (at s (next_at h)) ts

-- Constraints, from the n-th on.
abbrev pub KeptIn : List ℕ → List ℕ → ℕ → List Constraint → Type 0
KeptIn ws s n [] = Unit {0}
KeptIn ws s n (c ∷ cs) = KeepsAt ws (at s (kept_at n)) c × KeptIn ws s (suc n) cs

-- What the registers say of a path, also those that a choice point saved.
pub record PathIn (ws s : List ℕ) (r : Registers) (p : Path) : Type 0 where
  pub tasks : StackIn ws s r.goals r.head p.stack
  pub trail : r.trail ≡ length p.bindings
  pub made : r.variables ≡ p.made
  pub put : r.goals ≡ p.put
  pub kept : r.constraints ≡ length p.kept
  pub calls : r.calls ≡ p.calls

-- p has come from q since: a claim about paths, not about memory
pub record Grown (q p : Path) : Type 0 where
  pub new : Substitution
  pub bindings : p.bindings ≡ new ++ q.bindings
  pub later : List Constraint
  pub kept : p.kept ≡ q.kept ++ later
  pub made : q.made ≤ p.made
  pub put : q.put ≤ p.put

-- Choice point n of a path p. Substitution and constraints are not read again: the path that was left has some of those that are there now.
pub record ChoiceIn (ws s : List ℕ) (n : ℕ) (p : Path) (c : ChoicePoint) : Type 0 where
  pub grown : Grown c.path p
  pub room : c.path.put < most_goals
  pub path_in : PathIn ws s (saved s n) c.path
  pub rest_at : RestAt ws (at s (point_at n)) (at s (point_at n + 1)) c.base c.rest

abbrev pub ChoicesIn : List ℕ → List ℕ → Path → List ChoicePoint → Type 0
ChoicesIn ws s p [] = Unit {0}
ChoicesIn ws s p (c ∷ cs) = ChoiceIn ws s (length cs) p c × ChoicesIn ws s c.path cs

-- where each relation begins
abbrev pub TableIn : List ℕ → List ℕ → Program → Type 0
TableIn ws s P = (k : ℕ) (R : Relation) → get_elem? P k ≡ some R → (k < most_relations) × RelationAt ws (at s (table_at k)) R

-- between answers no variable has a number of the writer's
abbrev pub Nameless : List ℕ → Type 0
Nameless s = (i : ℕ) → names_area ≤ i → i < cells_area → at s i ≡ 0

-- the areas do not run over
pub record Roomy (s : List ℕ) (r : Registers) (n : ℕ) : Type 0 where
  pub long : scratch_words ≤ length s
  pub trail : r.trail ≤ most_variables
  pub made : r.variables ≤ most_variables
  pub put : r.goals ≤ most_goals
  pub choices : n ≤ most_disjunctions
  pub kept : r.constraints ≤ most_constraints

-- The relation: words, scratch, registers and number of choice points hold the program, the path and the choices.
pub record Stored (P : Program) (ws s : List ℕ) (r : Registers) (n : ℕ) (p : Path) (cs : List ChoicePoint) : Type 0 where
  pub roomy : Roomy s r n
  pub table : TableIn ws s P
  pub bindings_in : BindingsIn ws s p.bindings
  pub kept_in : KeptIn ws s 0 p.kept
  pub path_in : PathIn ws s r p
  pub choices_in : ChoicesIn ws s p cs
  pub choices_are : n ≡ length cs
  pub nameless : Nameless s

-- What the code does to the scratch and the registers.

-- variable x is bound to the reference w; the trail has n entries
abbrev pub bound : List ℕ → ℕ → ℕ → ℕ → List ℕ
bound s x w n = set (set s x (w + 1)) (trail_at n) x

-- a goal is put to wait in cell h
abbrev pub cell : List ℕ → ℕ → ℕ → ℕ → List ℕ
cell s h w next = set (set s (goal_at h) w) (next_at h) next

-- a choice point is written
abbrev pub point : List ℕ → ℕ → ℕ → ℕ → Registers → List ℕ
point s n w to r = sets s (point_at n) (w ∷ to ∷ r.head ∷ r.trail ∷ r.variables ∷ r.goals ∷ r.constraints ∷ r.calls ∷ [])
