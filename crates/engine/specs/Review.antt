-- What the reviews of constraints promise.
use Rattle.std.specs.Prelude.{ℕ, ◌≤◌, ◌≡◌, Bool, List, length, Result}
use Rattle.rules.specs.Syntax.{Term, Sort, symbols, numbers, Constraint}
use Rattle.semantics.specs.Substitution.{Substitution}
use Rattle.semantics.specs.Steps.{Outcome}
use Rattle.engine.specs.Layout.{most_constraints}
use Rattle.engine.specs.Reference.{Stands, KeepsAt}
use Rattle.engine.specs.Memory.{BindingsIn, KeptIn}
use Rattle.engine.specs.Walk.{Binds}
use Rattle.engine.specs.Trail.{Apart}
use Rattle.engine.specs.declared.steps.Stopped.{Stopped}
use Rattle.engine.specs.Steps.{outcome}

-- the kind of the atoms of a sort
abbrev pub atom_kind : Sort → ℕ
atom_kind symbols = 1
atom_kind numbers = 2

-- the kind of the constraint for the other sort
abbrev pub other_kind : Sort → ℕ
other_kind symbols = 8
other_kind numbers = 7

-- the scratch holds a path's bindings and constraints
pub record ConstraintsHeld (ws s : List ℕ) (bs : Substitution) (cs : List Constraint) (trail kept : ℕ) : Type 0 where
  pub held : Binds ws s bs
  pub kept_in : KeptIn ws s 0 cs
  pub kept_is : kept ≡ length cs
  pub few : kept ≤ most_constraints
  pub trail_is : trail ≡ length bs

-- a constraint by its reference, with a path's bindings ..
pub record Constrains (ws s : List ℕ) (bs : Substitution) (w : ℕ) (c : Constraint) : Type 0 where
  pub held : Binds ws s bs
  pub keeps : KeepsAt ws w c

-- .. and with its constraints
pub record Reviews (ws s : List ℕ) (bs : Substitution) (cs : List Constraint) (trail kept w : ℕ) (c : Constraint) : Type 0 where
  pub whole : ConstraintsHeld ws s bs cs trail kept
  pub keeps : KeepsAt ws w c

-- a term that is to be of a sort: the kind of its atoms, and that of the type that it excludes
pub record Typing (ws s : List ℕ) (bs : Substitution) (cs : List Constraint) (trail kept : ℕ) (k : Sort) (w : ℕ) (t : Term) (atom other : ℕ) : Type 0 where
  pub whole : ConstraintsHeld ws s bs cs trail kept
  pub stands : Stands ws w t
  pub is_atom : atom ≡ atom_kind k
  pub is_other : other ≡ other_kind k

-- as the definition says; trials are undone, also where they stop, and what they used is free
pub record ReviewedAs (ws s s' : List ℕ) (bs : Substitution) (o : Outcome Bool) (r : Result (Bool × ℕ) Stopped) : Type 0 where
  pub says : o ≡ outcome r
  pub bindings_in : BindingsIn ws s' bs
  pub apart : Apart s s'
