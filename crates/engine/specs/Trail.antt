-- What `undo` promises, and how a scratch is left beside bindings and trail.
use Rattle.std.specs.Prelude.{ℕ, ◌≤◌, ◌<◌, ◌≡◌, List, ◌++◌, length}
use Rattle.rules.specs.Settings.{scratch_words}
use Rattle.semantics.specs.Substitution.{Substitution}
use Rattle.engine.specs.Layout.{trail_area, names_area, pairs_area, relations_area}
use Rattle.engine.specs.Reference.{at}
use Rattle.engine.specs.Memory.{BindingsIn}

-- two scratches are the same from lo up to hi
abbrev pub Same : List ℕ → List ℕ → ℕ → ℕ → Type 0
Same s s' lo hi = (i : ℕ) → lo ≤ i → i < hi → at s' i ≡ at s i

-- the trail has grown from `mark` entries, those of bs, to `trail`
pub record Trailed (ws s : List ℕ) (new bs : Substitution) (mark trail : ℕ) : Type 0 where
  pub long : scratch_words ≤ length s
  pub bindings_in : BindingsIn ws s (new ++ bs)
  pub mark_is : mark ≡ length bs
  pub trail_is : trail ≡ length (new ++ bs)

-- all that was bound since is taken back, and nothing but the bindings area is touched
pub record Undone (ws s s' : List ℕ) (bs : Substitution) : Type 0 where
  pub bindings_in : BindingsIn ws s' bs
  pub long : length s' ≡ length s
  pub above : (i : ℕ) → trail_area ≤ i → at s' i ≡ at s i

-- nothing but bindings, trail and waiting pairs is touched
pub record Apart (s s' : List ℕ) : Type 0 where
  pub long : length s' ≡ length s
  pub middle : Same s s' names_area pairs_area
  pub above : (i : ℕ) → relations_area ≤ i → at s' i ≡ at s i
