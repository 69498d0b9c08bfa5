-- The start of a round.
use Prim.Native.Nat.{ℕ, ◌≤◌, ◌<◌}
use mathlib.Core.Path.{◌≡◌, refl, sym, subst}
use mathlib.Core.List.{List, [], ◌++◌, append-nil}
use native.Mathlib.Omega.{arith}
use lib.ListN.{length}
use Rattle.rules.specs.Syntax.{Relation, Program}
use Rattle.rules.specs.Settings.{scratch_words}
use Rattle.semantics.specs.Path.{Path, ChoicePoint}
use Rattle.semantics.specs.Round.{start, Tally}
use Rattle.engine.specs.Reference.{at}
use Rattle.engine.specs.Memory.{Registers, TableIn, BindingsIn, Nameless, Stored}
use Rattle.engine.specs.Trail.{Trailed}

abbrev pub first_registers : ℕ → Registers
first_registers vars = record { head = 0; trail = 0; variables = vars; goals = 1; constraints = 0; calls = 0 }

-- Substitution all 0 and the table written, whatever else the scratch holds.
pub start_stored : (P : Program) (ws s : List ℕ) (R : Relation) (t : Tally) → scratch_words ≤ length s → TableIn ws s P → ((x : ℕ) → x < 2048 → at s x ≡ 0) → Nameless s → R.vars ≤ 2048
    → Stored P ws s (first_registers R.vars) 0 (start R t).path []
start_stored P ws s R t long table zeros nameless few = record {
  roomy = record { long = long; trail = omega arith; made = few; put = omega arith; choices = omega arith; kept = omega arith };
  table = table;
  bindings_in = record { words = zeros; trail = tt; fresh = tt };
  kept_in = tt;
  path_in = record { tasks = refl; trail = refl; made = refl; put = refl; kept = refl; calls = refl };
  choices_in = tt;
  choices_are = refl;
  nameless = nameless;
}

-- After a round the whole trail is taken back.
pub marked_whole : {P : Program} {ws s : List ℕ} {r : Registers} {n : ℕ} {p : Path} {cs : List ChoicePoint} → Stored P ws s r n p cs → Trailed ws s p.bindings [] 0 r.trail
marked_whole {ws = ws} {s = s} {r = r} {p = p} h =
    let e : p.bindings ≡ p.bindings ++ [] = sym (append-nil p.bindings) in
    record { long = h.roomy.long; bindings_in = subst (BindingsIn ws s) e h.bindings_in; mark_is = refl; trail_is = subst (λ bs. r.trail ≡ length bs) e h.path_in.trail }
