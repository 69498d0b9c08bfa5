-- What the occurs check promises.
use Rattle.std.specs.Prelude.{ℕ, ◌+◌, ◌/◌, ◌%◌, ◌^◌, ◌<◌, ◌≡◌, Bool, true, false, List, [], eqb, set, Result, Option, Some}
use Rattle.std.proofs.Math.Option.{Option as MathOption}
use Rattle.rules.specs.Syntax.{Term}
use Rattle.semantics.specs.Substitution.{Substitution}
use Rattle.semantics.specs.Unify.{member, occurs_check}
use Rattle.engine.specs.Layout.{most_variables}
use Rattle.engine.specs.Reference.{at}
use Rattle.engine.specs.Walk.{through_of}
use Rattle.engine.specs.Steps.{outcome}
use Rattle.engine.specs.declared.steps.Stopped.{Stopped}

-- Marks: variable x has bit x modulo 32 of word x / 32.

abbrev pub mark_words : ℕ
mark_words = 64

abbrev pub marked : List ℕ → ℕ → Bool
marked ms x = eqb (at ms (x / 32) / 2 ^ (x % 32) % 2) 1

abbrev pub with_mark : List ℕ → ℕ → List ℕ
with_mark ms x = set ms (x / 32) (at ms (x / 32) + 2 ^ (x % 32))

-- the variables marked are those entered
pub record Marks (ms es : List ℕ) : Type 0 where
  pub says : (x : ℕ) → x < most_variables → marked ms x ≡ member x es

-- `enters_now`: a variable is marked that was not
abbrev pub MarkedNow : List ℕ → List ℕ → ℕ → Bool → Type 0
MarkedNow ms ms' x true = (marked ms x ≡ false) × (ms' ≡ with_mark ms x)
MarkedNow ms ms' x false = (marked ms x ≡ true) × (ms' ≡ ms)

-- the way of a term to a pair, by what `walk` tells of it
pub record Led (through : Option ℕ) (z : MathOption ℕ) : Type 0 where
  pub is : through ≡ through_of z
  pub low : (x : ℕ) → through ≡ Some x → x < most_variables

-- `occurs`: begun with nothing entered, and with no node that waits
abbrev pub OccursAs : ℕ → Substitution → Term → ℕ → Result (Bool × ℕ) Stopped → Type 0
OccursAs x bs t steps r = occurs_check x bs [] [] t steps ≡ outcome r
