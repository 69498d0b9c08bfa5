-- `same` compares the words that stand there.
use Prim.Native.Nat.{ℕ, ◌+◌, ◌<◌}
use mathlib.Core.Path.{◌≡◌}
use Rattle.engine.specs.Reference.{at}
use Rattle.engine.proofs.repeats.same.same.Given as goal

abbrev pub invariant-loop-i : goal.invariant-loop-i
invariant-loop-i l = (k : ℕ) → k < l.i → at l.words (l.place + k) ≡ at l.answer k
