-- `hash`: the words that are left, hashed from where it is, come to the hash of all.
use Prim.Native.Nat.{◌<◌}
use mathlib.Core.Path.{◌≡◌}
use lib.ListN.{drop}
use Rattle.engine.specs.Index.{hash_from}
use Rattle.engine.proofs.repeats.hash.hash.Given as goal

abbrev pub invariant-loop-word : goal.invariant-loop-word
invariant-loop-word l = (l.hash < 8589934592) × (hash_from l.hash (drop l.word-index l.words) ≡ hash_from 0 l.words)
