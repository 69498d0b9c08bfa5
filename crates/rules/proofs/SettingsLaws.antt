-- Settings are good if and only if each is in its bounds.
use Prim.Native.Nat.{ℕ, ◌≤◌}
use mathlib.Core.Path.{◌≡◌}
use mathlib.Core.Bool.{true}
use lib.Dec.{leb}
use borrow.Author.Tests.{le-leb, leb-true}
use Rattle.rules.specs.Settings.{scratch_words, settings_good}
use Rattle.rules.proofs.Combine.{and_true}

pub settings_within : (rounds scratch : ℕ) → settings_good rounds scratch ≡ true → (rounds ≤ 255) × (scratch_words ≤ scratch)
settings_within rounds scratch e = let (a, b) = and_true (leb rounds 255) (leb scratch_words scratch) e in (leb-true rounds 255 a, leb-true scratch_words scratch b)

pub within_good : (rounds scratch : ℕ) → rounds ≤ 255 → scratch_words ≤ scratch → settings_good rounds scratch ≡ true
within_good rounds scratch h k = rw (le-leb rounds 255 h, le-leb scratch_words scratch k)
