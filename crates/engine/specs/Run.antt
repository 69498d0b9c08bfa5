-- What the private functions of a run promise one another.
use Rattle.std.specs.Prelude.{ℕ, ◌-◌, ◌≤◌, ◌≡◌, List, ◌++◌, length, take, drop}
use Rattle.rules.specs.Syntax.{Program}
use Rattle.rules.specs.Accept.{read, accepted}
use Rattle.rules.specs.Settings.{scratch_words}
use Rattle.semantics.specs.Run.{zeroed}

-- the words from one place up to another are 0, and all others stay
abbrev pub cleared : List ℕ → ℕ → ℕ → List ℕ
cleared ws from to = take from ws ++ zeroed (to - from) (drop from ws)

-- an accepted program, with settings in their bounds, and just the scratch that a run uses
pub record Admitted (words : List ℕ) (round_limit : ℕ) (scratch : List ℕ) : Type 0 where
  pub program : Program
  pub is_read : read words ≡ accepted program
  pub few_rounds : round_limit ≤ 255
  pub length_is : length scratch ≡ scratch_words
