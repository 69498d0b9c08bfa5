-- What the loops over a query's parameters promise.
use Rattle.std.specs.Prelude.{ℕ, ◌<◌, ◌≡◌, true, List, map}
use Rattle.rules.specs.Syntax.{var}
use Rattle.rules.specs.Written.{terms_words}
use Rattle.semantics.specs.Substitution.{Substitution, resolve}
use Rattle.semantics.specs.Answer.{vars_in, reify, query_terms}
use Rattle.engine.specs.Walk.{Binds}
use Rattle.engine.specs.Names.{NamesGiven}

-- the open variables of the query terms have names
abbrev pub Known : Substitution → List ℕ → ℕ → Type 0
Known bs names n = (x : ℕ) → x < n → vars_in names (resolve bs (var x)) ≡ true

-- the words of the query terms
abbrev pub query_words : Substitution → List ℕ → ℕ → ℕ → List ℕ
query_words bs names i n = terms_words (map (reify names) (query_terms bs i n))

-- query terms that are to be put
pub record Query (ws s : List ℕ) (n : ℕ) (bs : Substitution) (names : List ℕ) : Type 0 where
  pub binds : Binds ws s bs
  pub given : NamesGiven s names
  pub known : Known bs names n
