-- The tuples that an answer's words show: document 01, "An answer's constraints are read as such goals over its own variables."
use Rattle.std.specs.Prelude.{◌*◌, ◌+◌, suc, zero, ℕ, ◌&&◌, List, [], ◌∷◌, map, ◌≡◌, eqb, ltb, length}
use Rattle.rules.specs.Lists.{Each}
use Rattle.rules.specs.Reading.{Reading, choose, found, kind_at, next, payload_at, read_goal, read_term, refuse, require}
use Rattle.rules.specs.Syntax.{Goal, Term}
use Rattle.semantics.specs.Logic.{AllProper, Assignment, Holds, Tree, value}

-- Answers are read as programs are, by the reader of crate rules; their variables are bounded by nothing but the 28 bits of a payload
abbrev pub payloads : ℕ
payloads = 268435456

-- how deep the reader goes: always enough
abbrev pub deep : List ℕ → ℕ
deep ws = 2 * length ws + 4

-- n query terms
abbrev pub read_query : ℕ → List ℕ → ℕ → Reading (List Term)
read_query zero ws at = found [] at
read_query (suc n) ws at = next (read_term (deep ws) ws payloads at (length ws)) (λ t m. next (read_query n ws m) (λ ts e. found (t ∷ ts) e))

-- goals, up to the end
abbrev pub read_listed : ℕ → List ℕ → ℕ → Reading (List Goal)
read_listed zero ws at = refuse 3 at
read_listed (suc fuel) ws at =
    choose (ltb at (length ws)) (λ _. next (read_goal (deep ws) ws payloads at (length ws)) (λ g m. next (read_listed fuel ws m) (λ gs e. found (g ∷ gs) e))) (λ _. found [] at)

-- "15:n, then the query terms .. Then the path's constraints"
abbrev pub read_answer : ℕ → List ℕ → Reading (List Term × List Goal)
read_answer n ws =
    require (eqb (kind_at ws 0) 15 && eqb (1 + payload_at ws 0) (length ws)) 2 0 (λ _.
    next (read_query n ws 1) (λ ts m.
    next (read_listed (deep ws) ws m) (λ gs e.
    found (ts, gs) e)))

-- "It shows a tuple if, under some assignment of trees to these, its query terms are the tuple and each of its constraints holds": an answer of n query terms
pub record Shows (n : ℕ) (ws : List ℕ) (tuple : List Tree) : Type 0 where
  pub terms : List Term
  pub goals : List Goal
  pub reads : read_answer n ws ≡ found (terms, goals) (length ws)
  pub assignment : Assignment
  pub proper : AllProper assignment
  pub is_tuple : map (value assignment) terms ≡ tuple
  pub holds : Each (λ g. Holds [] assignment g 0) goals
