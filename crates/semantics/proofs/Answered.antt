-- The answer of a path with no goal waiting: its words show just the tuples of the assignments that solve the path, and one at least.
use Prim.Native.Nat.{◌+◌, ◌<◌, ◌≤◌, suc, zero, ℕ}
use mathlib.Core.Bool.{Bool, false, true}
use mathlib.Core.List.{List, [], ◌++◌, ◌∷◌, map}
use mathlib.Core.Logic.{◌↔◌, inl, inr}
use mathlib.Core.Path.{◌∙◌, ◌≡◌, ap, ap₂, refl, subst, sym}
use native.Mathlib.Omega.{arith}
use lib.ListN.{get_or, length, length-append, length-map}
use Rattle.rules.specs.Lists.{Each, Some}
use Rattle.rules.specs.Reading.{Reading, choose, found}
use Rattle.rules.specs.Syntax.{Constraint, Goal, Sort, Term, absento, atom, differ, numbers, pair, symbols, typed, var}
use Rattle.rules.specs.Written.{terms_words}
use Rattle.semantics.specs.Answer.{Line, all_lines, answer, answer_words, index, line_goal, line_in, lines_words, listed, look_through, names_of, parameters, query_terms, reify, reify_line, vars_in}
use Rattle.semantics.specs.Invariant.{Good, Passes, Reaches, Sat, SortPasses, Sound, TermIn}
use Rattle.semantics.specs.Logic.{AllProper, Assignment, Holds, Proper, Tree, firsts, value}
use Rattle.semantics.specs.Path.{Path}
use Rattle.semantics.specs.Review.{clashes}
use Rattle.semantics.specs.Shows.{Shows, payloads, read_answer}
use Rattle.semantics.specs.Steps.{done}
use Rattle.semantics.specs.Substitution.{Substitution, resolve, walk}
use Rattle.semantics.proofs.Basics.{each_map}
use Rattle.semantics.proofs.Fill.{Among, Filled, LineGood, Met, among_left, among_right, among_self, atom_payload, atom_payload_one, differs_in, filled, met_agrees, some_filled, values_agree}
use Rattle.semantics.proofs.LineLaws.{LineIn, Listing, MayMeet, SortMay, all_listing, all_met_open}
use Rattle.semantics.proofs.Listed.{MayFit, all_listed, goal_met, listed_each, listed_fit}
use Rattle.semantics.proofs.Names.{appear_all_few, appear_all_has, inner, inner_outer, line_fits, met_outer, outer, terms_fit, values_outer}
use Rattle.semantics.proofs.Narrow.{Solves}
use Rattle.semantics.proofs.ReadBack.{answer_back, line_goals}
use Rattle.semantics.proofs.ReviewLaws.{clashes_true, sort_true}
use Rattle.semantics.proofs.StepLaws.{done_value, through}
use Rattle.semantics.proofs.SubstitutionLaws.{Seen, complete, in_more, resolve_in, sat_complete, value_resolve, walk_seen}

pub same_read : {A B : Type 0} {o : Reading (A × B)} {a c : A} {b d : B} {m n : ℕ} → o ≡ found (a, b) m → o ≡ found (c, d) n → (a ≡ c) × (b ≡ d)
same_read {A} {B} {a} {c} {b} {d} p q = let e : ◌≡◌ {A = A × B} (a, b) (c, d) = cc in (ap (λ (r : A × B). r.0) e, ap (λ (r : A × B). r.1) e)

line_goals_each : (H : Goal → Type 0) (names : List ℕ) (ls : List Line) → Each H (line_goals names ls) ↔ Each (λ l. H (line_goal (reify_line names l))) ls
line_goals_each H names [] = (λ h. h, λ h. h)
line_goals_each H names (l ∷ ls) = let k = line_goals_each H names ls in (λ h. (h.0, k.0 h.1), λ h. (h.0, k.1 h.1))

parameters_length : (i n : ℕ) → length (parameters i n) ≡ n
parameters_length i zero = refl
parameters_length i (suc n) = ap suc (parameters_length (suc i) n)

parameters_in : (top i n : ℕ) → i + n ≤ top → Each (TermIn top) (parameters i n)
parameters_in top i zero h = tt
parameters_in top i (suc n) h = (omega arith, parameters_in top (suc i) n (omega arith))

-- the query terms' values are the tuple
query_values : (bs : Substitution) (α : Assignment) (n i : ℕ) (ρ : Assignment) → ((j : ℕ) → ρ j ≡ value α (resolve bs (var (i + j)))) → map (value α) (query_terms bs i n) ≡ firsts n ρ
query_values bs α zero i ρ h = refl
query_values bs α (suc n) i ρ h =
    let z : i + 0 ≡ i = omega arith in
    ap₂ ◌∷◌ (ap (λ (x : ℕ). value α (resolve bs (var x))) (sym z) ∙ sym (h 0)) (query_values bs α n (suc i) (λ j. ρ (suc j)) (λ j. h (suc j) ∙ ap (λ (x : ℕ). value α (resolve bs (var x))) (omega arith)))

value_proper : (top : ℕ) (β : Assignment) → AllProper β → (t : Term) → TermIn top t → Proper (value β t)
value_proper top β h (var x) k = h x
value_proper top β h (atom a) k = k
value_proper top β h (pair s t) k = (value_proper top β h s k.0, value_proper top β h t k.1)

-- the sort of each open variable, and the tags

kind_in : Substitution → List Constraint → ℕ → Sort
kind_in bs cs x = choose (clashes bs symbols x cs) (λ _. numbers) (λ _. symbols)

abbrev tags_in : List Constraint → List ℕ
tags_in [] = []
tags_in (differ s t ∷ cs) = tags_in cs
tags_in (typed k t ∷ cs) = tags_in cs
tags_in (absento a t ∷ cs) = atom_payload a ++ tags_in cs

tags_few : (cs : List Constraint) → length (tags_in cs) ≤ length cs
tags_few [] = omega arith
tags_few (differ s t ∷ cs) = let h = tags_few cs in omega arith
tags_few (typed k t ∷ cs) = let h = tags_few cs in omega arith
tags_few (absento a t ∷ cs) = let h = tags_few cs in let e = length-append (atom_payload a) (tags_in cs) in let o = atom_payload_one a in omega arith

module _ (bs : Substitution) (good : Good bs) (kept : List Constraint) where
  may_sort : (k : Sort) (t f : Term) → Seen bs (resolve bs t) f → SortPasses bs kept k (resolve bs t) → ((Q : Constraint → Type 0) → Q (typed k t) → Some Q kept) → SortMay (kind_in bs kept) k f
  unfolding kind_in
  may_sort symbols t (var x) seen p up = go (clashes bs symbols x kept) refl
    where
      go : (b : Bool) → clashes bs symbols x kept ≡ b → choose b (λ _. numbers) (λ _. symbols) ≡ symbols
      go true e = absurd (subst (SortPasses bs kept symbols) seen.1 p ((clashes_true bs good symbols x kept).0 e))
      go false e = refl
  may_sort numbers t (var x) seen p up = rw ((clashes_true bs good symbols x kept).1 (up (Reaches bs symbols x) (refl, seen.1)))
  may_sort k t (atom a) seen p up = sort_true k a (subst (SortPasses bs kept k) seen p)
  may_sort k t (pair u v) seen p up = subst (SortPasses bs kept k) seen p

  -- cs is the later part of the constraints
  may_meet : (cs : List Constraint) → ((Q : Constraint → Type 0) → Some Q cs → Some Q kept) → ((ps : List ℕ) → Among (tags_in cs) ps → Among (tags_in kept) ps) → Each (Passes bs kept) cs → Each (MayMeet bs (kind_in bs kept) (tags_in kept)) cs
  may_meet [] up tags h = tt
  may_meet (differ s t ∷ cs) up tags h = (h.0, may_meet cs (λ Q m. up Q (inr m)) tags h.1)
  may_meet (typed k t ∷ cs) up tags h = (may_sort k t (walk bs t) (walk_seen bs good t) h.0 (λ Q q. up Q (inl q)), may_meet cs (λ Q m. up Q (inr m)) tags h.1)
  may_meet (absento a t ∷ cs) up tags h = (
    (h.0, tags (atom_payload a) (among_left (atom_payload a) (tags_in cs) (atom_payload a) (among_self (atom_payload a)))),
    may_meet cs (λ Q m. up Q (inr m)) (λ ps w. tags ps (among_right (atom_payload a) (tags_in cs) ps w)) h.1,
  )

-- some assignment that solves the path begins with the tuple
pub record BeginsWith (n : ℕ) (bs : Substitution) (kept : List Constraint) (tuple : List Tree) : Type 0 where
  pub assignment : Assignment
  pub solves : Solves bs kept assignment
  pub is_tuple : firsts n assignment ≡ tuple

-- the words show just the tuples of the path, of which there is one at least
pub record ShowsPath (n : ℕ) (bs : Substitution) (kept : List Constraint) (ws : List ℕ) : Type 0 where
  pub just : (tuple : List Tree) → Shows n ws tuple ↔ BeginsWith n bs kept tuple
  pub some_tuple : (tuple : List Tree) × Shows n ws tuple

module _ (bs : Substitution) (kept : List Constraint) (made : ℕ) (sound : Sound bs kept made) (n : ℕ) (query : n ≤ made) (lines : List Line)
    (listing : Listing made bs (kind_in bs kept) (tags_in kept) kept lines) (short : length (answer_words bs n lines) ≤ payloads) where
  abbrev N : List ℕ
  N = names_of bs n

  abbrev T : List Term
  T = query_terms bs 0 n

  abbrev L : List Line
  L = listed N [] lines

  total : length (terms_words (map (reify N) T)) + length (lines_words N L) < payloads
  total = let a = length-append (terms_words (map (reify N) T)) (lines_words N L) in omega arith

  few_names : length N < payloads
  few_names = let a = appear_all_few N [] T in let b = total in omega arith

  terms_in : Each (TermIn made) T
  terms_in = go (parameters 0 n) (parameters_in made 0 n (omega arith))
    where
      go : (ts : List Term) → Each (TermIn made) ts → Each (TermIn made) (map (resolve bs) ts)
      go [] h = tt
      go (t ∷ ts) h = (resolve_in made bs sound.scope t h.0, go ts h.1)

  over : Each (λ t. vars_in N t ≡ true) T
  over = appear_all_has [] T

  may_fit : Each (λ l. line_in N l ≡ true → MayFit N l) lines
  may_fit = go lines listing.ready listing.scope
    where
      go : (ls : List Line) → Each (LineGood (kind_in bs kept) (tags_in kept)) ls → Each (LineIn made) ls → Each (λ l. line_in N l ≡ true → MayFit N l) ls
      go [] g h = tt
      go (l ∷ ls) g h = ((λ e s. line_fits N made few_names (kind_in bs kept) (tags_in kept) l g.0 h.0 e s), go ls g.1 h.1)

  reads : read_answer n (answer_words bs n lines) ≡ found (map (reify N) T, line_goals N L) (length (answer_words bs n lines))
  reads =
      let b = total in
      answer_back N (map (reify N) T) L n (length-map T (reify N) ∙ length-map (parameters 0 n) (resolve bs) ∙ parameters_length 0 n)
      (terms_fit N made few_names T over terms_in (omega arith))
      (listed_fit N L (listed_each (MayFit N) N [] lines may_fit) (omega arith)) (omega arith)

  few_lines : length (tags_in kept) + differs_in lines < 131072
  few_lines = let a = tags_few kept in let b = listing.few in let c = sound.few_kept in omega arith

  -- each tuple shown belongs to an assignment that solves the path
  shown_begins : (tuple : List Tree) → Shows n (answer_words bs n lines) tuple → BeginsWith n bs kept tuple
  shown_begins tuple s = record {
    assignment = complete γ bs;
    solves = record {
      proper = λ x. value_proper (suc (made + x)) γ f.proper (resolve bs (var x)) (resolve_in (suc (made + x)) bs (in_more made (suc (made + x)) (omega arith) bs sound.scope) (var x) (omega arith));
      sat = sat;
      meets = listing.up (complete γ bs) sat (all_met_open γ bs lines listing.opens f.meets);
    };
    is_tuple = sym (query_values bs γ n 0 (complete γ bs) (λ j. ap (complete γ bs) (omega arith))) ∙ values_agree N α γ f.agrees T over ∙ values_outer N β T ∙ ap (map (value β)) (same_read reads s.reads).0 ∙ s.is_tuple;
  }
    where
      β : Assignment
      β = s.assignment

      α : Assignment
      α = outer N β

      hold : Each (λ l. Holds [] β (line_goal (reify_line N l)) 0) L
      hold = (line_goals_each (λ g. Holds [] β g 0) N L).0 (subst (Each (λ g. Holds [] β g 0)) (sym (same_read reads s.reads).1) s.holds)

      met : Each (λ l. line_in N l ≡ true → Met α l) lines
      met = each_map (λ l h e. (met_outer N β l).1 ((goal_met [] β (reify_line N l)).0 (h e))) lines
          (all_listed N (λ g. Holds [] β g 0) [] lines tt may_fit (let b = total in omega arith) hold)

      f : Filled N α lines
      f = filled N α (λ x. s.proper (index x N)) (kind_in bs kept) (tags_in kept) lines listing.ready few_lines met

      γ : Assignment
      γ = f.assignment

      sat : Sat (complete γ bs) bs
      sat = sat_complete γ bs sound.good

  -- and an assignment that meets the lines shows its tuple
  met_shown : (α : Assignment) → AllProper α → Each (Met α) lines → Shows n (answer_words bs n lines) (map (value α) T)
  met_shown α proper m = record {
    terms = map (reify N) T;
    goals = line_goals N L;
    reads = reads;
    assignment = β;
    proper = λ x. proper (get_or N x 0);
    is_tuple = sym (values_outer N β T) ∙ values_agree N α (outer N β) (inner_outer N α) T over;
    holds = (line_goals_each (λ g. Holds [] β g 0) N L).1 (listed_each (λ l. Holds [] β (line_goal (reify_line N l)) 0) N [] lines
        (each_map (λ l h e. (goal_met [] β (reify_line N l)).1 ((met_outer N β l).0 (met_agrees N α (outer N β) (inner_outer N α) l e h))) lines m));
  }
    where
      β : Assignment
      β = inner N α

  begins_shown : (tuple : List Tree) → BeginsWith n bs kept tuple → Shows n (answer_words bs n lines) tuple
  begins_shown tuple b =
      let α = b.assignment in
      subst (Shows n (answer_words bs n lines)) (query_values bs α n 0 α (λ j. shifted α j ∙ sym (value_resolve α bs b.solves.sat (var (0 + j)))) ∙ b.is_tuple)
      (met_shown α b.solves.proper (listing.down α b.solves.sat b.solves.meets))
    where
      shifted : (α : Assignment) (j : ℕ) → α j ≡ α (0 + j)
      shifted α j = ap α (omega arith)

  lines_show : ShowsPath n bs kept (answer_words bs n lines)
  lines_show =
      let f = some_filled (kind_in bs kept) (tags_in kept) lines listing.ready few_lines in
      record { just = λ tuple. (shown_begins tuple, begins_shown tuple); some_tuple = (map (value f.assignment) T, met_shown f.assignment f.proper f.meets) }

pub answer_shows : (p : Path) (n left left' : ℕ) (ws : List ℕ) → Sound p.bindings p.kept p.made → n ≤ p.made → answer p n left ≡ done ws left' → length ws ≤ payloads → ShowsPath n p.bindings p.kept ws
answer_shows p n left left' ws sound query e short =
    let a = through (look_through p.bindings (parameters 0 n) left) _ ws left' e in
    let b = through (all_lines p.bindings p.kept a.left) _ ws left' a.second in
    let q = done_value (answer_words p.bindings n b.value) ws b.left left' b.second in
    let listing = all_listing p.made sound.few_made p.bindings sound.good sound.scope (kind_in p.bindings p.kept) (tags_in p.kept) p.kept sound.kept_in
    (may_meet p.bindings sound.good p.kept p.kept (λ Q m. m) (λ ps m. m) sound.passes) a.left b.left b.value b.first in
    subst (ShowsPath n p.bindings p.kept) q (lines_show p.bindings p.kept p.made sound n query b.value listing (subst (λ (vs : List ℕ). length vs ≤ payloads) (sym q) short))
