-- Which lines an answer lists: those over the names, each once. Those that are dropped as repeated say nothing new.
use Prim.Native.Nat.{◌≤◌, ℕ}
use mathlib.Core.Bool.{Bool, false, true}
use mathlib.Core.List.{List, [], ◌∷◌, map}
use mathlib.Core.Logic.{◌↔◌, ⊎_elim}
use mathlib.Core.Path.{◌≡◌, ap, ap₂, refl, subst, sym}
use native.Mathlib.Omega.{arith}
use lib.ListN.{length, length-append}
use borrow.Author.Tests.{not-false}
use Rattle.rules.specs.Lists.{Each}
use Rattle.rules.specs.Reading.{choose}
use Rattle.rules.specs.Syntax.{Atom, Constraint, Goal, Goals, Program, Term, atom, constrain, differ, disj, empty, var}
use Rattle.semantics.specs.Answer.{Line, any_same, differ_goals, is_sort, lacks, line_goal, line_in, line_words, lines_words, listed, not_all, reify_line, same_words, stays}
use Rattle.semantics.specs.Invariant.{Sat}
use Rattle.semantics.specs.Logic.{Any, Assignment, Holds, Meets, Tree, any_first, any_later, any_one, constrain_holds, disj_holds, leaf, node, value}
use Rattle.semantics.specs.Shows.{payloads}
use Rattle.semantics.specs.Substitution.{same_atom}
use Rattle.semantics.proofs.Basics.{and_true, by_choose, clash, one_of}
use Rattle.semantics.proofs.Fill.{Met}
use Rattle.semantics.proofs.Repeats.{same_true}
use Rattle.semantics.proofs.ReadBack.{LineFits, goal_determined}
use Rattle.semantics.proofs.TermLaws.{same_atom_false, same_atom_true}

pub listed_each : (P : Line → Type 0) (names : List ℕ) (before : List (List ℕ)) (ls : List Line) → Each (λ l. line_in names l ≡ true → P l) ls → Each P (listed names before ls)
listed_each P names before [] h = tt
listed_each P names before (l ∷ ls) h =
    by_choose (Each P) (stays names before l) _ _
    (λ e. (h.0 (and_true _ _ e).0, listed_each P names (line_words names l ∷ before) ls h.1))
    (λ e. listed_each P names before ls h.1)

module _ (names : List ℕ) where
  -- a line whose words are of a number that fits has payloads that fit
  abbrev pub MayFit : Line → Type 0
  MayFit l = length (line_words names l) ≤ payloads → LineFits (reify_line names l)

  pub listed_fit : (ls : List Line) → Each MayFit ls → length (lines_words names ls) ≤ payloads → Each (λ l. LineFits (reify_line names l)) ls
  listed_fit [] h s = tt
  listed_fit (l ∷ ls) h s = let a = length-append (line_words names l) (lines_words names ls) in (h.0 (omega arith), listed_fit ls h.1 (omega arith))

  module _ (H : Goal → Type 0) where
    abbrev pub Holding : Line → Type 0
    Holding l = H (line_goal (reify_line names l))

    abbrev Known : Line → Type 0
    Known l = LineFits (reify_line names l) × (length (line_words names l) ≤ payloads) × Holding l

    repeated : (l : Line) (before : List Line) → MayFit l → Each Known before → any_same (line_words names l) (map (line_words names) before) ≡ true → Holding l
    repeated l [] h k e = clash (cc)
    repeated l (m ∷ ms) h k e =
        ⊎_elim (λ r. let q = same_true (line_words names l) (line_words names m) r in subst H (sym (goal_determined (reify_line names l) (reify_line names m) (h (rw q k.0.1)) k.0.0 k.0.1 q)) k.0.2)
        (λ r. repeated l ms h k.1 r)
        (one_of (same_words (line_words names l) (line_words names m)) (any_same (line_words names l) (map (line_words names) ms)) e)

    -- what holds of the lines listed holds of all lines over the names
    pub all_listed : (before ls : List Line) → Each Known before → Each (λ l. line_in names l ≡ true → MayFit l) ls → length (lines_words names (listed names (map (line_words names) before) ls)) ≤ payloads →
        Each Holding (listed names (map (line_words names) before) ls) → Each (λ l. line_in names l ≡ true → Holding l) ls
    all_listed before [] k f s h = tt
    all_listed before (l ∷ ls) k f s h =
        go (stays names (map (line_words names) before) l) refl s h (λ i. all_listed (l ∷ before) ls (i, k) f.1) (all_listed before ls k f.1)
      where
        W : List (List ℕ)
        W = map (line_words names) before

        Rest : Type 0
        Rest = Each (λ l. line_in names l ≡ true → Holding l) ls

        go : (b : Bool) → stays names W l ≡ b →
            length (lines_words names (choose b (λ _. l ∷ listed names (line_words names l ∷ W) ls) (λ _. listed names W ls))) ≤ payloads →
            Each Holding (choose b (λ _. l ∷ listed names (line_words names l ∷ W) ls) (λ _. listed names W ls)) →
            (Known l → length (lines_words names (listed names (line_words names l ∷ W) ls)) ≤ payloads → Each Holding (listed names (line_words names l ∷ W) ls) → Rest) →
            (length (lines_words names (listed names W ls)) ≤ payloads → Each Holding (listed names W ls) → Rest) → (line_in names l ≡ true → Holding l) × Rest
        go true e s h i j =
            let a = length-append (line_words names l) (lines_words names (listed names (line_words names l ∷ W) ls)) in
            let n : length (line_words names l) ≤ payloads = omega arith in
            ((λ q. h.0), i (f.0 (and_true _ _ e).0 n, n, h.0) (omega arith) h.1)
        go false e s h i j = ((λ q. repeated l before (f.0 q) k (not-false _ (rw q at e))), j s h)

-- A line's goal holds just if the line is met.

atom_dec : (a b : Atom) → Dec (a ≡ b)
atom_dec a b = go (same_atom a b) refl
  where
    go : (c : Bool) → same_atom a b ≡ c → Dec (a ≡ b)
    go true e = yes (same_atom_true a b e)
    go false e = no (same_atom_false a b e)

tree_dec : (s t : Tree) → Dec (s ≡ t)
tree_dec (leaf a) (leaf b) = elim (atom_dec a b) [ yes e ↦ yes (ap leaf e) | no n ↦ no (λ e. n (cc)) ]
tree_dec (leaf a) (node u v) = no (λ e. clash (cc))
tree_dec (node s t) (leaf b) = no (λ e. clash (cc))
tree_dec (node s t) (node u v) = go (tree_dec s u) (tree_dec t v)
  where
    go : Dec (s ≡ u) → Dec (t ≡ v) → Dec (node s t ≡ node u v)
    go (yes p) (yes q) = yes (ap₂ node p q)
    go (yes p) (no n) = no (λ e. n (cc))
    go (no n) d = no (λ e. n (cc))

module _ (P : Program) (β : Assignment) where
  meets_of : {c : Constraint} → Holds P β (constrain c) 0 → Meets β c
  meets_of (constrain_holds m) = m

  differ_holds : (s t : Term) → ¬ (value β s ≡ value β t) → Holds P β (constrain (differ s t)) 0
  differ_holds s t n = constrain_holds {c = differ s t} n

  any_not : (b : ℕ × Term) (bs : List (ℕ × Term)) → Any P β (differ_goals b bs) 0 → ¬ Sat β (b ∷ bs)
  any_not b [] (any_one h) q = meets_of h q.0
  any_not b (c ∷ bs) (any_first h) q = meets_of h q.0
  any_not b (c ∷ bs) (any_later h) q = any_not c bs h q.1

  not_any : (b : ℕ × Term) (bs : List (ℕ × Term)) → ¬ Sat β (b ∷ bs) → Any P β (differ_goals b bs) 0
  not_any b [] h = any_one (differ_holds (var b.0) b.1 (λ e. h (e, tt)))
  not_any b (c ∷ bs) h = go (tree_dec (β b.0) (value β b.1)) (not_any c bs)
    where
      go : Dec (β b.0 ≡ value β b.1) → (¬ Sat β (c ∷ bs) → Any P β (differ_goals c bs) 0) → Any P β (differ_goals b (c ∷ bs)) 0
      go (yes e) ih = any_later (ih (λ q. h (e, q)))
      go (no n) ih = any_first (differ_holds (var b.0) b.1 n)

  any_of_disj : {gs : Goals} → Holds P β (disj gs) 0 → Any P β gs 0
  any_of_disj (disj_holds a) = a

  pub goal_met : (l : Line) → Holds P β (line_goal l) 0 ↔ Met β l
  goal_met (is_sort k x) = (λ h. meets_of h, λ h. constrain_holds h)
  goal_met (lacks a x) = (λ h. meets_of h, λ h. constrain_holds h)
  goal_met (not_all []) = (λ h q. meets_of h refl, λ h. differ_holds (atom empty) (atom empty) (λ q. h tt))
  goal_met (not_all (b ∷ [])) = (λ h q. meets_of h q.0, λ h. differ_holds (var b.0) b.1 (λ q. h (q, tt)))
  goal_met (not_all (b ∷ c ∷ bs)) = (λ h. any_not b (c ∷ bs) (any_of_disj h), λ h. disj_holds (not_any b (c ∷ bs) h))
