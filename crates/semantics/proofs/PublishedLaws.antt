-- Laws of the published search: neither how deep bodies may go nor at how many calls it is cut makes a difference to the branches that succeed with k calls, or to their order.
use Prim.Native.Nat.{◌+◌, ◌-◌, ◌<◌, ◌≤◌, suc, zero, ℕ}
use mathlib.Core.Bool.{Bool, false, true}
use mathlib.Core.List.{List, [], ◌++◌, ◌∷◌, append_assoc}
use mathlib.Core.Option.{Option, none, some}
use mathlib.Core.Path.{◌∙◌, ◌≡◌, ap, ap₂, refl, sym}
use native.Mathlib.Omega.{arith}
use lib.Dec.{eqb, leb, ltb}
use lib.ListN.{get_elem?, length}
use borrow.Author.Tests.{leb-false, lt-leb, lt-ltb, ltb-false, ltb-true, ne_eqb}
use Rattle.rules.specs.Lists.{Each}
use Rattle.rules.specs.Reading.{choose}
use Rattle.rules.specs.Syntax.{Goal, Goals, Program, Relation, Term, call, conj, constrain, disj, equal, more, one}
use Rattle.semantics.specs.Path.{Passing}
use Rattle.semantics.specs.Published.{Branch, Leads, Leaf, all_lead, answers_of, any_leads, branch_words, call_leads, constraint_fails, equal_leads, first_branch, from_each, goal_leads, is_cut, leads, round_answers, round_leaves, some_fails, succeeds, unified}
use Rattle.semantics.specs.Round.{Answer}
use Rattle.semantics.specs.Substitution.{Substitution, shift, shift_constraint}
use Rattle.semantics.proofs.Basics.{by_choose, each_append, each_map}

-- Lists of leaves

pub from_append : (xs ys : List Leaf) (go : Branch → List Leaf) → from_each (xs ++ ys) go ≡ from_each xs go ++ from_each ys go
from_append [] ys go = refl
from_append (succeeds b ∷ xs) ys go = ap (λ (l : List Leaf). go b ++ l) (from_append xs ys go) ∙ sym (append_assoc (go b) (from_each xs go) (from_each ys go))
from_append (is_cut ∷ xs) ys go = ap (λ (l : List Leaf). is_cut ∷ l) (from_append xs ys go)

pub from_from : (xs : List Leaf) (f g : Branch → List Leaf) → from_each (from_each xs f) g ≡ from_each xs (λ b. from_each (f b) g)
from_from [] f g = refl
from_from (succeeds b ∷ xs) f g = from_append (f b) (from_each xs f) g ∙ ap (λ (l : List Leaf). from_each (f b) g ++ l) (from_from xs f g)
from_from (is_cut ∷ xs) f g = ap (λ (l : List Leaf). is_cut ∷ l) (from_from xs f g)

module _ (pass : Passing) (plenty : ℕ) (P : Program) (k : ℕ) where
  -- How deep bodies may go makes no difference, where it is enough for the calls that are left.

  -- a branch has as few calls left
  abbrev Deep : ℕ → Leaf → Type 0
  Deep d (succeeds b) = k ≤ b.calls + d
  Deep d is_cut = Unit {0}

  deep_more : (d : ℕ) (l : Leaf) → Deep d l → Deep (suc d) l
  deep_more d (succeeds b) h = omega arith
  deep_more d is_cut h = tt

  -- the two lists are the same, and have no more calls left
  pub record Alike (d : ℕ) (xs ys : List Leaf) : Type 0 where
    pub are_same : xs ≡ ys
    pub are_deep : Each (Deep d) xs

  from_alike : (d : ℕ) (f g : Branch → List Leaf) → ((b : Branch) → k ≤ b.calls + d → Alike d (f b) (g b)) → (xs : List Leaf) → Each (Deep d) xs → Alike d (from_each xs f) (from_each xs g)
  from_alike d f g h [] i = record { are_same = refl; are_deep = tt }
  from_alike d f g h (succeeds b ∷ xs) (i, is) =
      let x = h b i in let y = from_alike d f g h xs is in
      record { are_same = ap₂ ◌++◌ x.are_same y.are_same; are_deep = (each_append (Deep d) (f b) (from_each xs f)).1 (x.are_deep, y.are_deep) }
  from_alike d f g h (is_cut ∷ xs) (i, is) = let y = from_alike d f g h xs is in record { are_same = ap (λ (l : List Leaf). is_cut ∷ l) y.are_same; are_deep = (tt, y.are_deep) }

  abbrev Stable : ℕ → Type 0
  Stable d = (base : ℕ) (g : Goal) (b : Branch) → k ≤ b.calls + d → Alike d (goal_leads pass plenty P k (leads pass plenty P k d) base g b) (goal_leads pass plenty P k (leads pass plenty P k (suc d)) base g b)

  equal_deep : (d : ℕ) (b : Branch) → k ≤ b.calls + d → (r : Option Substitution) → Each (Deep d) (equal_leads plenty b r)
  equal_deep d b h none = tt
  equal_deep d b h (some bs) = by_choose (Each (Deep d)) (eqb (length bs) (length b.bindings)) _ _ (λ q. (h, tt)) (λ q. by_choose (Each (Deep d)) (some_fails plenty bs b.kept b.kept) _ _ (λ q. tt) (λ q. (h, tt)))

  -- calls within calls: one level of bodies, given those below it
  module _ (d : ℕ) (below : (base : ℕ) (g : Goal) (b : Branch) → k < b.calls + d → b.calls ≤ k → Alike d (leads pass plenty P k d base g b) (leads pass plenty P k (suc d) base g b)) where
    call_stable : (base : ℕ) (ts : List Term) (b : Branch) → k ≤ b.calls + d → b.calls < k → (o : Option Relation) →
        Alike d (call_leads pass plenty P k (leads pass plenty P k d) base ts o b) (call_leads pass plenty P k (leads pass plenty P k (suc d)) base ts o b)
    call_stable base ts b h l none = record { are_same = refl; are_deep = tt }
    call_stable base ts b h l (some R) = below b.made R.body _ (omega arith) (omega arith)

    mutual
      goal_stable : (g : Goal) (base : ℕ) (b : Branch) → k ≤ b.calls + d → Alike d (goal_leads pass plenty P k (leads pass plenty P k d) base g b) (goal_leads pass plenty P k (leads pass plenty P k (suc d)) base g b)
      goal_stable (equal s t) base b h = record { are_same = refl; are_deep = equal_deep d b h (unified plenty b.bindings (shift base s) (shift base t)) }
      goal_stable (constrain c) base b h = record { are_same = refl; are_deep = by_choose (Each (Deep d)) (constraint_fails plenty b.bindings (b.kept ++ (shift_constraint base c ∷ [])) (shift_constraint base c)) _ _ (λ q. tt) (λ q. (h, tt)) }
      goal_stable (conj gs) base b h = all_stable gs base b h
      goal_stable (disj gs) base b h = any_stable gs base b h
      goal_stable (call r ts) base b h = go (ltb b.calls k) refl
        where
          go : (c : Bool) → ltb b.calls k ≡ c → Alike d (choose c (λ _. call_leads pass plenty P k (leads pass plenty P k d) base ts (get_elem? P r) b) (λ _. is_cut ∷ [])) (choose c (λ _. call_leads pass plenty P k (leads pass plenty P k (suc d)) base ts (get_elem? P r) b) (λ _. is_cut ∷ []))
          go true q = call_stable base ts b h (ltb-true b.calls k q) (get_elem? P r)
          go false q = record { are_same = refl; are_deep = (tt, tt) }

      all_stable : (gs : Goals) (base : ℕ) (b : Branch) → k ≤ b.calls + d → Alike d (all_lead pass plenty P k (leads pass plenty P k d) base gs b) (all_lead pass plenty P k (leads pass plenty P k (suc d)) base gs b)
      all_stable (one g) base b h = goal_stable g base b h
      all_stable (more g gs) base b h =
          let x = goal_stable g base b h in
          let y = from_alike d (λ b'. all_lead pass plenty P k (leads pass plenty P k d) base gs b') (λ b'. all_lead pass plenty P k (leads pass plenty P k (suc d)) base gs b') (λ b' i. all_stable gs base b' i) (goal_leads pass plenty P k (leads pass plenty P k d) base g b) x.are_deep in
          record { are_same = y.are_same ∙ ap (λ (l : List Leaf). from_each l (λ b'. all_lead pass plenty P k (leads pass plenty P k (suc d)) base gs b')) x.are_same; are_deep = y.are_deep }

      any_stable : (gs : Goals) (base : ℕ) (b : Branch) → k ≤ b.calls + d → Alike d (any_leads pass plenty P k (leads pass plenty P k d) base gs b) (any_leads pass plenty P k (leads pass plenty P k (suc d)) base gs b)
      any_stable (one g) base b h = goal_stable g base b h
      any_stable (more g gs) base b h =
          let x = goal_stable g base b h in let y = any_stable gs base b h in
          record { are_same = ap₂ ◌++◌ x.are_same y.are_same; are_deep = (each_append (Deep d) (goal_leads pass plenty P k (leads pass plenty P k d) base g b) (any_leads pass plenty P k (leads pass plenty P k d) base gs b)).1 (x.are_deep, y.are_deep) }

  pub stable : (d : ℕ) → Stable d
  stable zero base g b h = goal_stable zero (λ base g b i j. absurd (omega arith)) g base b h
  stable (suc d) base g b h = goal_stable (suc d) (λ base g b i j. let x = stable d base g b (omega arith) in record { are_same = x.are_same; are_deep = each_map (deep_more d) (goal_leads pass plenty P k (leads pass plenty P k d) base g b) x.are_deep }) g base b h

  -- bodies may go deeper than a round needs
  pub any_depth : (d base : ℕ) (g : Goal) (b : Branch) → leads pass plenty P k (suc (k + d)) base g b ≡ leads pass plenty P k (suc k) base g b
  any_depth zero base g b = let e : k + zero ≡ k = omega arith in ap (λ (n : ℕ). leads pass plenty P k (suc n) base g b) e
  any_depth (suc d) base g b = let e : k + suc d ≡ suc (k + d) = omega arith in ap (λ (n : ℕ). leads pass plenty P k (suc n) base g b) e ∙ sym (stable (k + d) base g b (omega arith)).are_same ∙ any_depth d base g b

-- How many calls a search is cut at makes no difference to the branches that succeed with fewer.

module _ (k : ℕ) where
  -- the branches that succeed with at most k calls
  abbrev live : List Leaf → List Branch
  live [] = []
  live (succeeds b ∷ xs) = choose (leb b.calls k) (λ _. b ∷ live xs) (λ _. live xs)
  live (is_cut ∷ xs) = live xs

  live_append : (xs ys : List Leaf) → live (xs ++ ys) ≡ live xs ++ live ys
  live_append [] ys = refl
  live_append (succeeds b ∷ xs) ys = go (leb b.calls k) (live_append xs ys)
    where
      go : (c : Bool) → live (xs ++ ys) ≡ live xs ++ live ys → choose c (λ _. b ∷ live (xs ++ ys)) (λ _. live (xs ++ ys)) ≡ choose c (λ _. b ∷ live xs) (λ _. live xs) ++ live ys
      go true ih = ap (λ (l : List Branch). b ∷ l) ih
      go false ih = ih
  live_append (is_cut ∷ xs) ys = live_append xs ys

  abbrev flat : List Branch → (Branch → List Leaf) → List Branch
  flat [] go = []
  flat (b ∷ bs) go = live (go b) ++ flat bs go

  -- beyond k calls nothing comes back
  abbrev Quiet : (Branch → List Leaf) → Type 0
  Quiet go = (b : Branch) → k < b.calls → live (go b) ≡ []

  live_from : (go : Branch → List Leaf) → Quiet go → (xs : List Leaf) → live (from_each xs go) ≡ flat (live xs) go
  live_from go h [] = refl
  live_from go h (succeeds b ∷ xs) = live_append (go b) (from_each xs go) ∙ on (leb b.calls k) refl (live_from go h xs)
    where
      on : (c : Bool) → leb b.calls k ≡ c → live (from_each xs go) ≡ flat (live xs) go → live (go b) ++ live (from_each xs go) ≡ flat (choose c (λ _. b ∷ live xs) (λ _. live xs)) go
      on true q ih = ap (λ (l : List Branch). live (go b) ++ l) ih
      on false q ih = ap₂ ◌++◌ (h b (leb-false b.calls k q)) ih
  live_from go h (is_cut ∷ xs) = live_from go h xs

  flat_same : (f g : Branch → List Leaf) → ((b : Branch) → live (f b) ≡ live (g b)) → (bs : List Branch) → flat bs f ≡ flat bs g
  flat_same f g s [] = refl
  flat_same f g s (b ∷ bs) = ap₂ ◌++◌ (s b) (flat_same f g s bs)

  from_same : (f g : Branch → List Leaf) → Quiet f → Quiet g → ((b : Branch) → live (f b) ≡ live (g b)) → (xs ys : List Leaf) → live xs ≡ live ys → live (from_each xs f) ≡ live (from_each ys g)
  from_same f g qf qg s xs ys e = live_from f qf xs ∙ ap (λ (bs : List Branch). flat bs f) e ∙ flat_same f g s (live ys) ∙ sym (live_from g qg ys)

  lone : (b : Branch) → k < b.calls → live (succeeds b ∷ []) ≡ []
  lone b h = rw (lt-leb b.calls k h) refl

module _ (pass : Passing) (plenty : ℕ) (P : Program) (k : ℕ) where
  equal_quiet : (b : Branch) → k < b.calls → (r : Option Substitution) → live k (equal_leads plenty b r) ≡ []
  equal_quiet b h none = refl
  equal_quiet b h (some bs) =
      by_choose (λ (xs : List Leaf). live k xs ≡ []) (eqb (length bs) (length b.bindings)) _ _ (λ q. lone k b h)
      (λ q. by_choose (λ (xs : List Leaf). live k xs ≡ []) (some_fails plenty bs b.kept b.kept) _ _ (λ q. refl) (λ q. lone k (record { bindings = bs; kept = b.kept; made = b.made; calls = b.calls }) h))

  module _ (m : ℕ) (body : Leads) (quiet : (base : ℕ) (g : Goal) (b : Branch) → k < b.calls → live k (body base g b) ≡ []) where
    called_quiet : (base : ℕ) (ts : List Term) (o : Option Relation) (b : Branch) → k ≤ b.calls → live k (call_leads pass plenty P m body base ts o b) ≡ []
    called_quiet base ts none b h = refl
    called_quiet base ts (some R) b h = quiet b.made R.body _ (omega arith)

    mutual
      goal_quiet : (g : Goal) (base : ℕ) (b : Branch) → k < b.calls → live k (goal_leads pass plenty P m body base g b) ≡ []
      goal_quiet (equal s t) base b h = equal_quiet b h (unified plenty b.bindings (shift base s) (shift base t))
      goal_quiet (constrain c) base b h =
          by_choose (λ (xs : List Leaf). live k xs ≡ []) (constraint_fails plenty b.bindings (b.kept ++ (shift_constraint base c ∷ [])) (shift_constraint base c)) _ _ (λ q. refl)
          (λ q. lone k (record { bindings = b.bindings; kept = b.kept ++ (shift_constraint base c ∷ []); made = b.made; calls = b.calls }) h)
      goal_quiet (conj gs) base b h = all_quiet gs base b h
      goal_quiet (disj gs) base b h = any_quiet gs base b h
      goal_quiet (call r ts) base b h = by_choose (λ (xs : List Leaf). live k xs ≡ []) (ltb b.calls m) _ _ (λ q. called_quiet base ts (get_elem? P r) b (omega arith)) (λ q. refl)

      all_quiet : (gs : Goals) (base : ℕ) (b : Branch) → k < b.calls → live k (all_lead pass plenty P m body base gs b) ≡ []
      all_quiet (one g) base b h = goal_quiet g base b h
      all_quiet (more g gs) base b h =
          live_from k (λ b'. all_lead pass plenty P m body base gs b') (λ b' i. all_quiet gs base b' i) (goal_leads pass plenty P m body base g b)
          ∙ ap (λ (bs : List Branch). flat k bs (λ b'. all_lead pass plenty P m body base gs b')) (goal_quiet g base b h)

      any_quiet : (gs : Goals) (base : ℕ) (b : Branch) → k < b.calls → live k (any_leads pass plenty P m body base gs b) ≡ []
      any_quiet (one g) base b h = goal_quiet g base b h
      any_quiet (more g gs) base b h = live_append k (goal_leads pass plenty P m body base g b) (any_leads pass plenty P m body base gs b) ∙ ap₂ ◌++◌ (goal_quiet g base b h) (any_quiet gs base b h)

  leads_quiet : (m d base : ℕ) (g : Goal) (b : Branch) → k < b.calls → live k (leads pass plenty P m d base g b) ≡ []
  leads_quiet m zero base g b h = refl
  leads_quiet m (suc d) base g b h = goal_quiet m (λ new body b'. leads pass plenty P m d new body b') (leads_quiet m d) g base b h

  module _ (m : ℕ) (le : k ≤ m) (body body' : Leads) (quiet : (base : ℕ) (g : Goal) (b : Branch) → k < b.calls → live k (body base g b) ≡ []) (quiet' : (base : ℕ) (g : Goal) (b : Branch) → k < b.calls → live k (body' base g b) ≡ [])
      (alike : (base : ℕ) (g : Goal) (b : Branch) → live k (body base g b) ≡ live k (body' base g b)) where
    called_alike : (base : ℕ) (ts : List Term) (o : Option Relation) (b : Branch) → live k (call_leads pass plenty P m body base ts o b) ≡ live k (call_leads pass plenty P k body' base ts o b)
    called_alike base ts none b = refl
    called_alike base ts (some R) b = alike b.made R.body _

    mutual
      goal_alike : (g : Goal) (base : ℕ) (b : Branch) → live k (goal_leads pass plenty P m body base g b) ≡ live k (goal_leads pass plenty P k body' base g b)
      goal_alike (equal s t) base b = refl
      goal_alike (constrain c) base b = refl
      goal_alike (conj gs) base b = all_alike gs base b
      goal_alike (disj gs) base b = any_alike gs base b
      goal_alike (call r ts) base b = go (ltb b.calls k) refl
        where
          go : (c : Bool) → ltb b.calls k ≡ c → live k (choose (ltb b.calls m) (λ _. call_leads pass plenty P m body base ts (get_elem? P r) b) (λ _. is_cut ∷ [])) ≡ live k (choose c (λ _. call_leads pass plenty P k body' base ts (get_elem? P r) b) (λ _. is_cut ∷ []))
          go true q = let h : b.calls < m = omega (arith, ltb-true b.calls k q) in rw (lt-ltb b.calls m h) (called_alike base ts (get_elem? P r) b)
          go false q = let h : k ≤ b.calls = omega (arith, ltb-false b.calls k q) in by_choose (λ (xs : List Leaf). live k xs ≡ []) (ltb b.calls m) _ _ (λ z. called_quiet m body quiet base ts (get_elem? P r) b h) (λ z. refl)

      all_alike : (gs : Goals) (base : ℕ) (b : Branch) → live k (all_lead pass plenty P m body base gs b) ≡ live k (all_lead pass plenty P k body' base gs b)
      all_alike (one g) base b = goal_alike g base b
      all_alike (more g gs) base b =
          from_same k (λ b'. all_lead pass plenty P m body base gs b') (λ b'. all_lead pass plenty P k body' base gs b') (λ b' i. all_quiet m body quiet gs base b' i) (λ b' i. all_quiet k body' quiet' gs base b' i) (λ b'. all_alike gs base b')
          (goal_leads pass plenty P m body base g b) (goal_leads pass plenty P k body' base g b) (goal_alike g base b)

      any_alike : (gs : Goals) (base : ℕ) (b : Branch) → live k (any_leads pass plenty P m body base gs b) ≡ live k (any_leads pass plenty P k body' base gs b)
      any_alike (one g) base b = goal_alike g base b
      any_alike (more g gs) base b =
          live_append k (goal_leads pass plenty P m body base g b) (any_leads pass plenty P m body base gs b) ∙ ap₂ ◌++◌ (goal_alike g base b) (any_alike gs base b)
          ∙ sym (live_append k (goal_leads pass plenty P k body' base g b) (any_leads pass plenty P k body' base gs b))

  leads_alike : (m : ℕ) → k ≤ m → (d base : ℕ) (g : Goal) (b : Branch) → live k (leads pass plenty P m d base g b) ≡ live k (leads pass plenty P k d base g b)
  leads_alike m le zero base g b = refl
  leads_alike m le (suc d) base g b = goal_alike m le (λ new body b'. leads pass plenty P m d new body b') (λ new body b'. leads pass plenty P k d new body b') (leads_quiet m d) (leads_quiet k d) (leads_alike m le d) g base b

  module _ (n : ℕ) where
    abbrev told : List Branch → List Answer
    told [] = []
    told (b ∷ bs) = choose (eqb b.calls k) (λ _. (k, branch_words plenty n b) ∷ told bs) (λ _. told bs)

    told_live : (xs : List Leaf) → answers_of plenty n k xs ≡ told (live k xs)
    told_live [] = refl
    told_live (is_cut ∷ xs) = told_live xs
    told_live (succeeds b ∷ xs) = on (leb b.calls k) refl (told_live xs)
      where
        on : (c : Bool) → leb b.calls k ≡ c → answers_of plenty n k xs ≡ told (live k xs) → choose (eqb b.calls k) (λ _. (k, branch_words plenty n b) ∷ answers_of plenty n k xs) (λ _. answers_of plenty n k xs) ≡ told (choose c (λ _. b ∷ live k xs) (λ _. live k xs))
        on true q ih = ap (λ (l : List Answer). choose (eqb b.calls k) (λ _. (k, branch_words plenty n b) ∷ l) (λ _. l)) ih
        on false q ih = rw (ne_eqb b.calls k (λ e. absurd (omega (arith, leb-false b.calls k q)))) ih

-- the answers of round k are the branches with k calls of the search of any later round, in its order
pub deeper_same : (pass : Passing) (plenty : ℕ) (P : Program) (R : Relation) (k m : ℕ) → k ≤ m → answers_of plenty R.params k (round_leaves pass plenty P R m) ≡ round_answers pass plenty P R k
deeper_same pass plenty P R k m le =
    told_live pass plenty P k R.params (round_leaves pass plenty P R m)
    ∙ ap (told pass plenty P k R.params) (leads_alike pass plenty P k m le (suc m) 0 R.body (first_branch R))
    ∙ sym (told_live pass plenty P k R.params (leads pass plenty P k (suc m) 0 R.body (first_branch R)))
    ∙ ap (answers_of plenty R.params k) (let e : m ≡ k + (m - k) = omega arith in ap (λ (j : ℕ). leads pass plenty P k (suc j) 0 R.body (first_branch R)) e ∙ any_depth pass plenty P k (m - k) 0 R.body (first_branch R))
