-- What the code's readers tell, test by test: one law for each way in which a reader returns or goes on.
use mathlib.Core.Path.{◌≡◌, refl, sym, ap, ◌∙◌}
use mathlib.Core.Bool.{Bool, true, false}
use mathlib.Core.Logic.{◌⊎◌, inl, inr}
use mathlib.Core.List.{List, ◌∷◌}
use Prim.Native.Nat.{ℕ, zero, suc, ◌+◌, ◌-◌, ◌*◌, ◌<◌, ◌≤◌}
use native.Mathlib.Omega.{arith}
use lib.Dec.{eqb, ltb}
use lib.ListN.{length}
use borrow.Author.Tests.{lt-ltb, le-ltb, le-leb, lt-leb, eq-eqb, ne_eqb, ltb-true, eqb-true}
use Rattle.std.specs.Prelude.{Result, Ok, Err, IsErrAnd, MatchResult}
use Rattle.rules.specs.declared.Refusal.{Refusal}
use Rattle.rules.specs.Syntax.{symbol, number, Term, var, atom, pair, empty, absento, constrain, call, more}
use Rattle.rules.specs.Reading.{Reading, found, next, require, fill, kind_at, payload_at, read_word, read_leaf, read_term, read_one, read_two, read_terms, read_tag, read_absento, read_call, goal_kind, goal_parts, read_goal, read_goals, read_body, read_variables, read_relation, read_relations, two_terms, one_term, of_goals}
use Rattle.rules.specs.Inner.{ReadOutcome, ends, stops, told, outcome, filled_told, Settles, PartAt}
use Rattle.rules.proofs.Combine.{ended, next_stops, told_map, require_found, fill_settles}
use Rattle.rules.proofs.Spelled.{term_some, goal_some}
use Rattle.rules.proofs.Sound.{term_sound, tag_sound, goal_sound, relation_sound}

-- `?` passes a refusal on as it is
pub passed_on : {T : Type 0} (r : Result T Refusal) (e : Refusal) → IsErrAnd r (λ y. y ≡ e) → r ≡ Err e
passed_on (Ok x) e h = absurd h
passed_on (Err y) e h = ap Err h

-- any depth over a need is one more than some depth
pub settle : {A : Type 0} (r : ℕ → Reading A) (need : ℕ) (o : ReadOutcome) → ((g : ℕ) → need < suc g → o ≡ told (r (suc g))) → Settles r need o
settle r need o h zero l = absurd (omega arith)
settle r need o h (suc g) l = h g l

-- what is told when a reading goes on
module _ {A B : Type 0} where
  next_ends : (r : Reading A) (k : A → ℕ → Reading B) (n : ℕ) (o : ReadOutcome) → ends n ≡ told r → ((a : A) → r ≡ found a n → o ≡ told (k a n)) → o ≡ told (next r k)
  next_ends r k n o e f = let q = ended r n e in rw q.1 (f q.0 q.1)

  next_map : (r : Reading A) (g : A → B) (o : ReadOutcome) → o ≡ told r → o ≡ told (next r (λ a n. found (g a) n))
  next_map r g o e = e ∙ sym (told_map r g)

-- words
pub word_missing : (k : ℕ) (ws : List ℕ) (at end : ℕ) → end ≤ at → stops 3 end ≡ told (read_word k ws at end)
unfolding read_word
word_missing k ws at end l = simp (le-ltb at end l)

pub word_wrong : (k : ℕ) (ws : List ℕ) (at end q p : ℕ) → at < end → PartAt ws at q p → (q ≡ k → ⊥) → stops 2 at ≡ told (read_word k ws at end)
unfolding read_word
word_wrong k ws at end q p l s n = simp (lt-ltb at end l, ne_eqb (kind_at ws at) k (λ e. n (s.is_kind ∙ e)))

pub word_right : (k : ℕ) (ws : List ℕ) (at end q p : ℕ) → at < end → PartAt ws at q p → q ≡ k → ends (at + 1) ≡ told (read_word k ws at end)
unfolding read_word
word_right k ws at end q p l s e = simp (lt-ltb at end l, eq-eqb (kind_at ws at) k (sym s.is_kind ∙ e))

-- a word that was read, with its payload
pub record WordRead (k : ℕ) (ws : List ℕ) (at end n : ℕ) : Type 0 where
  pub before_end : at < end
  pub to : n ≡ at + 1
  pub is_kind : kind_at ws at ≡ k
  pub reads : read_word k ws at end ≡ found (payload_at ws at) n

pub word_read : (k : ℕ) (ws : List ℕ) (at end n : ℕ) → ends n ≡ told (read_word k ws at end) → WordRead k ws at end n
unfolding read_word
word_read k ws at end n e =
    let q = ended (read_word k ws at end) n e in
    let q₁ = require_found (ltb at end) 3 end _ q.0 n q.1 in
    let q₂ = require_found (eqb (kind_at ws at) k) 2 at _ q.0 n q₁.1 in
    let z : at + 1 ≡ n = cc in
    record { before_end = ltb-true at end q₁.0; to = sym z; is_kind = eqb-true _ _ q₂.0; reads = simp (q₁.0, q₂.0) (ap (found (payload_at ws at)) z) }

-- leaves
pub leaf_variable : (k p vars at : ℕ) (o : ReadOutcome) → k ≡ 0 → o ≡ told (require {A = Term} (ltb p vars) 5 at (λ _. found (var p) (at + 1))) → o ≡ told (read_leaf k p vars at)
unfolding read_leaf
leaf_variable k p vars at o e h = rw e h

pub leaf_empty : (k p vars at : ℕ) (o : ReadOutcome) → k ≡ 3 → o ≡ told (require {A = Term} (eqb p 0) 3 at (λ _. found (atom empty) (at + 1))) → o ≡ told (read_leaf k p vars at)
unfolding read_leaf
leaf_empty k p vars at o e h = rw e h

pub leaf_atom : (k p vars at : ℕ) → k < 4 → (k ≡ 0 → ⊥) → (k ≡ 3 → ⊥) → ends (at + 1) ≡ told (read_leaf k p vars at)
unfolding read_leaf
leaf_atom zero p vars at l z e = absurd (z refl)
leaf_atom (suc zero) p vars at l z e = refl
leaf_atom (suc (suc zero)) p vars at l z e = refl
leaf_atom (suc (suc (suc zero))) p vars at l z e = absurd (e refl)
leaf_atom (suc (suc (suc (suc k)))) p vars at l z e = absurd (omega arith)

-- terms
abbrev pub TermTold : List ℕ → ℕ → ℕ → ℕ → ReadOutcome → Type 0
TermTold ws vars at end o = Settles (λ f. read_term f ws vars at end) (end - at) o

pub term_missing : (ws : List ℕ) (vars at end : ℕ) → end ≤ at → TermTold ws vars at end (stops 3 end)
unfolding read_term
term_missing ws vars at end l = settle (λ f. read_term f ws vars at end) (end - at) (stops 3 end) (λ g _. simp (le-ltb at end l))

module _ (ws : List ℕ) (vars at end k p : ℕ) (l : at < end) (s : PartAt ws at k p) where
  is_kind : kind_at ws at ≡ k
  is_kind = sym s.is_kind

  is_size : payload_at ws at ≡ p
  is_size = sym s.is_size

  pub term_kind : 4 < k → TermTold ws vars at end (stops 2 at)
  unfolding read_term
  term_kind b = settle (λ f. read_term f ws vars at end) (end - at) (stops 2 at) (λ g _. simp (lt-ltb at end l, is_kind, lt-leb k 4 b))

  pub term_leaf : (o : ReadOutcome) → k ≤ 4 → (k ≡ 4 → ⊥) → o ≡ told (read_leaf k p vars at) → TermTold ws vars at end o
  unfolding read_term
  term_leaf o b n e = settle (λ f. read_term f ws vars at end) (end - at) o (λ g _. simp (lt-ltb at end l, is_kind, is_size, le-leb k 4 b, ne_eqb k 4 n) e)

  pub term_overrun : k ≡ 4 → end - (at + 1) < p → TermTold ws vars at end (stops 3 at)
  unfolding read_term
  term_overrun e b = settle (λ f. read_term f ws vars at end) (end - at) (stops 3 at) (λ g _. simp (lt-ltb at end l, is_kind ∙ e, is_size, lt-leb p (end - (at + 1)) b))

  -- a pair whose first part stays inside
  module _ (e : k ≡ 4) (b : p ≤ end - (at + 1)) where
    pair_reads : (g : ℕ) (o : ReadOutcome)
        → o ≡ told (next (fill (read_term g ws vars (at + 1) (at + 1 + p)) (at + 1 + p)) (λ s m. next (read_term g ws vars (at + 1 + p) end) (λ t e. found (pair s t) e)))
        → o ≡ told (read_term (suc g) ws vars at end)
    unfolding read_term
    pair_reads g o h = simp (lt-ltb at end l, is_kind ∙ e, is_size, le-leb p (end - (at + 1)) b) h

    -- the first part has to fill its place
    first_told : (o q : ReadOutcome) → TermTold ws vars (at + 1) (at + 1 + p) o → q ≡ filled_told o (at + 1 + p)
        → Settles (λ f. fill (read_term f ws vars (at + 1) (at + 1 + p)) (at + 1 + p)) (at + 1 + p - (at + 1)) q
    first_told o q h e = fill_settles (λ f. read_term f ws vars (at + 1) (at + 1 + p)) (at + 1 + p - (at + 1)) (at + 1 + p) o q h e

    pub term_first_stops : (c q : ℕ) (o : ReadOutcome) → TermTold ws vars (at + 1) (at + 1 + p) o → stops c q ≡ filled_told o (at + 1 + p) → TermTold ws vars at end (stops c q)
    term_first_stops c q o h e = settle (λ f. read_term f ws vars at end) (end - at) (stops c q) (λ g d. pair_reads g (stops c q)
        (next_stops (fill (read_term g ws vars (at + 1) (at + 1 + p)) (at + 1 + p)) _ c q (first_told o (stops c q) h e g (omega arith))))

    pub term_second : (n : ℕ) (o : ReadOutcome) → TermTold ws vars (at + 1) (at + 1 + p) o → ends n ≡ filled_told o (at + 1 + p) → (u : ReadOutcome) → TermTold ws vars (at + 1 + p) end u → TermTold ws vars at end u
    term_second n o h e u r = settle (λ f. read_term f ws vars at end) (end - at) u (λ g d. pair_reads g u
        (next_ends (fill (read_term g ws vars (at + 1) (at + 1 + p)) (at + 1 + p)) _ n u (first_told o (ends n) h e g (omega arith)) (λ t _.
        next_map (read_term g ws vars (at + 1 + p) end) (pair t) u (r g (omega arith)))))

pub record Ahead (at end n : ℕ) : Type 0 where
  pub past : at < n
  pub within : n ≤ end

pub term_ahead : (ws : List ℕ) (vars at end n : ℕ) → TermTold ws vars at end (ends n) → Ahead at end n
term_ahead ws vars at end n h =
    let q = ended (read_term (suc (end - at)) ws vars at end) n (h (suc (end - at)) (omega arith)) in
    let f = term_sound (suc (end - at)) ws vars at end q.0 n q.1 in
    record { past = omega (arith, f.to, term_some q.0); within = f.within }

-- one term, and two
pub one_told : (ws : List ℕ) (vars at end : ℕ) (o q : ReadOutcome) → TermTold ws vars at end o → q ≡ filled_told o end → Settles (λ f. read_one f ws vars at end) (end - at) q
unfolding read_one
one_told ws vars at end o q h e = fill_settles (λ f. read_term f ws vars at end) (end - at) end o q h e

pub two_stops : (ws : List ℕ) (vars at end c q : ℕ) → TermTold ws vars at end (stops c q) → Settles (λ f. read_two f ws vars at end) (end - at) (stops c q)
unfolding read_two
two_stops ws vars at end c q h f d = next_stops (read_term f ws vars at end) _ c q (h f d)

pub two_rest : (ws : List ℕ) (vars at end n : ℕ) (o : ReadOutcome) → TermTold ws vars at end (ends n) → Settles (λ f. read_one f ws vars n end) (end - n) o
    → Settles (λ f. read_two f ws vars at end) (end - at) o
unfolding read_two
two_rest ws vars at end n o h r f d =
    let a = term_ahead ws vars at end n h in
    next_ends (read_term f ws vars at end) _ n o (h f d) (λ s _. next_map (read_one f ws vars n end) (λ t. (s, t)) o (r f (omega (arith, a.past))))

-- terms up to an end
abbrev pub TermsTold : List ℕ → ℕ → ℕ → ℕ → ReadOutcome → Type 0
TermsTold ws vars at end o = Settles (λ f. read_terms f ws vars at end) (end - at + 1) o

pub terms_end : (ws : List ℕ) (vars at end : ℕ) → end ≤ at → TermsTold ws vars at end (ends at)
unfolding read_terms
terms_end ws vars at end l = settle (λ f. read_terms f ws vars at end) (end - at + 1) (ends at) (λ g _. simp (le-ltb at end l))

pub terms_stop : (ws : List ℕ) (vars at end c q : ℕ) → at < end → TermTold ws vars at end (stops c q) → TermsTold ws vars at end (stops c q)
unfolding read_terms
terms_stop ws vars at end c q l h = settle (λ f. read_terms f ws vars at end) (end - at + 1) (stops c q) (λ g d. simp (lt-ltb at end l)
    (next_stops (read_term g ws vars at end) _ c q (h g (omega arith))))

pub terms_next : (ws : List ℕ) (vars at end n : ℕ) → at < end → TermTold ws vars at end (ends n) → (o : ReadOutcome) → TermsTold ws vars n end o → TermsTold ws vars at end o
unfolding read_terms
terms_next ws vars at end n l h o r = settle (λ f. read_terms f ws vars at end) (end - at + 1) o (λ g d.
    let a = term_ahead ws vars at end n h in
    simp (lt-ltb at end l) (next_ends (read_term g ws vars at end) _ n o (h g (omega arith)) (λ t _. next_map (read_terms g ws vars n end) (λ ts. t ∷ ts) o (r g (omega (arith, a.past, a.within))))))

-- absento and call
pub tag_symbol : (ws : List ℕ) (at end n : ℕ) → ends n ≡ told (read_word 1 ws at end) → ends n ≡ told (read_tag ws at end)
unfolding read_tag
tag_symbol ws at end n h =
    let r = word_read 1 ws at end n h in
    rw (eq-eqb (kind_at ws at) 1 r.is_kind) (next_map (read_word 1 ws at end) symbol (ends n) h)

pub tag_number : (ws : List ℕ) (at end c q : ℕ) (o : ReadOutcome) → stops c q ≡ told (read_word 1 ws at end) → o ≡ told (read_word 2 ws at end) → o ≡ told (read_tag ws at end)
unfolding read_tag read_word
tag_number ws at end c q o h e = go (eqb (kind_at ws at) 1) refl (ltb at end) refl
  where
    go : (b : Bool) → eqb (kind_at ws at) 1 ≡ b → (d : Bool) → ltb at end ≡ d → o ≡ told (read_tag ws at end)
    go false k d l = rw k (next_map (read_word 2 ws at end) number o e)
    go true k true l = let y : stops c q ≡ ends (at + 1) = simp (l, k) at h in cc
    go true k false l = simp (l, k) (simp l at e)

-- a symbol, or else a number
pub tag_told : (ws : List ℕ) (at end : ℕ) (r s : Result ℕ Refusal) (Q : Refusal → Type 0) → outcome r ≡ told (read_word 1 ws at end) → MatchResult r (λ n. s ≡ Ok n) Q
    → ((e : Refusal) → Q e → outcome s ≡ told (read_word 2 ws at end)) → outcome s ≡ told (read_tag ws at end)
tag_told ws at end (Ok n) s Q h e f = rw e (tag_symbol ws at end n h)
tag_told ws at end (Err r) s Q h e f = tag_number ws at end _ _ (outcome s) h (f r e)

pub absento_stops : (ws : List ℕ) (vars at end c q : ℕ) → stops c q ≡ told (read_tag ws at end) → Settles (λ f. read_absento f ws vars at end) (end - at) (stops c q)
unfolding read_absento
absento_stops ws vars at end c q h f d = next_stops (read_tag ws at end) _ c q h

pub absento_rest : (ws : List ℕ) (vars at end n : ℕ) (o : ReadOutcome) → ends n ≡ told (read_tag ws at end) → Settles (λ f. read_one f ws vars n end) (end - n) o
    → Settles (λ f. read_absento f ws vars at end) (end - at) o
unfolding read_absento
absento_rest ws vars at end n o h r f d =
    next_ends (read_tag ws at end) _ n o h (λ a e. next_map (read_one f ws vars n end) (λ t. constrain (absento a t)) o (r f (omega (arith, (tag_sound ws at end a n e).to))))

pub call_stops : (ws : List ℕ) (vars at end c q : ℕ) → stops c q ≡ told (read_word 2 ws at end) → Settles (λ f. read_call f ws vars at end) (end - at) (stops c q)
unfolding read_call
call_stops ws vars at end c q h f d = next_stops (read_word 2 ws at end) _ c q h

pub call_rest : (ws : List ℕ) (vars at end n : ℕ) (o : ReadOutcome) → ends n ≡ told (read_word 2 ws at end) → TermsTold ws vars n end o
    → Settles (λ f. read_call f ws vars at end) (end - at) o
unfolding read_call
call_rest ws vars at end n o h r f d =
    let w = word_read 2 ws at end n h in
    next_ends (read_word 2 ws at end) _ n o h (λ p _. next_map (read_terms f ws vars n end) (λ ts. call p ts) o (r f (omega (arith, w.to, w.before_end))))

-- goals
abbrev pub GoalTold : List ℕ → ℕ → ℕ → ℕ → ReadOutcome → Type 0
GoalTold ws vars at end o = Settles (λ f. read_goal f ws vars at end) (2 * (end - at) + 1) o

abbrev pub GoalsTold : List ℕ → ℕ → ℕ → ℕ → ReadOutcome → Type 0
GoalsTold ws vars at end o = Settles (λ f. read_goals f ws vars at end) (2 * (end - at) + 2) o

pub goal_missing : (ws : List ℕ) (vars at end : ℕ) → end ≤ at → GoalTold ws vars at end (stops 3 end)
unfolding read_goal
goal_missing ws vars at end l = settle (λ f. read_goal f ws vars at end) (2 * (end - at) + 1) (stops 3 end) (λ g _. simp (le-ltb at end l))

module _ (ws : List ℕ) (vars at end k p : ℕ) (l : at < end) (s : PartAt ws at k p) where
  pub goal_other : goal_kind k ≡ false → GoalTold ws vars at end (stops 2 at)
  unfolding read_goal
  goal_other n = settle (λ f. read_goal f ws vars at end) (2 * (end - at) + 1) (stops 2 at) (λ g _. simp (lt-ltb at end l, sym s.is_kind, n))

  module _ (y : goal_kind k ≡ true) where
    pub goal_overrun : end - (at + 1) < p → GoalTold ws vars at end (stops 3 at)
    unfolding read_goal
    goal_overrun b = settle (λ f. read_goal f ws vars at end) (2 * (end - at) + 1) (stops 3 at)
        (λ g _. simp (lt-ltb at end l, sym s.is_kind, sym s.is_size, y, lt-leb p (end - (at + 1)) b))

    module _ (b : p ≤ end - (at + 1)) where
      goal_reads : (o : ReadOutcome) → ((g : ℕ) → 2 * (end - at) < g → o ≡ told (goal_parts g ws vars k (at + 1) (at + 1 + p) (λ a e. read_goals g ws vars a e))) → GoalTold ws vars at end o
      unfolding read_goal
      goal_reads o h = settle (λ f. read_goal f ws vars at end) (2 * (end - at) + 1) o
          (λ g d. simp (lt-ltb at end l, sym s.is_kind, sym s.is_size, y, le-leb p (end - (at + 1)) b) (h g (omega arith)))

      pub goal_two : k ≤ 6 → (o : ReadOutcome) → Settles (λ f. read_two f ws vars (at + 1) (at + 1 + p)) (at + 1 + p - (at + 1)) o → GoalTold ws vars at end o
      goal_two u o h = goal_reads o (λ g d. simp (le-leb k 6 u) (next_map (read_two g ws vars (at + 1) (at + 1 + p)) (two_terms (eqb k 5)) o (h g (omega arith))))

      pub goal_one : 6 < k → k ≤ 8 → (o : ReadOutcome) → Settles (λ f. read_one f ws vars (at + 1) (at + 1 + p)) (at + 1 + p - (at + 1)) o → GoalTold ws vars at end o
      goal_one v u o h = goal_reads o (λ g d. simp (lt-leb k 6 v, le-leb k 8 u) (next_map (read_one g ws vars (at + 1) (at + 1 + p)) (one_term (eqb k 7)) o (h g (omega arith))))

      pub goal_absento : k ≡ 9 → (o : ReadOutcome) → Settles (λ f. read_absento f ws vars (at + 1) (at + 1 + p)) (at + 1 + p - (at + 1)) o → GoalTold ws vars at end o
      goal_absento e o h = goal_reads o (λ g d. simp e (h g (omega arith)))

      pub goal_call : k ≡ 12 → (o : ReadOutcome) → Settles (λ f. read_call f ws vars (at + 1) (at + 1 + p)) (at + 1 + p - (at + 1)) o → GoalTold ws vars at end o
      goal_call e o h = goal_reads o (λ g d. simp e (h g (omega arith)))

      pub goal_nested : 10 ≤ k → k ≤ 11 → (o : ReadOutcome) → GoalsTold ws vars (at + 1) (at + 1 + p) o → GoalTold ws vars at end o
      goal_nested v u o h = goal_reads o (λ g d. simp (lt-leb k 6 (omega arith), lt-leb k 8 (omega arith), ne_eqb k 9 (λ e. omega arith), le-leb k 11 u)
          (next_map (read_goals g ws vars (at + 1) (at + 1 + p)) (of_goals (eqb k 10)) o (h g (omega arith))))

pub goal_ahead : (ws : List ℕ) (vars at end n : ℕ) → GoalTold ws vars at end (ends n) → Ahead at end n
goal_ahead ws vars at end n h =
    let f : ℕ = suc (2 * (end - at) + 1) in
    let q = ended (read_goal (suc (2 * (end - at) + 1)) ws vars at end) n (h (suc (2 * (end - at) + 1)) (omega arith)) in
    let t = goal_sound (suc (2 * (end - at) + 1)) ws vars at end q.0 n q.1 in
    record { past = omega (arith, t.to, goal_some q.0); within = t.within }

pub goals_stop : (ws : List ℕ) (vars at end c q : ℕ) → GoalTold ws vars at end (stops c q) → GoalsTold ws vars at end (stops c q)
unfolding read_goals
goals_stop ws vars at end c q h = settle (λ f. read_goals f ws vars at end) (2 * (end - at) + 2) (stops c q) (λ g d. next_stops (read_goal g ws vars at end) _ c q (h g (omega arith)))

pub goals_last : (ws : List ℕ) (vars at end n : ℕ) → GoalTold ws vars at end (ends n) → end ≤ n → GoalsTold ws vars at end (ends n)
unfolding read_goals
goals_last ws vars at end n h u = settle (λ f. read_goals f ws vars at end) (2 * (end - at) + 2) (ends n) (λ g d.
    next_ends (read_goal g ws vars at end) _ n (ends n) (h g (omega arith)) (λ t _. simp (le-ltb n end u)))

pub goals_next : (ws : List ℕ) (vars at end n : ℕ) → GoalTold ws vars at end (ends n) → n < end → (o : ReadOutcome) → GoalsTold ws vars n end o → GoalsTold ws vars at end o
unfolding read_goals
goals_next ws vars at end n h u o r = settle (λ f. read_goals f ws vars at end) (2 * (end - at) + 2) o (λ g d.
    let a = goal_ahead ws vars at end n h in
    next_ends (read_goal g ws vars at end) _ n o (h g (omega arith)) (λ t _. simp (lt-ltb n end u) (next_map (read_goals g ws vars n end) (more t) o (r g (omega (arith, a.past))))))

-- relations
pub body_told : (ws : List ℕ) (vars at end : ℕ) (o q : ReadOutcome) → GoalTold ws vars at end o → q ≡ filled_told o end → Settles (λ f. read_body f ws vars at end) (2 * (end - at) + 1) q
unfolding read_body
body_told ws vars at end o q h e = fill_settles (λ f. read_goal f ws vars at end) (2 * (end - at) + 1) end o q h e

pub variables_stop : (ws : List ℕ) (params at end c q : ℕ) → stops c q ≡ told (read_word 2 ws at end) → Settles (λ f. read_variables f ws params at end) (2 * (end - at) + 1) (stops c q)
unfolding read_variables
variables_stop ws params at end c q h f d = next_stops (read_word 2 ws at end) _ c q h

module _ (ws : List ℕ) (params at end n k p : ℕ) (h : ends n ≡ told (read_word 2 ws at end)) (s : PartAt ws at k p) where
  read_p : read_word 2 ws at end ≡ found p n
  read_p = (word_read 2 ws at end n h).reads ∙ ap (λ p. found p n) (sym s.is_size)

  pub variables_wrong : (255 < p) ⊎ ((p ≤ 255) × (p < params)) → Settles (λ f. read_variables f ws params at end) (2 * (end - at) + 1) (stops 4 at)
  unfolding read_variables
  variables_wrong (inl u) f d = simp (read_p, lt-leb p 255 u)
  variables_wrong (inr v) f d = simp (read_p, le-leb p 255 v.0, lt-leb params p v.1)

  pub variables_rest : p ≤ 255 → params ≤ p → (o : ReadOutcome) → Settles (λ f. read_body f ws p n end) (2 * (end - n) + 1) o → Settles (λ f. read_variables f ws params at end) (2 * (end - at) + 1) o
  unfolding read_variables
  variables_rest u v o r f d = simp (read_p, le-leb p 255 u, le-leb params p v)
      (next_map (read_body f ws p n end) (λ g. record { params = params; vars = p; body = g }) o (r f (omega (arith, (word_read 2 ws at end n h).to))))

abbrev pub RelationTold : List ℕ → ℕ → ℕ → ReadOutcome → Type 0
RelationTold ws before at o = Settles (λ f. read_relation f ws before at) (2 * (length ws - at) + 1) o

module _ (ws : List ℕ) (before at k p : ℕ) (s : PartAt ws at k p) where
  pub relation_kind : (k ≡ 13 → ⊥) → RelationTold ws before at (stops 2 at)
  unfolding read_relation
  relation_kind n f d = simp (ne_eqb (kind_at ws at) 13 (λ e. n (s.is_kind ∙ e)))

  pub relation_overrun : k ≡ 13 → length ws - (at + 1) < p → RelationTold ws before at (stops 3 at)
  unfolding read_relation
  relation_overrun e u f d = simp (eq-eqb (kind_at ws at) 13 (sym s.is_kind ∙ e), sym s.is_size, lt-leb p (length ws - (at + 1)) u)

  module _ (e : k ≡ 13) (u : p ≤ length ws - (at + 1)) (l : at < length ws) where
    pub relation_many : 256 ≤ before → RelationTold ws before at (stops 6 at)
    unfolding read_relation
    relation_many b f d = simp (eq-eqb (kind_at ws at) 13 (sym s.is_kind ∙ e), sym s.is_size, le-leb p (length ws - (at + 1)) u, le-ltb before 256 b)

    pub relation_stops : before < 256 → (c q : ℕ) → stops c q ≡ told (read_word 2 ws (at + 1) (at + 1 + p)) → RelationTold ws before at (stops c q)
    unfolding read_relation
    relation_stops b c q h f d = simp (eq-eqb (kind_at ws at) 13 (sym s.is_kind ∙ e), sym s.is_size, le-leb p (length ws - (at + 1)) u, lt-ltb before 256 b)
        (next_stops (read_word 2 ws (at + 1) (at + 1 + p)) _ c q h)

    pub relation_rest : before < 256 → (n q m : ℕ) → ends n ≡ told (read_word 2 ws (at + 1) (at + 1 + p)) → PartAt ws (at + 1) q m → (o : ReadOutcome)
        → Settles (λ f. read_variables f ws m n (at + 1 + p)) (2 * (at + 1 + p - n) + 1) o → RelationTold ws before at o
    unfolding read_relation
    relation_rest b n q m h t o r f d = simp (
      eq-eqb (kind_at ws at) 13 (sym s.is_kind ∙ e),
      sym s.is_size,
      le-leb p (length ws - (at + 1)) u,
      lt-ltb before 256 b,
      read_p ws 0 (at + 1) (at + 1 + p) n q m h t,
    ) (r f (omega (arith, (word_read 2 ws (at + 1) (at + 1 + p) n h).to)))

pub relation_ahead : (ws : List ℕ) (before at n : ℕ) → at < length ws → RelationTold ws before at (ends n) → Ahead at (length ws) n × (before < 256)
relation_ahead ws before at n l h =
    let q = ended (read_relation (suc (2 * (length ws - at) + 1)) ws before at) n (h (suc (2 * (length ws - at) + 1)) (omega arith)) in
    let t = relation_sound (suc (2 * (length ws - at) + 1)) ws before at q.0 n l q.1 in
    (record { past = t.2; within = t.0.within }, t.1)

abbrev pub RelationsTold : List ℕ → ℕ → ℕ → ReadOutcome → Type 0
RelationsTold ws before at o = Settles (λ f. read_relations f ws before at) (2 * (length ws - at) + 2) o

pub relations_end : (ws : List ℕ) (before at : ℕ) → length ws ≤ at → RelationsTold ws before at (ends at)
unfolding read_relations
relations_end ws before at l = settle (λ f. read_relations f ws before at) (2 * (length ws - at) + 2) (ends at) (λ g _. simp (le-ltb at (length ws) l))

pub relations_stop : (ws : List ℕ) (before at c q : ℕ) → at < length ws → RelationTold ws before at (stops c q) → RelationsTold ws before at (stops c q)
unfolding read_relations
relations_stop ws before at c q l h = settle (λ f. read_relations f ws before at) (2 * (length ws - at) + 2) (stops c q) (λ g d. simp (lt-ltb at (length ws) l)
    (next_stops (read_relation g ws before at) _ c q (h g (omega arith))))

pub relations_next : (ws : List ℕ) (before at n : ℕ) → at < length ws → RelationTold ws before at (ends n) → (o : ReadOutcome) → RelationsTold ws (before + 1) n o → RelationsTold ws before at o
unfolding read_relations
relations_next ws before at n l h o r = settle (λ f. read_relations f ws before at) (2 * (length ws - at) + 2) o (λ g d.
    let a = relation_ahead ws before at n l h in
    simp (lt-ltb at (length ws) l) (next_ends (read_relation g ws before at) _ n o (h g (omega arith)) (λ R _.
    next_map (read_relations g ws (before + 1) n) (λ P. R ∷ P) o (r g (omega (arith, a.0.past, a.0.within))))))
