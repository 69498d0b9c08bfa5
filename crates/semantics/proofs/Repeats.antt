-- Words that were given before, and answers with repeats struck out.
use Prim.Native.Nat.{suc, zero, ℕ}
use mathlib.Core.Bool.{Bool, ◌||◌, false, true}
use mathlib.Core.List.{List, [], ◌++◌, ◌∷◌, append_assoc, append-nil}
use mathlib.Core.Logic.{inl, inr, ⊎_elim}
use mathlib.Core.Option.{none-ne-some, some-injective, some}
use mathlib.Core.Path.{◌∙◌, ◌≡◌, ap, ap₂, refl, subst, sym}
use lib.Dec.{eqb}
use lib.ListN.{get_elem?}
use borrow.Author.Tests.{eq-eqb, eqb-true}
use Rattle.rules.specs.Lists.{Each}
use Rattle.rules.specs.Reading.{choose}
use Rattle.semantics.specs.Answer.{same_words}
use Rattle.semantics.specs.Demand.{Begins, strike, strike_by}
use Rattle.semantics.specs.Round.{Answer, repeats}
use Rattle.semantics.specs.Situation.{Given}
use Rattle.semantics.proofs.Basics.{and_true, by_choose, clash, each_map, one_of, or_right, some_each, some_left, some_right, some_split}

pub same_true : (v w : List ℕ) → same_words v w ≡ true → v ≡ w
same_true [] [] e = refl
same_true [] (w ∷ ws) e = clash (cc)
same_true (v ∷ vs) [] e = clash (cc)
same_true (v ∷ vs) (w ∷ ws) e = let (p, q) = and_true (eqb v w) (same_words vs ws) e in ap₂ ◌∷◌ (eqb-true v w p) (same_true vs ws q)

pub same_refl : (v : List ℕ) → same_words v v ≡ true
same_refl [] = refl
same_refl (v ∷ vs) = rw (eq-eqb v v refl) (same_refl vs)

-- the test says just whether the words were given
pub repeats_given : (ws : List ℕ) (earlier : List Answer) → repeats ws earlier ≡ true → Given ws earlier
repeats_given ws [] e = clash (cc)
repeats_given ws (a ∷ earlier) e = ⊎_elim (λ r. inl (sym (same_true ws a.1 r))) (λ r. inr (repeats_given ws earlier r)) (one_of (same_words ws a.1) (repeats ws earlier) e)

pub given_repeats : (ws : List ℕ) (earlier : List Answer) → Given ws earlier → repeats ws earlier ≡ true
given_repeats ws [] h = absurd h
given_repeats ws (a ∷ earlier) h = ⊎_elim
    (λ e. ap (λ (b : Bool). b || repeats ws earlier) (subst (λ (v : List ℕ). same_words ws v ≡ true) (sym e) (same_refl ws)))
    (λ r. ap (λ (b : Bool). same_words ws a.1 || b) (given_repeats ws earlier r) ∙ or_right (same_words ws a.1)) h

pub new_not_given : (ws : List ℕ) (earlier : List Answer) → repeats ws earlier ≡ false → ¬ Given ws earlier
new_not_given ws earlier e h = let q = given_repeats ws earlier h in clash (cc)

pub not_given_new : (ws : List ℕ) (earlier : List Answer) → ¬ Given ws earlier → repeats ws earlier ≡ false
not_given_new ws earlier h = go (repeats ws earlier) refl
  where
    go : (b : Bool) → repeats ws earlier ≡ b → repeats ws earlier ≡ false
    go true e = absurd (h (repeats_given ws earlier e))
    go false e = e

-- two lists in which the same words are given pass the test alike
same_test : (ws : List ℕ) (xs ys : List Answer) → (Given ws xs → Given ws ys) → (Given ws ys → Given ws xs) → repeats ws xs ≡ repeats ws ys
same_test ws xs ys f g = go (repeats ws xs) refl
  where
    go : (b : Bool) → repeats ws xs ≡ b → repeats ws xs ≡ repeats ws ys
    go true e = e ∙ sym (given_repeats ws ys (f (repeats_given ws xs e)))
    go false e = e ∙ sym (not_given_new ws ys (λ h. new_not_given ws xs e (g h)))

given_append : (ws : List ℕ) (xs ys zs : List Answer) → (Given ws xs → Given ws ys) → Given ws (xs ++ zs) → Given ws (ys ++ zs)
given_append ws xs ys zs f h = ⊎_elim (λ x. some_left (λ (a : Answer). a.1 ≡ ws) ys zs (f x)) (some_right (λ (a : Answer). a.1 ≡ ws) ys zs) (some_split (λ (a : Answer). a.1 ≡ ws) xs zs h)

-- Strikes of any kind

module _ (strikes : List ℕ → List Answer → Bool) where
  pub strike_each : (Q : Answer → Type 0) (before xs : List Answer) → Each Q xs → Each Q (strike_by strikes before xs)
  strike_each Q before [] h = tt
  strike_each Q before (a ∷ xs) h = by_choose (Each Q) (strikes a.1 before) _ _ (λ e. strike_each Q before xs h.1) (λ e. (h.0, strike_each Q (before ++ (a ∷ [])) xs h.1))

  -- later answers are struck after what is left of the earlier ones
  pub strike_append : (before xs ys : List Answer) → strike_by strikes before (xs ++ ys) ≡ strike_by strikes before xs ++ strike_by strikes (before ++ strike_by strikes before xs) ys
  strike_append before [] ys = ap (λ (b : List Answer). strike_by strikes b ys) (sym (append-nil before))
  strike_append before (a ∷ xs) ys = go (strikes a.1 before) (strike_append before xs ys) (strike_append (before ++ (a ∷ [])) xs ys)
    where
      go : (b : Bool) → strike_by strikes before (xs ++ ys) ≡ strike_by strikes before xs ++ strike_by strikes (before ++ strike_by strikes before xs) ys →
          strike_by strikes (before ++ (a ∷ [])) (xs ++ ys) ≡ strike_by strikes (before ++ (a ∷ [])) xs ++ strike_by strikes ((before ++ (a ∷ [])) ++ strike_by strikes (before ++ (a ∷ [])) xs) ys → choose b (λ _. strike_by strikes before (xs ++ ys)) (λ _. a ∷ strike_by strikes (before ++ (a ∷ [])) (xs ++ ys)) ≡
          choose b (λ _. strike_by strikes before xs) (λ _. a ∷ strike_by strikes (before ++ (a ∷ [])) xs) ++ strike_by strikes (before ++ choose b (λ _. strike_by strikes before xs) (λ _. a ∷ strike_by strikes (before ++ (a ∷ [])) xs)) ys
      go true struck kept = struck
      go false struck kept = ap (λ (l : List Answer). a ∷ l) (kept ∙ ap (λ (b : List Answer). strike_by strikes (before ++ (a ∷ [])) xs ++ strike_by strikes b ys) (append_assoc before (a ∷ []) (strike_by strikes (before ++ (a ∷ [])) xs)))

-- where nothing is struck all is left
pub strike_none : (before xs : List Answer) → strike_by (λ ws earlier. false) before xs ≡ xs
strike_none before [] = refl
strike_none before (a ∷ xs) = ap (λ (l : List Answer). a ∷ l) (strike_none (before ++ (a ∷ [])) xs)

-- Repeats

-- what is struck was given, so that no words are lost, and none are new
struck_given : (ws : List ℕ) (before xs : List Answer) → Given ws xs → Given ws (before ++ strike before xs)
struck_given ws before [] h = absurd h
struck_given ws before (a ∷ xs) h = by_choose (λ (l : List Answer). Given ws (before ++ l)) (repeats a.1 before) _ _
    (λ e. ⊎_elim (λ q. some_left (λ (b : Answer). b.1 ≡ ws) before (strike before xs) (subst (λ (v : List ℕ). Given v before) q (repeats_given a.1 before e))) (struck_given ws before xs) h)
    (λ e. ⊎_elim (λ q. some_right (λ (b : Answer). b.1 ≡ ws) before (a ∷ strike (before ++ (a ∷ [])) xs) (inl q)) (λ r. subst (Given ws) (append_assoc before (a ∷ []) (strike (before ++ (a ∷ [])) xs)) (struck_given ws (before ++ (a ∷ [])) xs r)) h)

given_struck : (ws : List ℕ) (before xs : List Answer) → Given ws (strike before xs) → Given ws xs
given_struck ws before [] h = h
given_struck ws before (a ∷ xs) h = by_choose (λ (l : List Answer). Given ws l → Given ws (a ∷ xs)) (repeats a.1 before) _ _ (λ e h. inr (given_struck ws before xs h)) (λ e h. ⊎_elim inl (λ r. inr (given_struck ws (before ++ (a ∷ [])) xs r)) h) h

-- it is all one whether repeats are struck from what came before
strike_alike : (before before' ys : List Answer) → ((ws : List ℕ) → Given ws before → Given ws before') → ((ws : List ℕ) → Given ws before' → Given ws before) → strike before ys ≡ strike before' ys
strike_alike before before' [] f g = refl
strike_alike before before' (a ∷ ys) f g = rw (same_test a.1 before before' (f a.1) (g a.1)) (go (repeats a.1 before') (strike_alike before before' ys f g)
    (strike_alike (before ++ (a ∷ [])) (before' ++ (a ∷ [])) ys (λ ws. given_append ws before before' (a ∷ []) (f ws)) (λ ws. given_append ws before' before (a ∷ []) (g ws))))
  where
    go : (b : Bool) → strike before ys ≡ strike before' ys → strike (before ++ (a ∷ [])) ys ≡ strike (before' ++ (a ∷ [])) ys → choose b (λ _. strike before ys) (λ _. a ∷ strike (before ++ (a ∷ [])) ys) ≡ choose b (λ _. strike before' ys) (λ _. a ∷ strike (before' ++ (a ∷ [])) ys)
    go true struck kept = struck
    go false struck kept = ap (λ (l : List Answer). a ∷ l) kept

pub strike_struck : (xs ys : List Answer) → strike (strike [] xs) ys ≡ strike xs ys
strike_struck xs ys = strike_alike (strike [] xs) xs ys (λ ws. given_struck ws [] xs) (λ ws. struck_given ws [] xs)

-- one answer more
pub strike_one : (xs : List Answer) (a : Answer) → strike [] (xs ++ (a ∷ [])) ≡ choose (repeats a.1 (strike [] xs)) (λ _. strike [] xs) (λ _. strike [] xs ++ (a ∷ []))
strike_one xs a = strike_append repeats [] xs (a ∷ []) ∙ go (repeats a.1 (strike [] xs))
  where
    go : (b : Bool) → strike [] xs ++ choose b (λ _. []) (λ _. a ∷ []) ≡ choose b (λ _. strike [] xs) (λ _. strike [] xs ++ (a ∷ []))
    go true = append-nil (strike [] xs)
    go false = refl

-- and several
pub strike_begins : {xs ys : List Answer} → Begins xs ys → Begins (strike [] xs) (strike [] ys)
strike_begins {xs} h = record { later = strike (strike [] xs) h.later; is_longer = ap (strike []) h.is_longer ∙ strike_append repeats [] xs h.later }

-- No two are the same.

unfoldable pub AllDifferent : List Answer → Type 0
AllDifferent [] = Unit {0}
AllDifferent (a ∷ later) = (¬ Given a.1 later) × AllDifferent later

-- what is left was not given before
struck_new : (before xs : List Answer) → Each (λ (a : Answer). ¬ Given a.1 before) (strike before xs)
struck_new before [] = tt
struck_new before (a ∷ xs) = by_choose (Each (λ (a : Answer). ¬ Given a.1 before)) (repeats a.1 before) _ _ (λ e. struck_new before xs)
    (λ e. (new_not_given a.1 before e, each_map (λ b f h. f (some_left (λ (c : Answer). c.1 ≡ b.1) before (a ∷ []) h)) (strike (before ++ (a ∷ [])) xs) (struck_new (before ++ (a ∷ [])) xs)))

pub struck_different : (before xs : List Answer) → AllDifferent (strike before xs)
unfolding AllDifferent
struck_different before [] = tt
struck_different before (a ∷ xs) = by_choose AllDifferent (repeats a.1 before) _ _ (λ e. struck_different before xs)
    (λ e. (
      λ h. some_each (λ (b : Answer). b.1 ≡ a.1) _ (strike (before ++ (a ∷ [])) xs) (λ b f q. f (some_right (λ (c : Answer). c.1 ≡ b.1) before (a ∷ []) (inl (sym q)))) (struck_new (before ++ (a ∷ [])) xs) h,
      struck_different (before ++ (a ∷ [])) xs,
    ))

pub begins_different : {xs ys : List Answer} → Begins xs ys → AllDifferent ys → AllDifferent xs
unfolding AllDifferent
begins_different {xs} h d = go xs h.later (subst AllDifferent h.is_longer d)
  where
    go : (xs later : List Answer) → AllDifferent (xs ++ later) → AllDifferent xs
    go [] later d = tt
    go (a ∷ xs) later d = (λ h. d.0 (some_left (λ (b : Answer). b.1 ≡ a.1) xs later h), go xs later d.1)

placed_first : (x a : Answer) → some x ≡ some a → x.1 ≡ a.1
placed_first x a e = ap (λ (c : Answer). c.1) (some-injective x a e)

placed_given : (xs : List Answer) (i : ℕ) (a : Answer) (ws : List ℕ) → get_elem? xs i ≡ some a → a.1 ≡ ws → Given ws xs
placed_given [] i a ws e q = absurd (none-ne-some a e)
placed_given (x ∷ xs) zero a ws e q = inl (placed_first x a e ∙ q)
placed_given (x ∷ xs) (suc i) a ws e q = inr (placed_given xs i a ws e q)

-- the same words are at the same place
pub different_places : (xs : List Answer) → AllDifferent xs → (i j : ℕ) (a b : Answer) → get_elem? xs i ≡ some a → get_elem? xs j ≡ some b → a.1 ≡ b.1 → i ≡ j
unfolding AllDifferent
different_places [] d i j a b e f q = absurd (none-ne-some a e)
different_places (x ∷ xs) d zero zero a b e f q = refl
different_places (x ∷ xs) d zero (suc j) a b e f q = absurd (d.0 (placed_given xs j b x.1 f (sym (placed_first x a e ∙ q))))
different_places (x ∷ xs) d (suc i) zero a b e f q = absurd (d.0 (placed_given xs i a x.1 e (q ∙ sym (placed_first x b f))))
different_places (x ∷ xs) d (suc i) (suc j) a b e f q = ap suc (different_places xs d.1 i j a b e f q)

pub append_cancel : (xs : List Answer) {ys zs : List Answer} → xs ++ ys ≡ xs ++ zs → ys ≡ zs
append_cancel [] e = e
append_cancel (x ∷ xs) e = append_cancel xs (cc)
