-- Two runs in lockstep: if related states take related turns, then searches, rounds and results are related too. The runs may be of two programs, and pass arguments in two ways.
use Prim.Native.Nat.{◌+◌, ◌≤◌, suc, zero, ℕ}
use mathlib.Core.List.{List}
use mathlib.Core.Path.{◌≡◌, refl, subst}
use native.Mathlib.Omega.{arith}
use Rattle.rules.specs.Syntax.{Program, Relation}
use Rattle.semantics.specs.Path.{Passing}
use Rattle.semantics.specs.Round.{Answer, Next, Result, Rounded, State, Tally, after_cuts, after_round, broken, completed, going, once, one_round_by, onward, over, path_limit, rounds_by, search_by, steps_used, turn_by}
use Rattle.semantics.specs.Steps.{Bound}
use Rattle.semantics.proofs.Liftings.{none_waived}

module _ (Waived : Bound → Type 0) where
  -- the same, or the first run stopped at a bound that is waived
  pub data RoundedLike : Rounded → Rounded → Type 0 where
    same_rounded : {r : Rounded} → RoundedLike r r
    waived_rounded : {b : Bound} {t : Tally} {r : Rounded} → Waived b → RoundedLike (broken (path_limit b) t) r

  pub data ResultLike : Result → Result → Type 0 where
    same_result : {r : Result} → ResultLike r r
    waived_result : {b : Bound} {r s : Result} → Waived b → r.end ≡ path_limit b → ResultLike r s

  -- related turns: to related states, or both to the same end of the round
  pub data NextLike (Related : State → State → Type 0) : Next → Next → Type 0 where
    going_like : {s t : State} → Related s t → NextLike Related (going s) (going t)
    over_like : {r : Rounded} → NextLike Related (over r) (over r)
    waived_next : {b : Bound} {t : Tally} {x : Next} → Waived b → NextLike Related (over (broken (path_limit b) t)) x

  -- a round is over on both sides, and so go on what comes after it
  after_round_like : (limit k last_cut : ℕ) {r r' : Rounded} (go go' : Tally → Result) → RoundedLike r r' → ((t : Tally) → r ≡ completed t → ResultLike (go t) (go' t)) → ResultLike (after_round limit k last_cut r go) (after_round limit k last_cut r' go')
  after_round_like limit k last_cut go go' (waived_rounded {b} h) f = waived_result {b = b} h refl
  after_round_like limit k last_cut go go' (same_rounded {r}) f = same r f
    where
      cuts : (c : ℕ) (t : Tally) → ResultLike (go t) (go' t) → ResultLike (after_cuts limit c k t go) (after_cuts limit c k t go')
      cuts zero t h = same_result
      cuts (suc c) t h = h

      same : (r : Rounded) → ((t : Tally) → r ≡ completed t → ResultLike (go t) (go' t)) → ResultLike (after_round limit k last_cut r go) (after_round limit k last_cut r go')
      same (broken e t) f = same_result
      same (completed t) f = cuts t.cuts t (f t refl)

  module _ (pass pass' : Passing) (P Q : Program) where
    module _ (n n' k : ℕ) (Related : State → State → Type 0) (tallies : (s t : State) → Related s t → s.tally ≡ t.tally)
        (turns : (s t : State) → Related s t → NextLike Related (turn_by (once pass) P n k s) (turn_by (once pass') Q n' k t)) where
      pub search_like : (fuel : ℕ) (s t : State) → Related s t → RoundedLike (search_by (once pass) P n k fuel s) (search_by (once pass') Q n' k fuel t)
      search_like zero s t h = subst (λ (u : Tally). RoundedLike (broken steps_used s.tally) (broken steps_used u)) (tallies s t h) same_rounded
      search_like (suc fuel) s t h = go (turns s t h) (λ s t h. search_like fuel s t h)
        where
          go : {x y : Next} → NextLike Related x y → ((s t : State) → Related s t → RoundedLike (search_by (once pass) P n k fuel s) (search_by (once pass') Q n' k fuel t)) →
              RoundedLike (onward x (λ s. search_by (once pass) P n k fuel s)) (onward y (λ s. search_by (once pass') Q n' k fuel s))
          go (going_like {s} {t} h) ih = ih s t h
          go over_like ih = same_rounded
          go (waived_next w) ih = waived_rounded w

    -- Rounds k to k + later. They may ask something of the output words left, if every round that is completed keeps it.
    module _ (R S : Relation) (Room : ℕ → Type 0) (keeps : (j room left : ℕ) (written : List Answer) (t : Tally) → Room room → one_round_by (once pass) P R j room left written ≡ completed t → Room t.room) where
      pub rounds_like : (limit later k room left last_cut : ℕ) (written : List Answer) → Room room →
          ((j room left : ℕ) (written : List Answer) → j ≤ k + later → Room room → RoundedLike (one_round_by (once pass) P R j room left written) (one_round_by (once pass') Q S j room left written)) →
          ResultLike (rounds_by limit (once pass) P R later k room left last_cut written) (rounds_by limit (once pass') Q S later k room left last_cut written)
      rounds_like limit zero k room left last_cut written h f = after_round_like limit k last_cut _ _ (f k room left written (omega arith) h) (λ t e. same_result)
      rounds_like limit (suc later) k room left last_cut written h f = after_round_like limit k last_cut _ _ (f k room left written (omega arith) h)
          (λ t e. rounds_like limit later (suc k) t.room t.left t.cuts t.written (keeps k room left written t h e) (λ j room left written l. f j room left written (omega arith)))

-- where no bound is waived, related is the same
pub rounded_same : {r r' : Rounded} → RoundedLike none_waived r r' → r ≡ r'
rounded_same same_rounded = refl
rounded_same (waived_rounded w) = absurd w

pub result_same : {r r' : Result} → ResultLike none_waived r r' → r ≡ r'
result_same same_result = refl
result_same (waived_result w e) = absurd w
