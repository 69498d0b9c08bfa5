-- Answers on the output, compared word by word.
use Prim.Native.Nat.{ℕ, zero, suc, ◌+◌, ◌-◌, ◌<◌, ◌≤◌}
use mathlib.Core.Path.{◌≡◌, refl, sym, ap, subst, ◌∙◌}
use mathlib.Core.Bool.{Bool, true, false, ◌||◌, false≢true}
use mathlib.Core.List.{List, [], ◌∷◌, ◌++◌}
use mathlib.Core.Logic.{◌⊎◌, inl, inr, ⊎_elim}
use native.Mathlib.Omega.{arith}
use lib.ListN.{length, take, drop, length-append, length-drop}
use lib.Seq.{drop-cons, length-take-le}
use Rattle.word.specs.Word.{payload, payload_word}
use Rattle.rules.specs.Lists.{joined}
use Rattle.rules.specs.Written.{part}
use Rattle.rules.specs.Inner.{Spells}
use Rattle.semantics.specs.Answer.{same_words, any_same}
use Rattle.semantics.proofs.Basics.{one_of, or_right}
use Rattle.engine.specs.Reference.{at}
use Rattle.engine.specs.Lines.{Whole, Stretch, Rows}
use Rattle.engine.specs.Index.{AnswerAt, Standing}
use Rattle.semantics.proofs.Repeats.{same_refl, same_true}
use Rattle.engine.proofs.RowLaws.{spells_one, rows_cons, Row, RowNext, row_next, row_found, row_on}

-- the words taken from a place stand there
spells_taken : (o : List ℕ) (place n : ℕ) → place + n ≤ length o → Spells o place (take n (drop place o))
unfolding Spells
spells_taken o place zero h = tt
spells_taken o place (suc n) h =
    let l : place < length o = omega arith in
    let e : suc place ≡ place + 1 = omega arith in
    rw (drop-cons o place 0 l) (refl, rw e (spells_taken o (place + 1) n (omega arith)))

-- words that stand at a place, one by one
spelled : (o : List ℕ) (place : ℕ) (v : List ℕ) → ((k : ℕ) → k < length v → at o (place + k) ≡ at v k) → Spells o place v
unfolding Spells
spelled o place [] h = tt
spelled o place (x ∷ v) h =
    let e : place + 0 ≡ place = omega arith in
    (subst (λ p. at o p ≡ x) e (h 0 (omega arith)), spelled o (place + 1) v (λ k l. let f : place + suc k ≡ place + 1 + k = omega arith in subst (λ p. at o p ≡ at v k) f (h (suc k) (omega arith))))

spells_each : (o : List ℕ) (place : ℕ) (v : List ℕ) → Spells o place v → (k : ℕ) → k < length v → at o (place + k) ≡ at v k
unfolding Spells
spells_each o place [] s k l = absurd (omega arith)
spells_each o place (x ∷ v) s zero l = let e : place ≡ place + 0 = omega arith in subst (λ p. at o p ≡ x) e s.0
spells_each o place (x ∷ v) s (suc k) l = let f : place + 1 + k ≡ place + suc k = omega arith in subst (λ p. at o p ≡ at v k) f (spells_each o (place + 1) v s.1 k (omega arith))

-- .. so that a comparison of each tells whether they stand there
pub standing_each : (o : List ℕ) (place : ℕ) (v : List ℕ) (n : ℕ) → length v ≤ n → ((k : ℕ) → k < n → at o (place + k) ≡ at v k) → Standing o place v true
standing_each o place v n l h = record { yes = λ _. spelled o place v (λ k m. h k (omega arith)); no = λ q. absurd (false≢true (sym q)) }

pub standing_differs : (o : List ℕ) (place : ℕ) (v : List ℕ) (k : ℕ) → k < length v → ¬ (at o (place + k) ≡ at v k) → Standing o place v false
standing_differs o place v k l d = record { yes = λ q. absurd (false≢true q); no = λ _ s. d (spells_each o place v s k l) }

-- an answer's words, as they are taken from where they stand
pub stretch_taken : {o : List ℕ} {start next : ℕ} {v : List ℕ} → Stretch o start next v → next ≤ length o → take (next - start) (drop start o) ≡ v
stretch_taken {o} {start} {next} {v} h l =
    let n : ℕ = next - start in
    let e : next ≡ start + length v = h.ends in
    let long : length (take n (drop start o)) ≡ n = length-take-le n (drop start o) (omega (arith, length-drop start o)) in
    spells_one o start (take n (drop start o)) v (spells_taken o start n (omega arith)) h.words (omega arith)

pub standing_stretch : {o : List ℕ} {start next place : ℕ} {v : List ℕ} {r : Bool} → Stretch o start next v → next ≤ length o → Standing o place (take (next - start) (drop start o)) r → Standing o place v r
standing_stretch {o} {start} {next} {place} {v} {r} h l s = subst (λ x. Standing o place x r) (stretch_taken h l) s

-- of two answers at one place the header counts the same words
pub whole_one : (o : List ℕ) (place : ℕ) {v w : List ℕ} → Whole v → Whole w → Spells o place v → Spells o place w → v ≡ w
unfolding Spells
whole_one o place {v} {w} k m h i =
    let f : Spells o place (part k.kind k.rest) = subst (Spells o place) k.is h in
    let g : Spells o place (part m.kind m.rest) = subst (Spells o place) m.is i in
    let a : length k.rest ≡ length m.rest = sym (payload_word k.kind (length k.rest) k.short) ∙ ap payload (sym f.0 ∙ g.0) ∙ payload_word m.kind (length m.rest) m.short in
    spells_one o place v w h i (ap length k.is ∙ ap suc a ∙ ap length (sym m.is))

-- the answer at a place has the words v, or not
standing_same : {o : List ℕ} {place to : ℕ} {v w : List ℕ} (r : Bool) → Whole v → Whole w → Stretch o place to w → Standing o place v r → r ≡ same_words v w
standing_same {o} {place} {to} {v} {w} true k m h s = let e : v ≡ w = whole_one o place k m (s.yes refl) h.words in subst (λ x. true ≡ same_words x w) (sym e) (sym (same_refl w))
standing_same {o} {place} {to} {v} {w} false k m h s = go (same_words v w) refl
  where
    go : (b : Bool) → same_words v w ≡ b → false ≡ same_words v w
    go false q = sym q
    go true q = absurd (s.no refl (subst (Spells o place) (sym (same_true v w q)) h.words))

-- an answer compared with earlier ones, one after the other
module _ {o : List ℕ} {place to : ℕ} {v : List ℕ} {goal r : Bool} (g : Row o place to v goal) (l : place < to) (k : Whole v) (s : Standing o place v r) where
  next_row : RowNext o place to (payload (at o place)) v goal
  next_row = row_next g l refl refl

  is_first : r ≡ same_words v next_row.one
  is_first = standing_same r k next_row.whole next_row.here s

  pub among_found : r ≡ true → true ≡ goal
  among_found e = row_found next_row is_first e

  pub among_next : r ≡ false → {next : ℕ} → next ≡ place + (1 + payload (at o place)) → Row o next to v goal
  among_next e {next} is = subst (λ p. Row o p to v goal) (omega (arith, is)) (row_on next_row is_first e)

-- an answer at a place
pub record EarlierAnswer (o : List ℕ) (to place : ℕ) (w : List ℕ) : Type 0 where
  pub words : Spells o place w
  pub whole : Whole w
  pub inside : place < to

pub answer_stands : {o : List ℕ} {first to place : ℕ} {w : List ℕ} (ws : List (List ℕ)) → Rows o first to ws → AnswerAt first ws place w → EarlierAnswer o to place w
unfolding AnswerAt rows_cons
answer_stands [] h a = absurd a
answer_stands {o} {first} {to} {place} {w} (x ∷ xs) h a =
    let n = rows_cons x xs h in
    let long : length x ≡ suc (length n.whole.rest) = ap length n.whole.is in
    let ends : to ≡ first + length x + length (joined xs) = n.later.stretch.ends in
    ⊎_elim
    (λ e. record { words = subst (λ p. Spells o p w) (sym e.0) (subst (Spells o first) (sym e.1) n.here.words); whole = subst Whole (sym e.1) n.whole; inside = omega (arith, e.0) })
    (answer_stands {o = o} {first = first + length x} {to = to} {place = place} {w = w} xs n.later)
    a

-- an answer is among others just if it stands there
pub same_at : (v : List ℕ) (ws : List (List ℕ)) (first : ℕ) → any_same v ws ≡ true → (place : ℕ) × AnswerAt first ws place v
unfolding AnswerAt
same_at v [] first e = absurd (false≢true e)
same_at v (w ∷ ws) first e =
    ⊎_elim (λ q. (first, inl (refl, same_true v w q))) (λ q. let r = same_at v ws (first + length w) q in (r.0, inr r.1)) (one_of (same_words v w) (any_same v ws) e)

pub at_same : (v : List ℕ) (ws : List (List ℕ)) (first place : ℕ) → AnswerAt first ws place v → any_same v ws ≡ true
unfolding AnswerAt
at_same v [] first place a = absurd a
at_same v (w ∷ ws) first place a =
    ⊎_elim (λ e. ap (λ b. b || any_same v ws) (subst (λ x. same_words v x ≡ true) e.1 (same_refl v)))
    (λ b. ap (λ x. same_words v w || x) (at_same v ws (first + length w) place b) ∙ or_right (same_words v w)) a

-- answers with one more behind them
pub at_more : (ws : List (List ℕ)) (v : List ℕ) (first place : ℕ) (w : List ℕ) → AnswerAt first ws place w → AnswerAt first (ws ++ (v ∷ [])) place w
unfolding AnswerAt
at_more [] v first place w a = absurd a
at_more (x ∷ ws) v first place w a = ⊎_elim inl (λ b. inr (at_more ws v (first + length x) place w b)) a

pub at_last : (ws : List (List ℕ)) (v : List ℕ) (first place : ℕ) → place ≡ first + length (joined ws) → AnswerAt first (ws ++ (v ∷ [])) place v
unfolding AnswerAt
at_last [] v first place e = inl (omega arith, refl)
at_last (x ∷ ws) v first place e = inr (at_last ws v (first + length x) place (omega (arith, length-append x (joined ws))))

pub at_one_more : (ws : List (List ℕ)) (v : List ℕ) (first place : ℕ) (w : List ℕ) → AnswerAt first (ws ++ (v ∷ [])) place w → AnswerAt first ws place w ⊎ ((place ≡ first + length (joined ws)) × (w ≡ v))
unfolding AnswerAt
at_one_more [] v first place w a = ⊎_elim (λ e. inr (omega (arith, e.0), e.1)) (λ b. absurd b) a
at_one_more (x ∷ ws) v first place w a =
    ⊎_elim (λ e. inl (inl e))
    (λ b. ⊎_elim (λ d. inl (inr d)) (λ e. inr (omega (arith, e.0, length-append x (joined ws)), e.1)) (at_one_more ws v (first + length x) place w b)) a
