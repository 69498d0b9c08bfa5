-- Situations are apart, and none is true of everything: a turn that goes on is in none, no turn is in two, and for each end there is a run that is not in its situation.
use Prim.Native.Nat.{ℕ}
use mathlib.Core.List.{[], ◌∷◌}
use mathlib.Core.Path.{◌∙◌, ◌≡◌, ap, refl, sym}
use Rattle.rules.specs.Syntax.{Program, Relation, atom, equal, symbol, var}
use Rattle.rules.specs.Written.{goal_words, goals_words, term_words, terms_words}
use Rattle.semantics.specs.Path.{Passing, as_written}
use Rattle.semantics.specs.Round.{End, State, Tally, broken, finished, going, once, output_full, over, path_limit, rounds_by, rounds_used, spend, steps_used}
use Rattle.semantics.specs.Situation.{Situation, TurnBreaks, Turns}
use Rattle.semantics.proofs.Basics.{clash}
use Rattle.semantics.proofs.Ends.{ends_just, one_end}
use Rattle.semantics.proofs.InRound.{turns_going}
use Rattle.semantics.proofs.Situations.{from_breaks}

pub going_breaks_none : (pass : Passing) (P : Program) (n k : ℕ) (s s' : State) → Turns pass P n k s s' → (e : End) (l : ℕ) → ¬ TurnBreaks pass P n k s e l
going_breaks_none pass P n k s s' g e l b = clash (let q : going s' ≡ over (broken e (spend s.tally l)) = sym (turns_going pass P n k s g) ∙ from_breaks pass P n k s e l b in cc)

-- and no turn is in two, or in one with other steps left
pub one_break : (pass : Passing) (P : Program) (n k : ℕ) (s : State) (e e' : End) (l l' : ℕ) → TurnBreaks pass P n k s e l → TurnBreaks pass P n k s e' l' → (e ≡ e') × (l ≡ l')
one_break pass P n k s e e' l l' b b' =
    let q : over (broken e (spend s.tally l)) ≡ over (broken e' (spend s.tally l')) = sym (from_breaks pass P n k s e l b) ∙ from_breaks pass P n k s e' l' b' in
    let u : spend s.tally l ≡ spend s.tally l' = cc in
    (cc, ap (λ (t : Tally). t.left) u)

-- run A of document 01
abbrev A : Relation
A = record { params = 1; vars = 1; body = equal (var 0) (atom (symbol 7)) }

finishes : (rounds_by 4 (once as_written) (A ∷ []) A 0 0 2 4 0 []).end ≡ finished
unfolding term_words terms_words goal_words goals_words
finishes = refl

stops_early : (rounds_by 3 (once as_written) (A ∷ []) A 0 0 2 3 0 []).end ≡ steps_used
unfolding term_words terms_words goal_words goals_words
stops_early = refl

-- with 4 steps it is in the situation of finished, with 3 in that of steps used up
pub A_finishes : Situation as_written (A ∷ []) A 4 0 2 finished
A_finishes = (ends_just as_written (A ∷ []) A 4 0 2 finished).0 finishes

pub A_stops : Situation as_written (A ∷ []) A 3 0 2 steps_used
A_stops = (ends_just as_written (A ∷ []) A 3 0 2 steps_used).0 stops_early

-- so for each end there is a step limit with which it is not in its situation
pub not_everywhere : (e : End) → (limit : ℕ) × ¬ Situation as_written (A ∷ []) A limit 0 2 e
not_everywhere finished = (3, λ x. clash (let q : steps_used ≡ finished = one_end as_written (A ∷ []) A 3 0 2 steps_used finished A_stops x in cc))
not_everywhere rounds_used = (4, λ x. clash (let q : finished ≡ rounds_used = one_end as_written (A ∷ []) A 4 0 2 finished rounds_used A_finishes x in cc))
not_everywhere steps_used = (4, λ x. clash (let q : finished ≡ steps_used = one_end as_written (A ∷ []) A 4 0 2 finished steps_used A_finishes x in cc))
not_everywhere output_full = (4, λ x. clash (let q : finished ≡ output_full = one_end as_written (A ∷ []) A 4 0 2 finished output_full A_finishes x in cc))
not_everywhere (path_limit b) = (4, λ x. clash (let q : finished ≡ path_limit b = one_end as_written (A ∷ []) A 4 0 2 finished (path_limit b) A_finishes x in cc))
