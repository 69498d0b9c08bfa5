-- Programs that match relation by relation run the same, whatever the numbers of their relations and whatever relations they have beside those that match.
use Prim.Native.Nat.{◌+◌, ◌<◌, suc, zero, ℕ}
use mathlib.Core.List.{List, [], ◌∷◌}
use mathlib.Core.Option.{Option, none, some}
use mathlib.Core.Path.{◌∙◌, ◌≡◌, ap, refl, subst, sym}
use native.Mathlib.Omega.{arith}
use lib.ListN.{get_elem?, length}
use Rattle.rules.specs.Accept.{Accept, accepted, read_with}
use Rattle.rules.specs.Syntax.{Program, Relation, atom, call, conj, disj, equal, more, one, pair, symbol, var}
use Rattle.semantics.specs.Path.{Passing, as_written}
use Rattle.semantics.specs.Round.{Answer, once, rounds_by}
use Rattle.semantics.specs.Run.{Report, leave, ran, report_program_by, report_read_by, run_as_written, run_by, usable}
use Rattle.semantics.proofs.Alike.{Equivariant, OneToOne, as_written_equivariant, atom_like, pair_like, var_like}
use Rattle.semantics.proofs.AlikeRuns.{Enters, GoalLike, QueryLike, call_like, conj_like, disj_like, equal_like, goal_weaken, more_like, neither_there, one_like, run_like}
use Rattle.semantics.proofs.Liftings.{OptionLike, cons_like, nil_like, none_like, none_waived, some_like}
use Rattle.semantics.proofs.Lockstep.{result_same}
use Rattle.semantics.proofs.SameVariables.{CallsOnly, SameEnters, SameProgram, goal_self, rounds_same, same_entered, same_number, same_pairs, same_query}

-- `M r q`: relation r of the one program and relation q of the other match
module _ (M : ℕ → ℕ → Type 0) where
  -- their bodies are the same, but that they may call other relations, which match
  pub record RelationLike (R S : Relation) : Type 0 where
    pub same_params : R.params ≡ S.params
    pub same_vars : R.vars ≡ S.vars
    pub bodies : GoalLike (same_number tt) (λ r q a. M r q) R.body S.body

  abbrev pub Matching : Program → Program → Type 0
  Matching P Q = (r q : ℕ) → M r q → OptionLike RelationLike (get_elem? P r) (get_elem? Q q)

  module _ (P Q : Program) (matching : Matching P Q) where
    -- with any number of calls left
    abbrev CallLike : ℕ → ℕ → ℕ → ℕ → Type 0
    CallLike j r q a = M r q

    enters : (j made a : ℕ) {o o' : Option Relation} → OptionLike RelationLike o o' → SameEnters CallLike j made a o o'
    enters j made a none_like = neither_there
    enters j made a (some_like {a = R} {b = S} h) = same_entered CallLike j made a R S h.same_vars (goal_weaken (λ x y e. ap (λ z. made + z) e) (λ r q a m. m) h.bodies)

    matched : SameProgram CallLike P Q
    matched = record {
      pairs = same_pairs;
      fewer = λ j r q a m. m;
      enters = λ w j made made' r q a e m. subst (λ (n : ℕ). Enters none_waived (Unit {0}) same_number same_number CallLike tt j made n a (get_elem? P r) (get_elem? Q q)) e (enters j made a (matching r q m));
    }

    module _ (pass : Passing) (equivariant : Equivariant pass) where
      -- with query relations that match
      pub matched_rounds : (R S : Relation) → RelationLike R S → (limit later k room left last_cut : ℕ) (written : List Answer) → rounds_by limit (once pass) P R later k room left last_cut written ≡ rounds_by limit (once pass) Q S later k room left last_cut written
      matched_rounds R S h limit later k room left last_cut written =
          rounds_same CallLike pass equivariant P Q matched R S limit later k room left last_cut written (λ j l. same_query CallLike j R S h.same_params h.same_vars (goal_weaken (λ x y e. ap (λ z. 0 + z) e) (λ r q a m. m) h.bodies))

  module _ (pass : Passing) (equivariant : Equivariant pass) where
    -- so what a run reports is the same, if the queries match
    pub matched_report : (P Q : Program) → Matching P Q → M 0 0 → (round_limit step_limit output : ℕ) → report_program_by (once pass) P round_limit step_limit output ≡ report_program_by (once pass) Q round_limit step_limit output
    matched_report P Q matching m round_limit step_limit output = go P Q matching (matching 0 0 m)
      where
        go : (P Q : Program) → Matching P Q → OptionLike RelationLike (get_elem? P 0) (get_elem? Q 0) → report_program_by (once pass) P round_limit step_limit output ≡ report_program_by (once pass) Q round_limit step_limit output
        go [] [] f none_like = refl
        go [] (S ∷ Ss) f x4 = elim x4 [ ]
        go (R ∷ Rs) [] f x4 = elim x4 [ ]
        go (R ∷ Rs) (S ∷ Ss) f (some_like h) = ap ran (matched_rounds (R ∷ Rs) (S ∷ Ss) f pass equivariant R S h step_limit round_limit 0 (usable output) step_limit 0 [])

    -- and so is the whole run of words that are read as these programs
    pub matched_run : (P Q : Program) → Matching P Q → M 0 0 → (words words' : List ℕ) (round_limit step_limit : ℕ) (output scratch : List ℕ) →
        read_with round_limit (length scratch) words ≡ accepted P → read_with round_limit (length scratch) words' ≡ accepted Q → run_by (once pass) words round_limit step_limit output scratch ≡ run_by (once pass) words' round_limit step_limit output scratch
    matched_run P Q matching m words words' round_limit step_limit output scratch e f = ap (λ (x : Report). leave x output scratch) (reports e ∙ matched_report P Q matching m round_limit step_limit (length output) ∙ sym (reports f))
      where
        reports : {a b : Accept} → a ≡ b → report_read_by (once pass) a round_limit step_limit (length output) ≡ report_read_by (once pass) b round_limit step_limit (length output)
        reports q = ap (λ (a : Accept). report_read_by (once pass) a round_limit step_limit (length output)) q

  -- document 01's run
  pub matched_as_written : (P Q : Program) → Matching P Q → M 0 0 → (words words' : List ℕ) (round_limit step_limit : ℕ) (output scratch : List ℕ) →
      read_with round_limit (length scratch) words ≡ accepted P → read_with round_limit (length scratch) words' ≡ accepted Q → run_as_written words round_limit step_limit output scratch ≡ run_as_written words' round_limit step_limit output scratch
  matched_as_written = matched_run as_written as_written_equivariant

-- Relations that no call leads to do not matter: K is closed under calls and has the query, and the programs agree on it.
module _ (K : ℕ → Type 0) (P Q : Program) (closed : (r : ℕ) (R : Relation) → K r → get_elem? P r ≡ some R → CallsOnly K R.body) (agree : (r : ℕ) → K r → get_elem? P r ≡ get_elem? Q r) where
  abbrev Kept : ℕ → ℕ → Type 0
  Kept r q = K r × (r ≡ q)

  kept_matching : Matching Kept P Q
  kept_matching r q (k, e) = subst (λ (o : Option Relation). OptionLike (RelationLike Kept) (get_elem? P r) o) (agree r k ∙ ap (get_elem? Q) e) (go (get_elem? P r) refl)
    where
      go : (o : Option Relation) → get_elem? P r ≡ o → OptionLike (RelationLike Kept) o o
      go none i = none_like
      go (some R) i = some_like (record { same_params = refl; same_vars = refl; bodies = goal_self (same_number tt) (λ x. refl) (λ r q a. Kept r q) K (λ r a k. (k, refl)) R.body (closed r R k i) })

  pub unreached_report : (pass : Passing) → Equivariant pass → K 0 → (round_limit step_limit output : ℕ) → report_program_by (once pass) P round_limit step_limit output ≡ report_program_by (once pass) Q round_limit step_limit output
  unreached_report pass equivariant k = matched_report Kept pass equivariant P Q kept_matching (k, refl)

-- Programs that are not the same: 1 and 2 are exchanged, as the numbers of relations and as those of variables.

data Exchanged : ℕ → ℕ → Type 0 where
  zero_stays : Exchanged 0 0
  one_two : Exchanged 1 2
  two_one : Exchanged 2 1

exchanged_pairs : OneToOne Exchanged
exchanged_pairs _ _ _ _ zero_stays zero_stays = refl
exchanged_pairs _ _ _ _ zero_stays one_two = refl
exchanged_pairs _ _ _ _ zero_stays two_one = refl
exchanged_pairs _ _ _ _ one_two zero_stays = refl
exchanged_pairs _ _ _ _ one_two one_two = refl
exchanged_pairs _ _ _ _ one_two two_one = refl
exchanged_pairs _ _ _ _ two_one zero_stays = refl
exchanged_pairs _ _ _ _ two_one one_two = refl
exchanged_pairs _ _ _ _ two_one two_one = refl

-- a query of relations r and q, and a relation that gives one symbol
abbrev either : ℕ → ℕ → Relation
either r q = record { params = 1; vars = 1; body = disj (more (call r (var 0 ∷ [])) (one (call q (var 0 ∷ [])))) }

abbrev gives : ℕ → Relation
gives a = record { params = 1; vars = 1; body = equal (var 0) (atom (symbol a)) }

relations_exchanged : (pass : Passing) → Equivariant pass → (round_limit step_limit output : ℕ) →
    report_program_by (once pass) (either 1 2 ∷ gives 7 ∷ gives 8 ∷ []) round_limit step_limit output ≡ report_program_by (once pass) (either 2 1 ∷ gives 8 ∷ gives 7 ∷ []) round_limit step_limit output
relations_exchanged pass equivariant = matched_report Exchanged pass equivariant (either 1 2 ∷ gives 7 ∷ gives 8 ∷ []) (either 2 1 ∷ gives 8 ∷ gives 7 ∷ []) matching zero_stays
  where
    given : (a : ℕ) → RelationLike Exchanged (gives a) (gives a)
    given a = record { same_params = refl; same_vars = refl; bodies = equal_like (var_like refl) atom_like }

    matching : Matching Exchanged (either 1 2 ∷ gives 7 ∷ gives 8 ∷ []) (either 2 1 ∷ gives 8 ∷ gives 7 ∷ [])
    matching _ _ zero_stays = some_like (record { same_params = refl; same_vars = refl; bodies = disj_like (more_like (call_like one_two (cons_like (var_like refl) nil_like)) (one_like (call_like two_one (cons_like (var_like refl) nil_like)))) })
    matching _ _ one_two = some_like (given 7)
    matching _ _ two_one = some_like (given 8)

-- a query that makes a pair of its variables x and y, which are two symbols
abbrev pairs_up : ℕ → ℕ → Relation
pairs_up x y = record { params = 1; vars = 3; body = conj (more (equal (var x) (atom (symbol 7))) (more (equal (var y) (atom (symbol 8))) (one (equal (var 0) (pair (var x) (var y)))))) }

variables_exchanged : (pass : Passing) → Equivariant pass → (limit later k room left last_cut : ℕ) (written : List Answer) →
    rounds_by limit (once pass) (pairs_up 1 2 ∷ []) (pairs_up 1 2) later k room left last_cut written ≡ rounds_by limit (once pass) (pairs_up 2 1 ∷ []) (pairs_up 2 1) later k room left last_cut written
variables_exchanged pass equivariant limit later k room left last_cut written =
    result_same (run_like none_waived (Unit {0}) (λ w. Exchanged) same_number (λ j r q a. ⊥) pass equivariant (pairs_up 1 2 ∷ []) (pairs_up 2 1 ∷ [])
    (record { pairs = λ w. exchanged_pairs; fewer = λ j r q a m. m; enters = λ w j made made' r q a e m. absurd m }) (pairs_up 1 2) (pairs_up 2 1) limit later k room left last_cut written (λ j l. query j))
  where
    query_pairs : (x : ℕ) → x < 1 → Exchanged x x
    query_pairs zero l = zero_stays
    query_pairs (suc x) l = absurd (omega arith)

    query : (j : ℕ) → QueryLike none_waived (Unit {0}) (λ w. Exchanged) same_number (λ j r q a. ⊥) j (pairs_up 1 2) (pairs_up 2 1)
    query j = record {
      same_params = refl;
      world = tt;
      made = refl;
      query = query_pairs;
      bodies = conj_like (more_like (equal_like (var_like one_two) atom_like) (more_like (equal_like (var_like two_one) atom_like) (one_like (equal_like (var_like zero_stays) (pair_like (var_like one_two) (var_like two_one))))));
    }
