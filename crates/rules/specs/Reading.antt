-- Reading a program's words, after document 01, "Turning a program away": conditions 1 to 6, the first fault met from word 0 up.
-- Places are word numbers. A part is read between `at` and `end`, the end of what encloses it.
-- A reader's first number, `words`, bounds how deep it goes: each word goes through two readers at most, so `read_structure` gives twice the words and a few more.
-- It is never used up: a reader's clause for 0 is never met (proofs, `written_is_read`: every written form is read).
-- A reader is written as its cases (`term_step`, ..), which take the reader itself as an argument, and then the reader.
use Rattle.std.specs.Prelude.{ℕ, zero, suc, ◌+◌, ◌-◌, ◌*◌, Bool, true, false, ◌&&◌, List, [], ◌∷◌, eqb, ltb, leb, length, get_or}
use Rattle.word.specs.Word.{kind, payload}
use Rattle.rules.specs.Syntax.{Atom, symbol, number, empty, Term, var, atom, pair, symbols, numbers, differ, typed, absento, Goal, Goals, equal, constrain, conj, disj, call, one, more, Relation, Program}
use Rattle.rules.specs.Settings.{most_relations, most_words}

-- what a reader finds: a value and the place after it, or the number and the place of a refusal
pub data Reading (A : Type 0) : Type 0 where
  found : A → ℕ → Reading A
  refuse : ℕ → ℕ → Reading A

-- go on with what was found
abbrev pub next : {A B : Type 0} → Reading A → (A → ℕ → Reading B) → Reading B
next (found a n) k = k a n
next (refuse c p) k = refuse c p

-- go on if the test holds, else refuse with this number and place
abbrev pub require : {A : Type 0} → Bool → ℕ → ℕ → (Unit {0} → Reading A) → Reading A
require true c p k = k tt
require false c p k = refuse c p

-- x if the test holds, else y; both are functions, so that only one is computed
abbrev pub choose : {A : Type 0} → Bool → (Unit {0} → A) → (Unit {0} → A) → A
choose true x y = x tt
choose false x y = y tt

abbrev pub kind_at : List ℕ → ℕ → ℕ
kind_at ws at = kind (get_or ws at 0)

abbrev pub payload_at : List ℕ → ℕ → ℕ
payload_at ws at = payload (get_or ws at 0)

-- the place after the part whose first word is at `at`: "p counts the words that follow in that part"
abbrev pub after : List ℕ → ℕ → ℕ
after ws at = at + 1 + payload_at ws at

-- "is missing: the end of the enclosing part"; it "comes before the word at its place"
abbrev pub present : {A : Type 0} → ℕ → ℕ → (Unit {0} → Reading A) → Reading A
present at end = require (ltb at end) 3 end

-- "a part overruns what encloses it: the overrunning word"
abbrev pub inside : {A : Type 0} → List ℕ → ℕ → ℕ → (Unit {0} → Reading A) → Reading A
inside ws at end = require (leb (payload_at ws at) (end - (at + 1))) 3 at

-- "leaves words over: the first word left over"
abbrev pub filled : {A : Type 0} → A → ℕ → ℕ → Reading A
filled a at end = require (leb end at) 3 at (λ _. found a at)

-- the same of a reading
abbrev pub fill : {A : Type 0} → Reading A → ℕ → Reading A
fill r end = next r (λ a n. filled a n end)

-- a word of one kind, as a "number word" is; its payload is what is found
unfoldable pub read_word : ℕ → List ℕ → ℕ → ℕ → Reading ℕ
read_word k ws at end = present at end (λ _. require (eqb (kind_at ws at) k) 2 at (λ _. found (payload_at ws at) (at + 1)))

-- A variable or an atom in a relation with `vars` variables. "0: variable p", where 5 is "variable number not below the relation's count";
-- "1, 2: symbol p, number p"; "3: empty list", where "3:p with p not 0" is refused by 3.
unfoldable pub read_leaf : ℕ → ℕ → ℕ → ℕ → Reading Term
read_leaf k p vars at =
    choose (eqb k 0) (λ _. require (ltb p vars) 5 at (λ _. found (var p) (at + 1))) (λ _.
    choose (eqb k 1) (λ _. found (atom (symbol p)) (at + 1)) (λ _.
    choose (eqb k 2) (λ _. found (atom (number p)) (at + 1)) (λ _.
    require (eqb p 0) 3 at (λ _. found (atom empty) (at + 1)))))

-- A term: kinds 0 to 4. "4: pair: the first part takes p words, then the second part".
abbrev pub term_step : List ℕ → ℕ → ℕ → ℕ → (ℕ → ℕ → Reading Term) → Reading Term
term_step ws vars at end term =
    present at end (λ _.
    require (leb (kind_at ws at) 4) 2 at (λ _.
    choose (eqb (kind_at ws at) 4)
    (λ _.
    inside ws at end (λ _.
    next (fill (term (at + 1) (after ws at)) (after ws at)) (λ s m.
    next (term (after ws at) end) (λ t e. found (pair s t) e))))
    (λ _. read_leaf (kind_at ws at) (payload_at ws at) vars at)))

unfoldable pub read_term : ℕ → List ℕ → ℕ → ℕ → ℕ → Reading Term
read_term zero ws vars at end = refuse 3 end
read_term (suc words) ws vars at end = term_step ws vars at end (λ a e. read_term words ws vars a e)

-- "one term" that fills its part
unfoldable pub read_one : ℕ → List ℕ → ℕ → ℕ → ℕ → Reading Term
read_one words ws vars at end = fill (read_term words ws vars at end) end

-- "two terms" that fill their part
unfoldable pub read_two : ℕ → List ℕ → ℕ → ℕ → ℕ → Reading (Term × Term)
read_two words ws vars at end = next (read_term words ws vars at end) (λ s n. next (read_one words ws vars n end) (λ t m. found (s, t) m))

-- "its argument terms", none or more, up to the end of the call
abbrev pub terms_step : ℕ → ℕ → (ℕ → ℕ → Reading Term) → (ℕ → ℕ → Reading (List Term)) → Reading (List Term)
terms_step at end term terms =
    choose (ltb at end) (λ _. next (term at end) (λ t n. next (terms n end) (λ ts m. found (t ∷ ts) m))) (λ _. found [] at)

unfoldable pub read_terms : ℕ → List ℕ → ℕ → ℕ → ℕ → Reading (List Term)
read_terms zero ws vars at end = refuse 3 end
read_terms (suc words) ws vars at end = terms_step at end (λ a e. read_term words ws vars a e) (λ a e. read_terms words ws vars a e)

-- the kinds that start a goal: "5, 6 .. 12"
abbrev pub goal_kind : ℕ → Bool
goal_kind k = leb 5 k && leb k 12

abbrev pub two_terms : Bool → Term × Term → Goal
two_terms true p = equal p.0 p.1
two_terms false p = constrain (differ p.0 p.1)

abbrev pub one_term : Bool → Term → Goal
one_term true t = constrain (typed symbols t)
one_term false t = constrain (typed numbers t)

abbrev pub of_goals : Bool → Goals → Goal
of_goals true gs = conj gs
of_goals false gs = disj gs

-- a word of one kind as the atom that it stands for
abbrev pub read_atom : ℕ → (ℕ → Atom) → List ℕ → ℕ → ℕ → Reading Atom
read_atom k make ws at end = next (read_word k ws at end) (λ p n. found (make p) n)

-- What stands in the tag's place: "The tag of absento may be a symbol or a number from now on .. Condition 2 at the tag's place then refuses everything else."
-- (document 02, Note 3)
unfoldable pub read_tag : List ℕ → ℕ → ℕ → Reading Atom
read_tag ws at end = choose (eqb (kind_at ws at) 1) (λ _. read_atom 1 symbol ws at end) (λ _. read_atom 2 number ws at end)

-- "absento: .. the tag, one term"
unfoldable pub read_absento : ℕ → List ℕ → ℕ → ℕ → ℕ → Reading Goal
read_absento words ws vars at end = next (read_tag ws at end) (λ a n. next (read_one words ws vars n end) (λ t m. found (constrain (absento a t)) m))

-- "call: a number word (the relation), its argument terms"
unfoldable pub read_call : ℕ → List ℕ → ℕ → ℕ → ℕ → Reading Goal
read_call words ws vars at end = next (read_word 2 ws at end) (λ r n. next (read_terms words ws vars n end) (λ ts m. found (call r ts) m))

-- What follows a goal's word, by its kind: "5, 6: equal, differ: two terms"; "7, 8: symbolo, numbero: one term"; 9: absento;
-- "10, 11: conjunction, disjunction: one or more goals"; 12: call.
abbrev pub goal_parts : ℕ → List ℕ → ℕ → ℕ → ℕ → ℕ → (ℕ → ℕ → Reading Goals) → Reading Goal
goal_parts words ws vars k at end goals =
    choose (leb k 6) (λ _. next (read_two words ws vars at end) (λ p n. found (two_terms (eqb k 5) p) n)) (λ _.
    choose (leb k 8) (λ _. next (read_one words ws vars at end) (λ t n. found (one_term (eqb k 7) t) n)) (λ _.
    choose (eqb k 9) (λ _. read_absento words ws vars at end) (λ _.
    choose (leb k 11) (λ _. next (goals at end) (λ gs n. found (of_goals (eqb k 10) gs) n)) (λ _.
    read_call words ws vars at end))))

-- a goal: kinds 5 to 12
abbrev pub goal_step : ℕ → List ℕ → ℕ → ℕ → ℕ → (ℕ → ℕ → Reading Goals) → Reading Goal
goal_step words ws vars at end goals =
    present at end (λ _.
    require (goal_kind (kind_at ws at)) 2 at (λ _.
    inside ws at end (λ _.
    goal_parts words ws vars (kind_at ws at) (at + 1) (after ws at) goals)))

abbrev pub goals_step : ℕ → ℕ → (ℕ → ℕ → Reading Goal) → (ℕ → ℕ → Reading Goals) → Reading Goals
goals_step at end goal goals =
    next (goal at end) (λ g n. choose (ltb n end) (λ _. next (goals n end) (λ gs m. found (more g gs) m)) (λ _. found (one g) n))

-- "The goals of a conjunction are read as a sequence, and each goal may hold such a sequence again."
unfoldable mutual
  pub read_goal : ℕ → List ℕ → ℕ → ℕ → ℕ → Reading Goal
  read_goal zero ws vars at end = refuse 3 end
  read_goal (suc words) ws vars at end = goal_step words ws vars at end (λ a e. read_goals words ws vars a e)

  pub read_goals : ℕ → List ℕ → ℕ → ℕ → ℕ → Reading Goals
  read_goals zero ws vars at end = refuse 3 end
  read_goals (suc words) ws vars at end = goals_step at end (λ a e. read_goal words ws vars a e) (λ a e. read_goals words ws vars a e)

-- "one goal" that fills its part
unfoldable pub read_body : ℕ → List ℕ → ℕ → ℕ → ℕ → Reading Goal
read_body words ws vars at end = fill (read_goal words ws vars at end) end

-- "number word (all variables), one goal", where 4 is "over 255 variables, or more parameters than variables: the variables word"
unfoldable pub read_variables : ℕ → List ℕ → ℕ → ℕ → ℕ → Reading Relation
read_variables words ws params at end =
    next (read_word 2 ws at end) (λ vars n.
    require (leb vars 255 && leb params vars) 4 at (λ _.
    next (read_body words ws vars n end) (λ g m. found (record { params = params; vars = vars; body = g }) m)))

-- "13: relation: number word (parameters), number word (all variables), one goal", after `before` other relations, where 6 is "a 257th relation"
unfoldable pub read_relation : ℕ → List ℕ → ℕ → ℕ → Reading Relation
read_relation words ws before at =
    require (eqb (kind_at ws at) 13) 2 at (λ _.
    inside ws at (length ws) (λ _.
    require (ltb before most_relations) 6 at (λ _.
    next (read_word 2 ws (at + 1) (after ws at)) (λ params n. read_variables words ws params n (after ws at)))))

-- "A program is relations 0, 1, 2 and so on"
unfoldable pub read_relations : ℕ → List ℕ → ℕ → ℕ → Reading Program
read_relations zero ws before at = refuse 3 at
read_relations (suc words) ws before at =
    choose (ltb at (length ws))
    (λ _. next (read_relation words ws before at) (λ R n. next (read_relations words ws (before + 1) n) (λ P m. found (R ∷ P) m)))
    (λ _. found [] at)

-- conditions 1 to 6: "word count outside the bounds" first
abbrev pub read_structure : List ℕ → Reading Program
read_structure ws =
    require (leb 1 (length ws) && leb (length ws) most_words) 1 0 (λ _. read_relations (2 * length ws + 4) ws 0 0)
