-- The starred runs of document 01, "Runs to reproduce", its run with 255 variables, and small runs for "Errors this trade has made", for the order of answers and lines, for the
-- branches cut in the last completed round, for the occurs check, for repeats, and for each bound of a path, as one list of rows.
use Rattle.std.specs.Prelude.{ℕ, zero, suc, List, [], ◌∷◌, ◌++◌, map, length}
use Rattle.word.specs.Word.{word}
use Rattle.rules.specs.Lists.{joined}
use Rattle.rules.specs.Written.{part}
use Rattle.semantics.specs.Steps as bound
use Rattle.semantics.specs.Round.{End, finished, rounds_used, steps_used, output_full, path_limit, Answer, Result}

-- a program's words, round limit, step limit, output length, and the result with a scratch that is long enough
pub record Row : Type 0 where
  pub words : List ℕ
  pub round_limit : ℕ
  pub step_limit : ℕ
  pub output : ℕ
  pub expected : Result

-- `13:5 2:1 2:1 5:2 0:0 1:7`
abbrev pub A : List ℕ
A = word 13 5 ∷ word 2 1 ∷ word 2 1 ∷ word 5 2 ∷ word 0 0 ∷ word 1 7 ∷ []

-- `13:7 2:1 2:1 5:4 0:0 4:1 0:0 3:0`
abbrev pub B : List ℕ
B = word 13 7 ∷ word 2 1 ∷ word 2 1 ∷ word 5 4 ∷ word 0 0 ∷ word 4 1 ∷ word 0 0 ∷ word 3 0 ∷ []

-- `13:5 2:1 2:1 12:2 2:1 0:0 13:9 2:1 2:1 11:6 12:2 2:1 0:0 5:2 0:0 2:5`
abbrev pub C : List ℕ
C = word 13 5 ∷ word 2 1 ∷ word 2 1 ∷ word 12 2 ∷ word 2 1 ∷ word 0 0 ∷ word 13 9 ∷ word 2 1 ∷ word 2 1 ∷ word 11 6 ∷ word 12 2 ∷ word 2 1 ∷ word 0 0 ∷ word 5 2 ∷ word 0 0 ∷ word 2 5 ∷ []

-- "query q with differ(q, 5)"
abbrev pub D : List ℕ
D = word 13 5 ∷ word 2 1 ∷ word 2 1 ∷ word 6 2 ∷ word 0 0 ∷ word 2 5 ∷ []

-- "symbolo and numbero of q"
abbrev pub E : List ℕ
E = word 13 7 ∷ word 2 1 ∷ word 2 1 ∷ word 10 4 ∷ word 7 1 ∷ word 0 0 ∷ word 8 1 ∷ word 0 0 ∷ []

-- "q equal to 1:7, differ(other variable, 5)"
abbrev pub F : List ℕ
F = word 13 9 ∷ word 2 1 ∷ word 2 2 ∷ word 10 6 ∷ word 5 2 ∷ word 0 0 ∷ word 1 7 ∷ word 6 2 ∷ word 0 1 ∷ word 2 5 ∷ []

-- "differ of the pairs (q, r) and (1, 2)"
abbrev pub G : List ℕ
G = word 13 9 ∷ word 2 2 ∷ word 2 2 ∷ word 6 6 ∷ word 4 1 ∷ word 0 0 ∷ word 0 1 ∷ word 4 1 ∷ word 2 1 ∷ word 2 2 ∷ []

-- "absento 7 in q, then q equal to a pair that holds 1:7", with any tag and any atom held: "a tag matches only its own kind" (document 02, Note 3)
abbrev pub H : ℕ → ℕ → List ℕ
H tag held = word 13 11 ∷ word 2 1 ∷ word 2 1 ∷ word 10 8 ∷ word 9 2 ∷ tag ∷ word 0 0 ∷ word 5 4 ∷ word 0 0 ∷ word 4 1 ∷ held ∷ word 3 0 ∷ []

-- "x symbolo and y numbero meet when x equals y": the query x and a variable y become equal to a third
abbrev pub I : List ℕ
I = word 13 13 ∷ word 2 1 ∷ word 2 3 ∷ word 10 10 ∷ word 7 1 ∷ word 0 0 ∷ word 8 1 ∷ word 0 1 ∷ word 5 2 ∷ word 0 0 ∷ word 0 2 ∷ word 5 2 ∷ word 0 1 ∷ word 0 2 ∷ []

-- "differ of two open variables"
abbrev pub J : List ℕ
J = word 13 5 ∷ word 2 2 ∷ word 2 2 ∷ word 6 2 ∷ word 0 0 ∷ word 0 1 ∷ []

-- G with r no query term: the disequality is dropped whole
abbrev pub K : List ℕ
K = word 13 9 ∷ word 2 1 ∷ word 2 2 ∷ word 6 6 ∷ word 4 1 ∷ word 0 0 ∷ word 0 1 ∷ word 4 1 ∷ word 2 1 ∷ word 2 2 ∷ []

-- absento of a tag in the pair of q and a variable that is no query term: absence is dropped for that variable only
abbrev pub L : ℕ → List ℕ
L tag = word 13 7 ∷ word 2 1 ∷ word 2 2 ∷ word 9 4 ∷ tag ∷ word 4 1 ∷ word 0 0 ∷ word 0 1 ∷ []

-- q equal to 1:1 or to 1:2: two answers in one round, the left alternative's first
abbrev pub M : List ℕ
M = word 13 9 ∷ word 2 1 ∷ word 2 1 ∷ word 11 6 ∷ word 5 2 ∷ word 0 0 ∷ word 1 1 ∷ word 5 2 ∷ word 0 0 ∷ word 1 2 ∷ []

-- numbero(r) and differ(q, 5) in a conjunction, then numbero(q): taken and listed in this order, not by kind, by variable, or the new goals last
abbrev pub N : List ℕ
N = word 13 11 ∷ word 2 2 ∷ word 2 2 ∷ word 10 8 ∷ word 10 5 ∷ word 8 1 ∷ word 0 1 ∷ word 6 2 ∷ word 0 0 ∷ word 2 5 ∷ word 8 1 ∷ word 0 0 ∷ []

-- numbero(q), differ(q, 5), numbero(y), then q equal to y: the third line has the words of the first and is dropped
abbrev pub O : List ℕ
O =
    word 13 13 ∷ word 2 1 ∷ word 2 2 ∷ word 10 10 ∷ word 8 1 ∷ word 0 0 ∷ word 6 2 ∷ word 0 0 ∷ word 2 5 ∷ word 8 1 ∷ word 0 1 ∷ word 5 2 ∷ word 0 0 ∷ word 0 1
    ∷ []

-- "Relation 0 with 255 variables, calling itself: 7 calls fit, round 8 ends at the variable limit."
abbrev pub P : List ℕ
P = word 13 4 ∷ word 2 0 ∷ word 2 255 ∷ word 12 1 ∷ word 2 0 ∷ []

-- a query with n variables calls a relation with 255 that calls itself: with 8 the eighth call just fits, with 9 it is one variable too many
abbrev pub Q : ℕ → List ℕ
Q n = word 13 4 ∷ word 2 0 ∷ word 2 n ∷ word 12 1 ∷ word 2 1 ∷ word 13 4 ∷ word 2 0 ∷ word 2 255 ∷ word 12 1 ∷ word 2 1 ∷ []

-- relation 0 without variables, with this goal
abbrev pub query : List ℕ → List ℕ
query goal = part 13 (word 2 0 ∷ word 2 0 ∷ goal)

-- the goal that calls it
abbrev pub again : List ℕ
again = word 12 1 ∷ word 2 0 ∷ []

-- a goal inside so many conjunctions of one goal each
abbrev pub conjunctions : ℕ → List ℕ → List ℕ
conjunctions zero goal = goal
conjunctions (suc n) goal = part 10 (conjunctions n goal)

-- relation 0 calls relation 1, which makes its parameter 1:7: round 0 cuts a branch, and round 1 none
abbrev pub one_call : List ℕ
one_call = part 13 (word 2 1 ∷ word 2 1 ∷ word 12 2 ∷ word 2 1 ∷ word 0 0 ∷ []) ++ part 13 (word 2 1 ∷ word 2 1 ∷ word 5 2 ∷ word 0 0 ∷ word 1 7 ∷ [])

-- relation 1 calls itself in two alternatives: rounds 0, 1, 2 and 3 cut 1, 2, 4 and 8 branches
abbrev pub doubling : List ℕ
doubling = query (word 12 1 ∷ word 2 1 ∷ []) ++ part 13 (word 2 0 ∷ word 2 0 ∷ part 11 (word 12 1 ∷ word 2 1 ∷ word 12 1 ∷ word 2 1 ∷ []))

-- the same with 255 variables: in round 9 the ninth call has no room for them
abbrev pub doubling_variables : List ℕ
doubling_variables = query (word 12 1 ∷ word 2 1 ∷ []) ++ part 13 (word 2 0 ∷ word 2 255 ∷ part 11 (word 12 1 ∷ word 2 1 ∷ word 12 1 ∷ word 2 1 ∷ []))

-- `doubling` with a third alternative, in which the relation's parameter is 5
abbrev pub doubling_five : List ℕ
doubling_five =
    part 13 (word 2 1 ∷ word 2 1 ∷ word 12 2 ∷ word 2 1 ∷ word 0 0 ∷ [])
    ++ part 13 (word 2 1 ∷ word 2 1 ∷ part 11 (word 12 2 ∷ word 2 1 ∷ word 0 0 ∷ word 12 2 ∷ word 2 1 ∷ word 0 0 ∷ word 5 2 ∷ word 0 0 ∷ word 2 5 ∷ []))

-- with each call 256 goals are put to wait, one at a step: the fourth call puts one too many
abbrev pub R : List ℕ
R = query (conjunctions 255 again)

-- a goal inside so many disjunctions, each time the first alternative; the second, symbolo of the empty list, fails
abbrev pub disjunctions : ℕ → List ℕ → List ℕ
disjunctions zero goal = goal
disjunctions (suc n) goal = part 11 (disjunctions n goal ++ (word 7 1 ∷ word 3 0 ∷ []))

-- with each call 64 disjunctions have an alternative left: after four calls the next is one too many
abbrev pub S : List ℕ
S = query (disjunctions 64 again)

-- so many constraints that hold, symbolo of 1:0, and then a goal
abbrev pub symbols : ℕ → List ℕ → List ℕ
symbols zero goal = goal
symbols (suc n) goal = word 7 1 ∷ word 1 0 ∷ symbols n goal

-- with each call 128 constraints: after four calls the next is one too many
abbrev pub T : List ℕ
T = query (part 10 (symbols 128 again))

-- the pair of a term and the empty list
abbrev pub with_empty : List ℕ → List ℕ
with_empty term = word 4 (length term) ∷ (term ++ (word 3 0 ∷ []))

-- a term inside so many of them, each time the first part
abbrev pub nested : ℕ → List ℕ → List ℕ
nested zero term = term
nested (suc n) term = with_empty (nested n term)

-- a relation, called with the empty list, has absento 7 in its parameter and calls itself with the parameter 128 pairs deeper: in the sixth call one node too many waits
abbrev pub W : List ℕ
W = query (word 12 2 ∷ word 2 1 ∷ word 3 0 ∷ []) ++ part 13 (word 2 1 ∷ word 2 1 ∷ part 10 (word 9 2 ∷ word 1 7 ∷ word 0 0 ∷ part 12 (word 2 1 ∷ nested 128 (word 0 0 ∷ []))))

-- an alternative for each of symbolo and numbero of a symbol and a number: those that hold
abbrev pub atoms_typed : List ℕ
atoms_typed =
    part 13 (word 2 1 ∷ word 2 1 ∷ part 11 (typed_as 7 (word 1 7) ++ (typed_as 7 (word 2 7) ++ (typed_as 8 (word 1 8) ++ typed_as 8 (word 2 8)))))
  where
    -- q equal to an atom, and of a type
    typed_as : ℕ → ℕ → List ℕ
    typed_as kind atom = part 10 (part 5 (word 0 0 ∷ atom ∷ []) ++ part kind (word 0 0 ∷ []))

-- q equal to the pair (x, y), absento 7 in q, differ of (x, y) and ((y, 1:1), 2:2): names by first appearance, absento by first occurrence, right sides through the path's bindings
abbrev pub in_order : List ℕ
in_order =
    word 13 20 ∷ word 2 1 ∷ word 2 3 ∷ word 10 17 ∷ word 5 4 ∷ word 0 0 ∷ word 4 1 ∷ word 0 1 ∷ word 0 2 ∷ word 9 2 ∷ word 1 7 ∷ word 0 0 ∷ word 6 8 ∷ word 4 1 ∷ word 0 1
    ∷ word 0 2 ∷ word 4 3 ∷ word 4 1 ∷ word 0 2 ∷ word 1 1 ∷ word 2 2 ∷ []

-- 1:1 equal to 1:2, and different from it
abbrev pub atoms_equal : List ℕ
atoms_equal = word 13 5 ∷ word 2 0 ∷ word 2 0 ∷ word 5 2 ∷ word 1 1 ∷ word 1 2 ∷ []

abbrev pub atoms_differ : List ℕ
atoms_differ = word 13 5 ∷ word 2 0 ∷ word 2 0 ∷ word 6 2 ∷ word 1 1 ∷ word 1 2 ∷ []

-- symbolo(q), then q equal to q: nothing is bound, so nothing is reviewed again
abbrev pub bound_nothing : List ℕ
bound_nothing = word 13 8 ∷ word 2 1 ∷ word 2 1 ∷ word 10 5 ∷ word 7 1 ∷ word 0 0 ∷ word 5 2 ∷ word 0 0 ∷ word 0 0 ∷ []

-- The occurs check of document 02, Note 10: variables that are bound to the pair of two empty lists, and then met again.

-- a relation without parameters, with so many variables and a conjunction
abbrev pub conjoined : ℕ → List ℕ → List ℕ
conjoined vars goals = part 13 (word 2 0 ∷ word 2 vars ∷ part 10 goals)

-- the variable x equal to the pair
abbrev pub is_pair : ℕ → List ℕ
is_pair x = part 5 (word 0 x ∷ with_empty (word 3 0 ∷ []))

-- then y equal to (x, x), or different from it: a second arrival is one step and nothing below it is looked at, in a trial too
abbrev pub met_twice : ℕ → List ℕ
met_twice kind = conjoined 2 (is_pair 0 ++ part kind (word 0 1 ∷ word 4 1 ∷ word 0 0 ∷ word 0 0 ∷ []))

-- with x and y bound to one pair, z equal to (x, y): the mark is on the variable, not on the value
abbrev pub one_value : List ℕ
one_value = conjoined 3 (is_pair 0 ++ (part 5 (word 0 1 ∷ word 0 0 ∷ []) ++ part 5 (word 0 2 ∷ word 4 1 ∷ word 0 0 ∷ word 0 1 ∷ [])))

-- one variable for two parameters: a parameter leads on through its argument
abbrev pub two_parameters : List ℕ
two_parameters =
    conjoined 1 (is_pair 0 ++ part 12 (word 2 1 ∷ word 0 0 ∷ word 0 0 ∷ []))
    ++ part 13 (word 2 2 ∷ word 2 3 ∷ part 5 (word 0 2 ∷ word 4 1 ∷ word 0 0 ∷ word 0 1 ∷ []))

-- with z equal to (y, nil), (x, y) equal to (z', z') for z' = (z, nil): what the check of x entered, that of y enters anew, and finds y in it
abbrev pub two_checks : List ℕ
two_checks =
    conjoined 3 (part 5 (word 0 2 ∷ with_empty (word 0 1 ∷ [])) ++ part 5 (word 4 1 ∷ word 0 0 ∷ word 0 1 ∷ (part 4 (with_empty (word 0 2 ∷ [])) ++ with_empty (word 0 2 ∷ []))))

-- x, y and z in a chain, the last bound to the pair, and a term with the first two: the mark is on the last variable of a way
abbrev pub two_ways : List ℕ
two_ways = conjoined 4 (part 5 (word 0 0 ∷ word 0 1 ∷ []) ++ (part 5 (word 0 1 ∷ word 0 2 ∷ []) ++ (is_pair 2 ++ part 5 (word 0 3 ∷ word 4 1 ∷ word 0 0 ∷ word 0 1 ∷ []))))

-- y equal to (x, (x, y)): y is found behind the second arrival
abbrev pub found_behind : List ℕ
found_behind = conjoined 2 (is_pair 0 ++ part 5 (word 0 1 ∷ word 4 1 ∷ word 0 0 ∷ word 4 1 ∷ word 0 0 ∷ word 0 1 ∷ []))

-- each call doubles its parameter, and has an alternative with an occurs check of it, which fails: with old checks the 12 rounds took 33,115 steps
abbrev pub doubled : List ℕ
doubled =
    part 13 (word 2 0 ∷ word 2 0 ∷ part 12 (word 2 1 ∷ with_empty (word 3 0 ∷ [])))
    ++ part 13 (word 2 1 ∷ word 2 2 ∷ part 11 (part 5 (word 0 1 ∷ word 4 1 ∷ word 0 0 ∷ word 0 1 ∷ []) ++ part 12 (word 2 1 ∷ word 4 1 ∷ word 0 0 ∷ word 0 0 ∷ [])))

-- absento in (x, x), and (x, x) for a query term: these looks enter x each time
abbrev pub absence_twice : List ℕ
absence_twice = conjoined 1 (is_pair 0 ++ part 9 (word 1 7 ∷ word 4 1 ∷ word 0 0 ∷ word 0 0 ∷ []))

abbrev pub query_twice : List ℕ
query_twice = part 13 (word 2 1 ∷ word 2 2 ∷ part 10 (is_pair 1 ++ part 5 (word 0 0 ∷ word 4 1 ∷ word 0 1 ∷ word 0 1 ∷ [])))

-- the answer to a query without terms
abbrev pub yes : List ℕ
yes = word 15 0 ∷ []

-- Document 02, Note 2: q equal to one of these atoms, one alternative for each
abbrev pub either : List ℕ → List ℕ
either atoms = part 13 (word 2 1 ∷ word 2 1 ∷ part 11 (joined (map (λ (w : ℕ). word 5 2 ∷ word 0 0 ∷ w ∷ []) atoms)))

-- relation 1 makes its parameter 5, or calls itself, or makes it 6: round 2 gives both answers of round 1 again
abbrev pub five_or_six : List ℕ
five_or_six =
    part 13 (word 2 1 ∷ word 2 1 ∷ word 12 2 ∷ word 2 1 ∷ word 0 0 ∷ [])
    ++ part 13 (word 2 1 ∷ word 2 1 ∷ part 11 (word 5 2 ∷ word 0 0 ∷ word 2 5 ∷ word 12 2 ∷ word 2 1 ∷ word 0 0 ∷ word 5 2 ∷ word 0 0 ∷ word 2 6 ∷ []))

-- two alternatives that hold, of a query without parameters: the answer's words are its header alone
abbrev pub holds_twice : List ℕ
holds_twice = query (part 11 (word 5 2 ∷ word 3 0 ∷ word 3 0 ∷ word 5 2 ∷ word 3 0 ∷ word 3 0 ∷ []))

-- symbolo(q), numbero(q) or symbolo(q): the first two answers differ in a constraint
abbrev pub sorts : List ℕ
sorts = part 13 (word 2 1 ∷ word 2 1 ∷ part 11 (word 7 1 ∷ word 0 0 ∷ word 8 1 ∷ word 0 0 ∷ word 7 1 ∷ word 0 0 ∷ []))

-- `15:1 1:7`
abbrev pub seven : List ℕ
seven = word 15 1 ∷ word 1 7 ∷ []

-- `15:1 2:5`
abbrev pub five : List ℕ
five = word 15 1 ∷ word 2 5 ∷ []

-- a row in one line
abbrev pub row : List ℕ → ℕ → ℕ → ℕ → End → ℕ → ℕ → List Answer → ℕ → Row
row words round_limit step_limit output end round steps answers cut =
    record { words = words; round_limit = round_limit; step_limit = step_limit; output = output; expected = record { end = end; round = round; steps = steps; answers = answers; cut = cut } }

-- each with its round limit, step limit and output length: the listing program's, but for what the run says; then the end, the round, the steps, the answers and the branches cut
abbrev pub rows : List Row
rows =
    row A 16 1000000 4096 finished 0 4 ((0, seven) ∷ []) 0
    ∷ row A 16 3 4096 steps_used 0 3 [] 0
    ∷ row A 16 1000000 1 output_full 0 4 [] 0
    ∷ row A 16 1000000 2 finished 0 4 ((0, seven) ∷ []) 0
    ∷ row B 16 1000000 4096 finished 0 4 [] 0
    ∷ row C 2 1000000 4096 rounds_used 2 20 ((1, five) ∷ []) 1
    ∷ row C 0 1000000 4096 rounds_used 0 1 [] 1
    ∷ row D 16 1000000 4096 finished 0 8 ((0, word 15 4 ∷ word 0 0 ∷ word 6 2 ∷ word 0 0 ∷ word 2 5 ∷ []) ∷ []) 0
    ∷ row E 16 1000000 4096 finished 0 5 [] 0
    ∷ row F 16 1000000 4096 finished 0 12 ((0, seven) ∷ []) 0
    ∷ row G 16 1000000 4096 finished 0 16 ((0, word 15 9 ∷ word 0 0 ∷ word 0 1 ∷ word 11 6 ∷ word 6 2 ∷ word 0 0 ∷ word 2 1 ∷ word 6 2 ∷ word 0 1 ∷ word 2 2 ∷ []) ∷ []) 0
    ∷ row (H (word 1 7) (word 1 7)) 16 1000000 4096 finished 0 12 [] 0
    ∷ row (H (word 2 7) (word 2 7)) 16 1000000 4096 finished 0 12 [] 0
    ∷ row (H (word 2 7) (word 2 8)) 16 1000000 4096 finished 0 19 ((0, word 15 3 ∷ word 4 1 ∷ word 2 8 ∷ word 3 0 ∷ []) ∷ []) 0
    ∷ row (H (word 2 7) (word 1 7)) 16 1000000 4096 finished 0 19 ((0, word 15 3 ∷ word 4 1 ∷ word 1 7 ∷ word 3 0 ∷ []) ∷ []) 0
    ∷ row (H (word 1 7) (word 2 7)) 16 1000000 4096 finished 0 19 ((0, word 15 3 ∷ word 4 1 ∷ word 2 7 ∷ word 3 0 ∷ []) ∷ []) 0
    ∷ row I 16 1000000 4096 finished 0 14 [] 0
    ∷ row J 16 1000000 4096 finished 0 9 ((0, word 15 5 ∷ word 0 0 ∷ word 0 1 ∷ word 6 2 ∷ word 0 0 ∷ word 0 1 ∷ []) ∷ []) 0
    ∷ row K 16 1000000 4096 finished 0 15 ((0, word 15 1 ∷ word 0 0 ∷ []) ∷ []) 0
    ∷ row (L (word 1 7)) 16 1000000 4096 finished 0 9 ((0, word 15 4 ∷ word 0 0 ∷ word 9 2 ∷ word 1 7 ∷ word 0 0 ∷ []) ∷ []) 0
    ∷ row (L (word 2 7)) 16 1000000 4096 finished 0 9 ((0, word 15 4 ∷ word 0 0 ∷ word 9 2 ∷ word 2 7 ∷ word 0 0 ∷ []) ∷ []) 0
    ∷ row M 16 1000000 4096 finished 0 9 ((0, word 15 1 ∷ word 1 1 ∷ []) ∷ (0, word 15 1 ∷ word 1 2 ∷ []) ∷ []) 0
    ∷ row M 16 1000000 3 output_full 0 9 ((0, word 15 1 ∷ word 1 1 ∷ []) ∷ []) 0
    ∷ row M 16 8 4096 steps_used 0 8 ((0, word 15 1 ∷ word 1 1 ∷ []) ∷ []) 0
    ∷ row N 16 1000000 4096 finished 0 17 ((0, word 15 9 ∷ word 0 0 ∷ word 0 1 ∷ word 8 1 ∷ word 0 1 ∷ word 6 2 ∷ word 0 0 ∷ word 2 5 ∷ word 8 1 ∷ word 0 0 ∷ []) ∷ []) 0
    ∷ row O 16 1000000 4096 finished 0 23 ((0, word 15 6 ∷ word 0 0 ∷ word 8 1 ∷ word 0 0 ∷ word 6 2 ∷ word 0 0 ∷ word 2 5 ∷ []) ∷ []) 0
    ∷ row atoms_typed 16 1000000 4096 finished 0 29 ((0, seven) ∷ (0, word 15 1 ∷ word 2 8 ∷ []) ∷ []) 0
    ∷ row in_order 16 1000000 4096 finished 0 37 ((0, word 15 18 ∷ word 4 1 ∷ word 0 0 ∷ word 0 1 ∷ word 9 2 ∷ word 1 7 ∷ word 0 0 ∷ word 9 2 ∷ word 1 7 ∷ word 0 1 ∷ word 11 8 ∷ word 6 4 ∷ word 0 0 ∷ word 4 1 ∷ word 0 1 ∷ word 1 1 ∷ word 6 2 ∷ word 0 1 ∷ word 2 2 ∷ []) ∷ []) 0
    ∷ row atoms_equal 16 1000000 4096 finished 0 2 [] 0
    ∷ row atoms_differ 16 1000000 4096 finished 0 4 ((0, yes) ∷ []) 0
    ∷ row bound_nothing 16 1000000 4096 finished 0 7 ((0, word 15 3 ∷ word 0 0 ∷ word 7 1 ∷ word 0 0 ∷ []) ∷ []) 0
    ∷ row (query again) 2 1 9 steps_used 1 1 [] 1
    ∷ row one_call 16 1000000 4096 finished 1 6 ((1, seven) ∷ []) 0
    ∷ row doubling 3 1000000 4096 rounds_used 3 37 [] 8
    ∷ row doubling 16 25 4096 steps_used 3 25 [] 4
    ∷ row doubling_variables 16 1000000 4096 (path_limit bound.variables) 9 1531 [] 256
    ∷ row doubling_five 16 1000000 3 output_full 2 19 ((1, five) ∷ []) 2
    ∷ row (either (word 2 5 ∷ word 2 5 ∷ [])) 16 1000000 4096 finished 0 9 ((0, five) ∷ []) 0
    ∷ row (either (word 2 5 ∷ word 2 5 ∷ [])) 16 1000000 4 finished 0 9 ((0, five) ∷ []) 0
    ∷ row (either (word 2 5 ∷ word 2 5 ∷ [])) 16 1000000 3 output_full 0 9 ((0, five) ∷ []) 0
    ∷ row (either (word 1 1 ∷ word 1 2 ∷ word 1 3 ∷ word 1 1 ∷ word 1 2 ∷ [])) 16 1000000 4096 finished 0 21 ((0, word 15 1 ∷ word 1 1 ∷ []) ∷ (0, word 15 1 ∷ word 1 2 ∷ []) ∷ (0, word 15 1 ∷ word 1 3 ∷ []) ∷ []) 0
    ∷ row five_or_six 2 1000000 4096 rounds_used 2 31 ((1, five) ∷ (1, word 15 1 ∷ word 2 6 ∷ []) ∷ []) 1
    ∷ row holds_twice 0 9 1 output_full 0 5 ((0, yes) ∷ []) 0
    ∷ row holds_twice 0 9 2 finished 0 5 ((0, yes) ∷ []) 0
    ∷ row sorts 16 1000000 4096 finished 0 13 ((0, word 15 3 ∷ word 0 0 ∷ word 7 1 ∷ word 0 0 ∷ []) ∷ (0, word 15 3 ∷ word 0 0 ∷ word 8 1 ∷ word 0 0 ∷ []) ∷ []) 0
    ∷ row (met_twice 5) 16 1000000 4096 finished 0 13 ((0, yes) ∷ []) 0
    ∷ row (met_twice 5) 16 12 4096 steps_used 0 12 [] 0
    ∷ row (met_twice 6) 16 1000000 4096 finished 0 27 ((0, yes) ∷ []) 0
    ∷ row one_value 16 1000000 4096 finished 0 20 ((0, yes) ∷ []) 0
    ∷ row two_parameters 16 1000000 4096 finished 1 21 ((1, yes) ∷ []) 0
    ∷ row two_checks 16 1000000 4096 finished 0 18 [] 0
    ∷ row two_ways 16 1000000 4096 finished 0 19 ((0, yes) ∷ []) 0
    ∷ row found_behind 16 1000000 4096 finished 0 15 [] 0
    ∷ row doubled 12 1000000 4096 rounds_used 12 1287 [] 1
    ∷ row absence_twice 16 1000000 4096 finished 0 22 ((0, yes) ∷ []) 0
    ∷ row query_twice 16 1000000 4096 finished 0 20 ((0, word 15 7 ∷ word 4 3 ∷ word 4 1 ∷ word 3 0 ∷ word 3 0 ∷ word 4 1 ∷ word 3 0 ∷ word 3 0 ∷ []) ∷ []) 0
    ∷ row P 16 1000000 4096 (path_limit bound.variables) 8 43 [] 1
    ∷ row (Q 8) 16 1000000 4096 (path_limit bound.variables) 9 53 [] 1
    ∷ row (Q 9) 16 1000000 4096 (path_limit bound.variables) 8 43 [] 1
    ∷ row R 16 1000000 4096 (path_limit bound.goals) 4 3583 [] 1
    ∷ row S 16 1000000 4096 (path_limit bound.disjunctions) 4 2190 [] 1
    ∷ row T 16 1000000 4096 (path_limit bound.constraints) 4 3613 [] 1
    ∷ row W 16 1000000 4096 (path_limit bound.waiting) 6 8302 [] 1
    ∷ []
