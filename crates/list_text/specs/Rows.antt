-- The text of each end and of a refusal, and document 01's list for case A as document 02, Note 7, amends it, byte for byte, as one list of rows.
use Rattle.std.specs.Prelude.{ℕ, List, [], ◌∷◌}
use Rattle.word.specs.Word.{word}
use Rattle.semantics.specs.Round as round
use Rattle.semantics.specs.Run as run
use Rattle.semantics.specs.Steps as steps
use Rattle.list_text.specs.Listing.{listing_text, printed_text, report_text}

-- a text by the definition, and its bytes
pub record Row : Type 0 where
  pub text : List ℕ
  pub bytes : List ℕ

-- the text of a run that ended so, with these answers
abbrev pub ended_text : round.End → ℕ → ℕ → List round.Answer → ℕ → List ℕ
ended_text end round steps answers cut = report_text (run.ran (record { end = end; round = round; steps = steps; answers = answers; cut = cut }))

-- case A, `13:5 2:1 2:1 5:2 0:0 1:7`, as bytes
abbrev pub A : List ℕ
A = 5 ∷ 0 ∷ 0 ∷ 208 ∷ 1 ∷ 0 ∷ 0 ∷ 32 ∷ 1 ∷ 0 ∷ 0 ∷ 32 ∷ 2 ∷ 0 ∷ 0 ∷ 80 ∷ 0 ∷ 0 ∷ 0 ∷ 0 ∷ 7 ∷ 0 ∷ 0 ∷ 16 ∷ []

abbrev pub rows : List Row
rows =
    -- `end finished round 0 steps 4 answers 0 cut 0`
    record { text = ended_text round.finished 0 4 [] 0; bytes = 101 ∷ 110 ∷ 100 ∷ 32 ∷ 102 ∷ 105 ∷ 110 ∷ 105 ∷ 115 ∷ 104 ∷ 101 ∷ 100 ∷ 32 ∷ 114 ∷ 111 ∷ 117 ∷ 110 ∷ 100 ∷ 32 ∷ 48 ∷ 32 ∷ 115 ∷ 116 ∷ 101 ∷ 112 ∷ 115 ∷ 32 ∷ 52 ∷ 32 ∷ 97 ∷ 110 ∷ 115 ∷ 119 ∷ 101 ∷ 114 ∷ 115 ∷ 32 ∷ 48 ∷ 32 ∷ 99 ∷ 117 ∷ 116 ∷ 32 ∷ 48 ∷ 10 ∷ [] } ∷
    -- `end rounds round 16 steps 1218 answers 2 cut 3` / `15:1 2:5` / `15:4 0:0 6:2 0:0 2:268435455`
    record { text = ended_text round.rounds_used 16 1218 ((3, word 15 1 ∷ word 2 5 ∷ []) ∷ (16, word 15 4 ∷ word 0 0 ∷ word 6 2 ∷ word 0 0 ∷ word 2 268435455 ∷ []) ∷ []) 3; bytes = 101 ∷ 110 ∷ 100 ∷ 32 ∷ 114 ∷ 111 ∷ 117 ∷ 110 ∷ 100 ∷ 115 ∷ 32 ∷ 114 ∷ 111 ∷ 117 ∷ 110 ∷ 100 ∷ 32 ∷ 49 ∷ 54 ∷ 32 ∷ 115 ∷ 116 ∷ 101 ∷ 112 ∷ 115 ∷ 32 ∷ 49 ∷ 50 ∷ 49 ∷ 56 ∷ 32 ∷ 97 ∷ 110 ∷ 115 ∷ 119 ∷ 101 ∷ 114 ∷ 115 ∷ 32 ∷ 50 ∷ 32 ∷ 99 ∷ 117 ∷ 116 ∷ 32 ∷ 51 ∷ 10 ∷ 49 ∷ 53 ∷ 58 ∷ 49 ∷ 32 ∷ 50 ∷ 58 ∷ 53 ∷ 10 ∷ 49 ∷ 53 ∷ 58 ∷ 52 ∷ 32 ∷ 48 ∷ 58 ∷ 48 ∷ 32 ∷ 54 ∷ 58 ∷ 50 ∷ 32 ∷ 48 ∷ 58 ∷ 48 ∷ 32 ∷ 50 ∷ 58 ∷ 50 ∷ 54 ∷ 56 ∷ 52 ∷ 51 ∷ 53 ∷ 52 ∷ 53 ∷ 53 ∷ 10 ∷ [] } ∷
    -- `end steps round 10 steps 1000000 answers 0 cut 12`
    record { text = ended_text round.steps_used 10 1000000 [] 12; bytes = 101 ∷ 110 ∷ 100 ∷ 32 ∷ 115 ∷ 116 ∷ 101 ∷ 112 ∷ 115 ∷ 32 ∷ 114 ∷ 111 ∷ 117 ∷ 110 ∷ 100 ∷ 32 ∷ 49 ∷ 48 ∷ 32 ∷ 115 ∷ 116 ∷ 101 ∷ 112 ∷ 115 ∷ 32 ∷ 49 ∷ 48 ∷ 48 ∷ 48 ∷ 48 ∷ 48 ∷ 48 ∷ 32 ∷ 97 ∷ 110 ∷ 115 ∷ 119 ∷ 101 ∷ 114 ∷ 115 ∷ 32 ∷ 48 ∷ 32 ∷ 99 ∷ 117 ∷ 116 ∷ 32 ∷ 49 ∷ 50 ∷ 10 ∷ [] } ∷
    -- `end output round 255 steps 4294967295 answers 0 cut 4294967295`
    record { text = ended_text round.output_full 255 4294967295 [] 4294967295; bytes = 101 ∷ 110 ∷ 100 ∷ 32 ∷ 111 ∷ 117 ∷ 116 ∷ 112 ∷ 117 ∷ 116 ∷ 32 ∷ 114 ∷ 111 ∷ 117 ∷ 110 ∷ 100 ∷ 32 ∷ 50 ∷ 53 ∷ 53 ∷ 32 ∷ 115 ∷ 116 ∷ 101 ∷ 112 ∷ 115 ∷ 32 ∷ 52 ∷ 50 ∷ 57 ∷ 52 ∷ 57 ∷ 54 ∷ 55 ∷ 50 ∷ 57 ∷ 53 ∷ 32 ∷ 97 ∷ 110 ∷ 115 ∷ 119 ∷ 101 ∷ 114 ∷ 115 ∷ 32 ∷ 48 ∷ 32 ∷ 99 ∷ 117 ∷ 116 ∷ 32 ∷ 52 ∷ 50 ∷ 57 ∷ 52 ∷ 57 ∷ 54 ∷ 55 ∷ 50 ∷ 57 ∷ 53 ∷ 10 ∷ [] } ∷
    -- `end path 1 round 7 steps 99 answers 0 cut 5`
    record { text = ended_text (round.path_limit steps.variables) 7 99 [] 5; bytes = 101 ∷ 110 ∷ 100 ∷ 32 ∷ 112 ∷ 97 ∷ 116 ∷ 104 ∷ 32 ∷ 49 ∷ 32 ∷ 114 ∷ 111 ∷ 117 ∷ 110 ∷ 100 ∷ 32 ∷ 55 ∷ 32 ∷ 115 ∷ 116 ∷ 101 ∷ 112 ∷ 115 ∷ 32 ∷ 57 ∷ 57 ∷ 32 ∷ 97 ∷ 110 ∷ 115 ∷ 119 ∷ 101 ∷ 114 ∷ 115 ∷ 32 ∷ 48 ∷ 32 ∷ 99 ∷ 117 ∷ 116 ∷ 32 ∷ 53 ∷ 10 ∷ [] } ∷
    -- `end path 2 round 7 steps 99 answers 0 cut 5`
    record { text = ended_text (round.path_limit steps.goals) 7 99 [] 5; bytes = 101 ∷ 110 ∷ 100 ∷ 32 ∷ 112 ∷ 97 ∷ 116 ∷ 104 ∷ 32 ∷ 50 ∷ 32 ∷ 114 ∷ 111 ∷ 117 ∷ 110 ∷ 100 ∷ 32 ∷ 55 ∷ 32 ∷ 115 ∷ 116 ∷ 101 ∷ 112 ∷ 115 ∷ 32 ∷ 57 ∷ 57 ∷ 32 ∷ 97 ∷ 110 ∷ 115 ∷ 119 ∷ 101 ∷ 114 ∷ 115 ∷ 32 ∷ 48 ∷ 32 ∷ 99 ∷ 117 ∷ 116 ∷ 32 ∷ 53 ∷ 10 ∷ [] } ∷
    -- `end path 3 round 7 steps 99 answers 0 cut 5`
    record { text = ended_text (round.path_limit steps.disjunctions) 7 99 [] 5; bytes = 101 ∷ 110 ∷ 100 ∷ 32 ∷ 112 ∷ 97 ∷ 116 ∷ 104 ∷ 32 ∷ 51 ∷ 32 ∷ 114 ∷ 111 ∷ 117 ∷ 110 ∷ 100 ∷ 32 ∷ 55 ∷ 32 ∷ 115 ∷ 116 ∷ 101 ∷ 112 ∷ 115 ∷ 32 ∷ 57 ∷ 57 ∷ 32 ∷ 97 ∷ 110 ∷ 115 ∷ 119 ∷ 101 ∷ 114 ∷ 115 ∷ 32 ∷ 48 ∷ 32 ∷ 99 ∷ 117 ∷ 116 ∷ 32 ∷ 53 ∷ 10 ∷ [] } ∷
    -- `end path 4 round 7 steps 99 answers 0 cut 5`
    record { text = ended_text (round.path_limit steps.constraints) 7 99 [] 5; bytes = 101 ∷ 110 ∷ 100 ∷ 32 ∷ 112 ∷ 97 ∷ 116 ∷ 104 ∷ 32 ∷ 52 ∷ 32 ∷ 114 ∷ 111 ∷ 117 ∷ 110 ∷ 100 ∷ 32 ∷ 55 ∷ 32 ∷ 115 ∷ 116 ∷ 101 ∷ 112 ∷ 115 ∷ 32 ∷ 57 ∷ 57 ∷ 32 ∷ 97 ∷ 110 ∷ 115 ∷ 119 ∷ 101 ∷ 114 ∷ 115 ∷ 32 ∷ 48 ∷ 32 ∷ 99 ∷ 117 ∷ 116 ∷ 32 ∷ 53 ∷ 10 ∷ [] } ∷
    -- `end path 5 round 7 steps 99 answers 0 cut 5`
    record { text = ended_text (round.path_limit steps.waiting) 7 99 [] 5; bytes = 101 ∷ 110 ∷ 100 ∷ 32 ∷ 112 ∷ 97 ∷ 116 ∷ 104 ∷ 32 ∷ 53 ∷ 32 ∷ 114 ∷ 111 ∷ 117 ∷ 110 ∷ 100 ∷ 32 ∷ 55 ∷ 32 ∷ 115 ∷ 116 ∷ 101 ∷ 112 ∷ 115 ∷ 32 ∷ 57 ∷ 57 ∷ 32 ∷ 97 ∷ 110 ∷ 115 ∷ 119 ∷ 101 ∷ 114 ∷ 115 ∷ 32 ∷ 48 ∷ 32 ∷ 99 ∷ 117 ∷ 116 ∷ 32 ∷ 53 ∷ 10 ∷ [] } ∷
    -- `refused 6 at 1536`
    record { text = report_text (run.refusal 6 1536); bytes = 114 ∷ 101 ∷ 102 ∷ 117 ∷ 115 ∷ 101 ∷ 100 ∷ 32 ∷ 54 ∷ 32 ∷ 97 ∷ 116 ∷ 32 ∷ 49 ∷ 53 ∷ 51 ∷ 54 ∷ 10 ∷ [] } ∷
    -- `end finished round 0 steps 4 answers 1 cut 0` / `15:1 1:7`
    record { text = printed_text A; bytes = 101 ∷ 110 ∷ 100 ∷ 32 ∷ 102 ∷ 105 ∷ 110 ∷ 105 ∷ 115 ∷ 104 ∷ 101 ∷ 100 ∷ 32 ∷ 114 ∷ 111 ∷ 117 ∷ 110 ∷ 100 ∷ 32 ∷ 48 ∷ 32 ∷ 115 ∷ 116 ∷ 101 ∷ 112 ∷ 115 ∷ 32 ∷ 52 ∷ 32 ∷ 97 ∷ 110 ∷ 115 ∷ 119 ∷ 101 ∷ 114 ∷ 115 ∷ 32 ∷ 49 ∷ 32 ∷ 99 ∷ 117 ∷ 116 ∷ 32 ∷ 48 ∷ 10 ∷ 49 ∷ 53 ∷ 58 ∷ 49 ∷ 32 ∷ 49 ∷ 58 ∷ 55 ∷ 10 ∷ [] } ∷
    -- `refused 1 at 0`
    record { text = printed_text (5 ∷ A); bytes = 114 ∷ 101 ∷ 102 ∷ 117 ∷ 115 ∷ 101 ∷ 100 ∷ 32 ∷ 49 ∷ 32 ∷ 97 ∷ 116 ∷ 32 ∷ 48 ∷ 10 ∷ [] } ∷
    -- `refused 9 at 0`
    record { text = listing_text A 256 1000000 4096; bytes = 114 ∷ 101 ∷ 102 ∷ 117 ∷ 115 ∷ 101 ∷ 100 ∷ 32 ∷ 57 ∷ 32 ∷ 97 ∷ 116 ∷ 32 ∷ 48 ∷ 10 ∷ [] } ∷
    []
