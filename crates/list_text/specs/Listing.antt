-- What the listing program prints, after document 01, "The listing program": the text of a file of bytes, as the codes of its characters.
use Rattle.std.specs.Prelude.{ℕ, zero, suc, ◌+◌, ◌/◌, ◌%◌, ◌≤◌, min, ◌≡◌, List, [], ◌∷◌, ◌++◌, map, eqb, ltb, length, take, drop, replicate}
use Prim.Native.Char.{code}
use Prim.Native.String.{String, [] as ε, ◌∷◌ as ◌and◌}
use Rattle.word.specs.Word.{from_bytes, kind, payload}
use Rattle.rules.specs.Lists.{joined}
use Rattle.rules.specs.Reading.{choose}
use Rattle.semantics.specs.Round as round
use Rattle.semantics.specs.Run as run
use Rattle.semantics.specs.Steps.{bound_number}
use Rattle.engine.specs.Report.{Ended, ran, refused, report_ended}
use Rattle.rules.specs.Settings.{scratch_words}

-- a text's codes
abbrev pub codes : String → List ℕ
codes ε = []
codes (c and cs) = code c ∷ codes cs

-- the code of a digit
abbrev pub digit : ℕ → ℕ
digit d = 48 + d

-- n in decimal, without leading zeros; the first number bounds how many digits are before the last, and n is more than enough
unfoldable pub decimal_by : ℕ → ℕ → List ℕ
decimal_by zero n = digit n ∷ []
decimal_by (suc more) n = choose (ltb n 10) (λ _. digit n ∷ []) (λ _. decimal_by more (n / 10) ++ (digit (n % 10) ∷ []))

abbrev pub decimal : ℕ → List ℕ
decimal n = decimal_by n n

-- "words from standard input, four bytes each"; bytes left over, fewer than four, make no word
unfoldable pub whole_words : List ℕ → List ℕ
whole_words [] = []
whole_words (a ∷ []) = []
whole_words (a ∷ b ∷ []) = []
whole_words (a ∷ b ∷ c ∷ []) = []
whole_words (a ∷ b ∷ c ∷ d ∷ later) = from_bytes a b c d ∷ whole_words later

-- "a byte count not a multiple of four" is refused as no words are
abbrev pub words_of : List ℕ → List ℕ
words_of bytes = choose (eqb (length bytes % 4) 0) (λ _. whole_words bytes) (λ _. [])

-- "k:p means kind k with payload p, both decimal"
abbrev pub word_text : ℕ → List ℕ
word_text w = decimal (kind w) ++ (codes ":" ++ decimal (payload w))

-- an answer's words behind its first, and the line's end
abbrev pub line_behind : List ℕ → List ℕ
line_behind [] = codes "\n"
line_behind (w ∷ ws) = codes " " ++ (word_text w ++ line_behind ws)

-- "Each answer has a line"
abbrev pub line : List ℕ → List ℕ
line [] = codes "\n"
line (w ∷ ws) = word_text w ++ line_behind ws

-- "The other ends read `rounds`, `steps`, `output`, and `path 1` to `path 5` as Bounds lists them"
abbrev pub end_name : round.End → List ℕ
end_name round.finished = codes "finished"
end_name round.rounds_used = codes "rounds"
end_name round.steps_used = codes "steps"
end_name round.output_full = codes "output"
end_name (round.path_limit b) = codes "path " ++ decimal (bound_number b)

-- what is behind an end's name; document 02, Note 7: "The listing's first line gains ` cut N` at its end"
abbrev pub counts_text : ℕ → ℕ → ℕ → ℕ → List ℕ
counts_text r s a c = joined ((codes " round " ++ decimal r) ∷ (codes " steps " ++ decimal s) ∷ (codes " answers " ++ decimal a) ∷ (codes " cut " ++ decimal c) ∷ codes "\n" ∷ [])

-- the first line, with round, steps, how many answers, and how many branches were cut; "a refusal prints `refused N at P` alone"
abbrev pub first_line : Ended → ℕ → ℕ → ℕ → ℕ → List ℕ
first_line (ran e) r s a c = codes "end " ++ (end_name e ++ counts_text r s a c)
first_line (refused number place) r s a c = joined (codes "refused " ∷ decimal number ∷ codes " at " ∷ decimal place ∷ codes "\n" ∷ [])

-- the answers of the result
abbrev pub report_answers : run.Report → List (List ℕ)
report_answers (run.refusal number place) = []
report_answers (run.ran r) = round.words_of r.answers

-- the text of what a run returns
abbrev pub report_text : run.Report → List ℕ
report_text x = first_line (report_ended x) (run.counts x).round (run.counts x).steps (run.counts x).answers (run.counts x).cut ++ joined (map line (report_answers x))

-- the text of a file: of the run of its words with these limits, so many output words, but at most 4,096, and the shortest scratch that is taken
abbrev pub listing_text : List ℕ → ℕ → ℕ → ℕ → List ℕ
listing_text bytes rounds steps room = report_text (run.run_as_written (words_of bytes) rounds steps (replicate (min room 4096) 0) (replicate scratch_words 0)).report

-- "with round limit 16, step limit 1,000,000 and 4,096 output words": what the listing program prints of the bytes that it has read
abbrev pub printed_text : List ℕ → List ℕ
printed_text bytes = listing_text bytes 16 1000000 4096

-- The promise of `text` and `printed_text`: how long the text is, and the text at the start of the lent bytes, as far as they reach, with what is behind it as lent.
pub record TextAs (text out : List ℕ) (count : ℕ) (after : List ℕ) : Type 0 where
  pub is_long : count ≡ length text
  pub is_there : after ≡ take (length out) text ++ drop (length text) out
  pub is_short : count ≤ 65536
