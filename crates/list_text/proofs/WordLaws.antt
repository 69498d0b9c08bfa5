-- The words of a file: those that are read decide as all of them do.
use Prim.Native.Nat.{ℕ, zero, suc, ◌+◌, ◌*◌, ◌/◌, ◌%◌, ◌<◌, min}
use mathlib.Core.Bool.{Bool, true, false}
use mathlib.Core.Path.{◌≡◌, refl, sym, ap, ◌∙◌}
use mathlib.Core.List.{List, [], ◌∷◌}
use native.Mathlib.Nat.{min_comm, suc-add}
use native.Mathlib.Numerals.{add-one}
use native.Mathlib.Omega.{arith}
use lib.Dec.{eqb, leb}
use lib.ListN.{length, get_or, take, set}
use lib.Seq.{take_all, take-suc, take-suc-set, length-take-le}
use borrow.Author.Tests.{le-leb, lt-leb, leb-true, leb-false}
use Rattle.rules.specs.Accept.{Accept, admit, read, refused}
use Rattle.rules.specs.Reading.{choose}
use Rattle.rules.specs.Settings.{settings_good, most_words}
use Rattle.semantics.specs.Round.{once}
use Rattle.semantics.specs.Run as run
use Rattle.semantics.specs.Path.{as_written}
use Rattle.word.specs.Word.{from_bytes}
use Rattle.list_text.specs.Listing.{whole_words, words_of}
use Rattle.list_text.specs.Writing.{words_read}
use Rattle.std.proofs.lemmas.List.{take_min}

four : (i : ℕ) → 4 * suc i ≡ suc (suc (suc (suc (4 * i))))
four i = omega arith

pub word_is : (i : ℕ) (bytes : List ℕ) → 4 * i + 3 < length bytes → get_or (whole_words bytes) i 0 ≡ from_bytes (get_or bytes (4 * i) 0) (get_or bytes (4 * i + 1) 0) (get_or bytes (4 * i + 2) 0) (get_or bytes (4 * i + 3) 0)
unfolding whole_words
word_is i [] h = absurd (omega arith)
word_is i (a ∷ []) h = absurd (omega arith)
word_is i (a ∷ b ∷ []) h = absurd (omega arith)
word_is i (a ∷ b ∷ c ∷ []) h = absurd (omega arith)
word_is zero (a ∷ b ∷ c ∷ d ∷ later) h = refl
word_is (suc i) (a ∷ b ∷ c ∷ d ∷ later) h = simp (four, suc-add) (word_is i later (omega arith))

pub words_long : (bytes : List ℕ) → length (whole_words bytes) ≡ length bytes / 4
unfolding whole_words
words_long [] = refl
words_long (a ∷ []) = refl
words_long (a ∷ b ∷ []) = refl
words_long (a ∷ b ∷ c ∷ []) = refl
words_long (a ∷ b ∷ c ∷ d ∷ later) = omega (arith, words_long later)

-- one more word is read
pub word_more : (words bytes : List ℕ) (i w : ℕ) → take i words ≡ take i (whole_words bytes) → i < length words → 4 * i + 3 < length bytes → w ≡ from_bytes (get_or bytes (4 * i) 0) (get_or bytes (4 * i + 1) 0) (get_or bytes (4 * i + 2) 0) (get_or bytes (4 * i + 3) 0) → take (i + 1) (set words i w) ≡ take (i + 1) (whole_words bytes)
word_more words bytes i w e l h q =
    rw (add-one i, take-suc-set words i w l, take-suc (whole_words bytes) i 0 (omega (arith, words_long bytes)), e, word_is i bytes h, q)

-- what is read is the start of the file's words
read_start : (bytes : List ℕ) → take (words_read (length bytes)) (whole_words bytes) ≡ take 16385 (words_of bytes)
read_start bytes = by_test (eqb (length bytes % 4) 0)
  where
    by_test : (b : Bool) → take (choose b (λ _. min (length bytes / 4) 16385) (λ _. 0)) (whole_words bytes) ≡ take 16385 (choose b (λ _. whole_words bytes) (λ _. []))
    by_test true = rw (min_comm (length bytes / 4) 16385, ← words_long bytes) (take_min 16385 (whole_words bytes))
    by_test false = refl

pub read_program : (bytes words : List ℕ) {count : ℕ} → count ≡ words_read (length bytes) → take count words ≡ take count (whole_words bytes) → take count words ≡ take 16385 (words_of bytes)
read_program bytes words e h = h ∙ rw e (read_start bytes)

-- more words than a program may have are refused, however many
read_too_many : (ws : List ℕ) → most_words < length ws → read ws ≡ refused 1 0
unfolding read
read_too_many ws l = rw (le-leb 1 (length ws) (omega arith), lt-leb (length ws) most_words l)

pub read_short : (ws : List ℕ) → read (take 16385 ws) ≡ read ws
read_short ws = by_test (leb (length ws) most_words) refl
  where
    by_test : (b : Bool) → leb (length ws) most_words ≡ b → read (take 16385 ws) ≡ read ws
    by_test true e = rw (take_all 16385 ws (omega (arith, leb-true (length ws) most_words e)))
    by_test false e =
        let l : most_words < length ws = leb-false (length ws) most_words e in
        read_too_many (take 16385 ws) (omega (arith, length-take-le 16385 ws (omega arith))) ∙ sym (read_too_many ws l)

-- so a file is decided by the bytes of one word more than a program may have: longer ones are refused, whatever their count
pub start_decides : (bytes : List ℕ) → read (words_of (take 65540 bytes)) ≡ read (words_of bytes)
unfolding read
start_decides bytes = by_length (leb (length bytes) 65540) refl
  where
    by_count : (b : Bool) → 65540 < length bytes → read (choose b (λ _. whole_words bytes) (λ _. [])) ≡ refused 1 0
    by_count true l = read_too_many (whole_words bytes) (omega (arith, words_long bytes))
    by_count false l = refl

    by_length : (b : Bool) → leb (length bytes) 65540 ≡ b → read (words_of (take 65540 bytes)) ≡ read (words_of bytes)
    by_length true e = rw (take_all 65540 bytes (leb-true (length bytes) 65540 e))
    by_length false e =
        let l : 65540 < length bytes = leb-false (length bytes) 65540 e in
        let n : length (take 65540 bytes) ≡ 65540 = length-take-le 65540 bytes (omega arith) in
        let whole : words_of (take 65540 bytes) ≡ whole_words (take 65540 bytes) = rw n in
        rw whole (read_too_many (whole_words (take 65540 bytes)) (omega (arith, words_long (take 65540 bytes), n))) ∙ sym (by_count (eqb (length bytes % 4) 0) l)

-- words that are read alike run alike
pub same_run : (ws vs : List ℕ) (rounds steps : ℕ) (output scratch : List ℕ) → read ws ≡ read vs → run.run_as_written ws rounds steps output scratch ≡ run.run_as_written vs rounds steps output scratch
same_run ws vs rounds steps output scratch e =
    ap (λ (a : Accept). run.leave (run.report_read_by (once as_written) a rounds steps (length output)) output scratch) (by_test (settings_good rounds (length scratch)))
  where
    by_test : (b : Bool) → admit b ws ≡ admit b vs
    by_test true = e
    by_test false = refl
