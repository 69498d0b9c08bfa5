-- The bounds of a program and of its settings. Condition 9 of document 01: "round limit over 255 or scratch too short", which comes before all others.
use Rattle.std.specs.Prelude.{ℕ, Bool, ◌&&◌, leb}

-- "Program 1 to 16,384 words"
abbrev pub most_words : ℕ
most_words = 16384

-- "at most 256 relations"
abbrev pub most_relations : ℕ
most_relations = 256

-- "The bedside unit lends 12,288 scratch words. .. Condition 9 uses the new length." (Document 02, Note 12.) A call takes so many or more, and uses the first so many.
abbrev pub scratch_words : ℕ
scratch_words = 12288

-- "round limit 0 to 255", with a scratch of at least that length
abbrev pub settings_good : ℕ → ℕ → Bool
settings_good rounds scratch = leb rounds 255 && leb scratch_words scratch
