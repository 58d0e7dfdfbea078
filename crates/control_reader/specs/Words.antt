-- The numbers that the words after a keyword write, counted from 0.
use Rattle.std.specs.Prelude.{ℕ, List, Option, unwrap_or, ℤ, pos, unsigned_abs}
use Rattle.text_terms.specs.Words.{word_at}
use Rattle.fixed_decimal.specs.Value.{millionths_of, whole_of}

-- a number, 0 where there is none
abbrev pub number_or_zero : Option ℤ → ℤ
number_or_zero number = unwrap_or number (pos 0)

-- the whole number that a word writes
unfoldable pub whole_at : ℕ → List (List ℕ) → ℤ
whole_at k words = number_or_zero (whole_of (word_at k words))

-- the decimal that a word writes, in millionths
unfoldable pub millionths_at : ℕ → List (List ℕ) → ℤ
millionths_at k words = number_or_zero (millionths_of (word_at k words))

-- the same of numbers that are 0 or more
abbrev pub count_at : ℕ → List (List ℕ) → ℕ
count_at k words = unsigned_abs (whole_at k words)
