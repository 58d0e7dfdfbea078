-- The words of a header's first two lines, and which of them must stand there.
use Rattle.std.specs.Prelude.{ℕ, ◌+◌, Bool, ◌&&◌, nat_le, List, [], ◌∷◌, map, length, get_or, codes}
use Rattle.std.specs.Str.{bytes_eq}
use Rattle.text_terms.specs.Lines.{LineText, lines_of}
use Rattle.text_terms.specs.Words.{words_of, word_at}
use Rattle.edt_text.specs.declared.limits.TheConstants.{LONGEST_LINE}

-- the bytes of a line, counted from 0, or none where there is no such line
abbrev pub line_at : ℕ → List LineText → List ℕ
line_at k lines = get_or (map (λ (line : LineText). line.bytes) lines) k []

-- the words of the first line: xNum yNum zNum xOrig yOrig zOrig dx dy dz gridType type
unfoldable pub grid_words : List ℕ → List (List ℕ)
grid_words bytes = words_of (line_at 0 (lines_of bytes))

-- the words of the second line: label xSrce ySrce zSrce
unfoldable pub source_words : List ℕ → List (List ℕ)
source_words bytes = words_of (line_at 1 (lines_of bytes))

-- there are two lines, neither of the first two is too long, and they have at least 10 and 4 words
abbrev pub are_header_lines : List LineText → Bool
are_header_lines lines =
    nat_le 2 (length lines)
    && nat_le (length (line_at 0 lines)) LONGEST_LINE
    && nat_le (length (line_at 1 lines)) LONGEST_LINE
    && nat_le 10 (length (words_of (line_at 0 lines)))
    && nat_le 4 (length (words_of (line_at 1 lines)))

-- a header has the lines and words that are read
unfoldable pub has_shape : List ℕ → Bool
has_shape bytes = are_header_lines (lines_of bytes)

-- three words of a line, from one on
abbrev pub three_from : ℕ → List (List ℕ) → List (List ℕ)
three_from k words = word_at k words ∷ word_at (k + 1) words ∷ word_at (k + 2) words ∷ []

-- the grid is of times
abbrev pub is_of_times : List (List ℕ) → Bool
is_of_times grid = bytes_eq (word_at 9 grid) (codes "TIME")

-- the body holds whole microseconds
abbrev pub is_of_microseconds : List (List ℕ) → Bool
is_of_microseconds grid = bytes_eq (word_at 10 grid) (codes "USEC32")
