-- The words of a line and of a file.
use Rattle.std.specs.Prelude.{ℕ, Bool, ◌==◌, ◌||◌, not, List, [], length, filter, get_or}
use Rattle.std.specs.List.{slice_split, flat_map}
use Rattle.text_terms.specs.Lines.{LineText, is_line_feed, lines_of}

-- the five bytes that part words: tab, vertical tab, form feed, carriage return and blank
abbrev pub is_blank : ℕ → Bool
is_blank b = b == 9 || b == 11 || b == 12 || b == 13 || b == 32

-- a byte that parts the words of a whole file: a blank or a line feed
abbrev pub parts_file : ℕ → Bool
parts_file b = is_blank b || is_line_feed b

-- a run of bytes is a word where it holds at least one
abbrev pub is_word : List ℕ → Bool
is_word run = not (length run == 0)

-- the longest runs of bytes that fail a test, from left to right
abbrev pub runs : (ℕ → Bool) → List ℕ → List (List ℕ)
runs p bytes = filter is_word (slice_split p bytes)

-- the words of a line, from left to right: its longest runs of bytes that part no words
abbrev pub words_of : List ℕ → List (List ℕ)
words_of line = runs is_blank line

-- the words of all lines of a file, in order
abbrev pub file_words : List ℕ → List (List ℕ)
file_words bytes = flat_map (λ (line : LineText). words_of line.bytes) (lines_of bytes)

-- the word at a place, counted from 0, or no bytes where there is no such word
abbrev pub word_at : ℕ → List (List ℕ) → List ℕ
word_at k words = get_or words k []
