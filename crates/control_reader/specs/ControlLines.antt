-- The lines of a control file, those of the included files among them, and their statements.
use Rattle.std.specs.Prelude.{ℕ, ◌+◌, ◌-◌, ◌==◌, Bool, false, if◌then◌else◌, List, [], ◌∷◌, drop, map, filter, count_by, slice_get, slice_index, unwrap_or, Option, Some, None, codes}
use Rattle.std.specs.List.{find, flat_map}
use Rattle.std.specs.Option.{option_map}
use Rattle.std.specs.Str.{bytes_eq}
use Rattle.text_terms.specs.Lines.{NumberedLine, numbered_lines}
use Rattle.text_terms.specs.Prefixes.{with_those_before}
use Rattle.text_terms.specs.Words.{words_of}
use Rattle.control_reader.specs.declared.statement.Statement.{Statement}
use Rattle.control_reader.specs.declared.statement.LineKind.{LineKind}
use Rattle.control_reader.specs.declared.statement.LineKind.TheVariants.{Blank, Comment, Passed, Of}
use Rattle.control_reader.specs.Keywords.{statement_of}

-- a line: the number of its file, 0 for the main one, its number in it, counted from 1, and its bytes
pub record ControlLine : Type 0 where
  pub file : ℕ
  pub number : ℕ
  pub bytes : List ℕ

-- the lines of one file
abbrev pub file_lines : ℕ → List ℕ → List ControlLine
file_lines file bytes =
    map (λ (line : NumberedLine). record { file = file; number = line.0; bytes = line.1 }) (numbered_lines bytes)

-- the kind of a line with this keyword
abbrev pub kind_of_statement : Option Statement → LineKind
kind_of_statement None = Passed
kind_of_statement (Some statement) = Of statement

-- a line whose first word begins with # is a comment; else the word is its keyword
abbrev pub kind_of_first : List ℕ → LineKind
kind_of_first word = if slice_index word 0 == 35 then Comment else kind_of_statement (statement_of word)

-- a line without words is blank, and the first word decides the kind of each other one
abbrev pub kind_of_words : List (List ℕ) → LineKind
kind_of_words [] = Blank
kind_of_words (word ∷ words) = kind_of_first word

-- the kind of a line
unfoldable pub kind_of : ControlLine → LineKind
kind_of line = kind_of_words (words_of line.bytes)

-- the first word is this keyword
abbrev pub begins_with : List ℕ → List (List ℕ) → Bool
begins_with keyword [] = false
begins_with keyword (word ∷ words) = bytes_eq word keyword

-- the line has this keyword
unfoldable pub has_keyword : List ℕ → ControlLine → Bool
has_keyword keyword line = begins_with keyword (words_of line.bytes)

-- the line includes a file
abbrev pub is_include : ControlLine → Bool
is_include line = has_keyword (codes "INCLUDE") line

-- the lines of an included file, counted from 1
abbrev pub included_lines : List (List ℕ) → ℕ → List ControlLine
included_lines included file = file_lines file (unwrap_or (slice_get included (file - 1)) [])

-- a line of the main file, given how many INCLUDE lines stand before it, with the lines of the file that it includes after it
abbrev pub with_file : List (List ℕ) → ℕ → ControlLine → List ControlLine
with_file included before line = if is_include line then line ∷ included_lines included (before + 1) else line ∷ []

-- the lines in reading order: those of the main file, and after each INCLUDE line those of its file
unfoldable pub control_lines : List ℕ → List (List ℕ) → List ControlLine
control_lines main included =
    flat_map (λ (at : List ControlLine × ControlLine). with_file included (count_by is_include at.0) at.1)
    (with_those_before (file_lines 0 main))

-- the words after the keyword of a line
unfoldable pub arguments_of : ControlLine → List (List ℕ)
arguments_of line = drop 1 (words_of line.bytes)

-- the words after the keyword, of the first statement that has it, if there is one
unfoldable pub statement_with : List ℕ → List ControlLine → Option (List (List ℕ))
statement_with keyword lines = option_map arguments_of (find (has_keyword keyword) lines)

-- those of all statements that have the keyword, in order
unfoldable pub statements_with : List ℕ → List ControlLine → List (List (List ℕ))
statements_with keyword lines = map arguments_of (filter (has_keyword keyword) lines)
