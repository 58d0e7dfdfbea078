-- The lines of a file.
use Rattle.std.specs.Prelude.{ℕ, Bool, true, false, ◌==◌, if◌then◌else◌, List, [], ◌∷◌, length, map}
use Rattle.std.specs.List.{enumerate_from, slice_split}

-- a line feed ends a line
abbrev pub is_line_feed : ℕ → Bool
is_line_feed b = b == 10

-- a line: its bytes without the line feed, and whether a line feed ends it
pub record LineText : Type 0 where
  pub bytes : List ℕ
  pub ended : Bool

-- the lines that the parts between line feeds make: only the last part has no line feed after it, and where it is empty it is no line
abbrev pub lines_of_parts : List (List ℕ) → List LineText
lines_of_parts [] = []
lines_of_parts (part ∷ []) = if length part == 0 then [] else record { bytes = part; ended = false } ∷ []
lines_of_parts (part ∷ next ∷ more) = record { bytes = part; ended = true } ∷ lines_of_parts (next ∷ more)

-- the lines of a file's bytes, which are cut after each line feed
abbrev pub lines_of : List ℕ → List LineText
lines_of bytes = lines_of_parts (slice_split is_line_feed bytes)

-- a line with its number
abbrev pub NumberedLine : Type 0
NumberedLine = ℕ × List ℕ

-- the lines of a file's bytes, numbered from 1
abbrev pub numbered_lines : List ℕ → List NumberedLine
numbered_lines bytes = enumerate_from 1 (map (λ (line : LineText). line.bytes) (lines_of bytes))
