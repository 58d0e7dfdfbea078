-- What a cursor over lines still has to give.
use Rattle.std.specs.Prelude.{ℕ, List}
use Rattle.text_terms.specs.Lines.{LineText, lines_of}
use Rattle.edt_text.specs.declared.cursor.Line.{Line}
use Rattle.edt_text.specs.declared.cursor.Lines.{Lines}

-- a line that was given, as a line of the text
abbrev pub line_text : Line → LineText
line_text line = record { bytes = line.bytes.now; ended = line.ended }

-- the lines that weren't given yet
unfoldable pub lines_left : Lines → List LineText
lines_left lines = lines_of lines.rest.now

-- the number of the line that was given last, and 0 before the first
unfoldable pub lines_passed : Lines → ℕ
lines_passed lines = lines.passed
