-- What a cursor over the lines of a report has passed.
use Rattle.edt_text.specs.declared.cursor.Lines.{Lines}
use Rattle.edt_text.specs.LineCursor.{lines_left, lines_passed}
use Rattle.cover_certificate.specs.Blocks.{BlockValue}
use Rattle.check_top.specs.Reports.{Section}

-- the section of a block, before what a cursor still has to give
abbrev pub section_at : BlockValue → Lines → Section
section_at block lines = record { block = block; passed = lines_passed lines; rest = lines_left lines }
