use Rattle.std.proofs.Common.{length}
use Rattle.edt_text.specs.LineCursor.{lines_left}
use Rattle.edt_text.proofs.tests.count_lines.Given as goal

abbrev pub decreases-loop-line : goal.decreases-loop-line
decreases-loop-line l = length (lines_left l.lines)
