use Rattle.std.proofs.Common.{length}
use Rattle.std.specs.Prelude.{map}
use Rattle.edt_text.specs.LineCursor.{lines_left}
use Rattle.control_reader.proofs.ReadSteps.{Reads}
use Rattle.control_reader.proofs.reading.read_lines.Given as goal

abbrev pub invariant-loop-line : goal.invariant-loop-line
invariant-loop-line l = Reads l.main (map (λ file. file.items) l.included) l.lines l.draft

abbrev pub decreases-loop-line : goal.decreases-loop-line
decreases-loop-line l = length (lines_left l.lines)
