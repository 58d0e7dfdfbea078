use Rattle.std.proofs.Common.{length}
use Rattle.edt_text.specs.LineCursor.{lines_left}
use Rattle.phase_reader.specs.Inside.DraftLimits.{IsDraft}
use Rattle.phase_reader.proofs.ReadSteps.{Reads}
use Rattle.phase_reader.proofs.reading.read_phases.Given as goal

abbrev pub invariant-loop-line : goal.invariant-loop-line
invariant-loop-line l = Reads l.bytes l.lines l.draft × IsDraft l.draft

abbrev pub decreases-loop-line : goal.decreases-loop-line
decreases-loop-line l = length (lines_left l.lines)
