use Rattle.std.proofs.Common.{length}
use Rattle.edt_text.specs.LineCursor.{lines_left}
use Rattle.control_reader.proofs.FileSteps.{TakesFile}
use Rattle.control_reader.proofs.draft.ControlDraft.take_file.Given as goal

abbrev pub invariant-loop-line : goal.invariant-loop-line
invariant-loop-line l = TakesFile l.file l.bytes l.lines l.fn.self l.self

abbrev pub decreases-loop-line : goal.decreases-loop-line
decreases-loop-line l = length (lines_left l.lines)
