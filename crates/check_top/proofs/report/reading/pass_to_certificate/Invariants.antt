use Rattle.std.proofs.Common.{◌≡◌, length}
use Rattle.edt_text.specs.LineCursor.{lines_left, lines_passed}
use Rattle.check_top.proofs.SectionSteps.{PassesTo}
use Rattle.check_top.proofs.report.reading.pass_to_certificate.Given as goal

abbrev pub invariant-loop-line : goal.invariant-loop-line
invariant-loop-line l = record {
  passes : PassesTo (lines_left l.fn.lines) (lines_passed l.fn.lines) (lines_left l.lines) (lines_passed l.lines);
  same : lines_left l.ahead ≡ lines_left l.lines;
  count : lines_passed l.ahead ≡ lines_passed l.lines;
}

abbrev pub decreases-loop-line : goal.decreases-loop-line
decreases-loop-line l = length (lines_left l.ahead)
