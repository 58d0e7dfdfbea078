use Rattle.std.proofs.Common.{◌≡◌, ◌++◌, map, take}
use Rattle.cover_certificate.specs.BlockLines.{text_of_lines}
use Rattle.location_report.specs.Lines.{skip_line}
use Rattle.location_report.proofs.found.push_skips.Given as goal

abbrev pub invariant-loop-skip : goal.invariant-loop-skip
invariant-loop-skip l = record {
  appended : l.out.items ≡ l.initial.out.items ++ text_of_lines (map skip_line (take l.skip-index l.skips));
}
