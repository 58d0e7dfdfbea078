use Rattle.std.proofs.Common.{◌≡◌, ◌++◌, map, take}
use Rattle.cover_certificate.specs.BlockLines.{text_of_lines}
use Rattle.location_report.specs.Blocks.{unplaced_line}
use Rattle.location_report.proofs.found.push_unplaced.Given as goal

abbrev pub invariant-loop-pick : goal.invariant-loop-pick
invariant-loop-pick l = record {
  appended : l.out.items ≡ l.initial.out.items ++ text_of_lines (map unplaced_line (take l.pick-index l.picks));
}
