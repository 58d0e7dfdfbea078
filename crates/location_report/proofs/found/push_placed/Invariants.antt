use Rattle.std.proofs.Common.{◌≡◌, ◌++◌, map, take}
use Rattle.std.specs.Prelude.{zip}
use Rattle.cover_certificate.specs.BlockLines.{text_of_lines}
use Rattle.location_report.specs.Blocks.{residual_word}
use Rattle.location_report.specs.Lines.{pick_line}
use Rattle.location_report.proofs.found.push_placed.Given as goal

abbrev pub invariant-loop-i : goal.invariant-loop-i
invariant-loop-i l = record {
  appended : l.out.items ≡ l.initial.out.items ++ text_of_lines (map pick_line (take l.i (zip l.picks (map residual_word l.residuals))));
}
