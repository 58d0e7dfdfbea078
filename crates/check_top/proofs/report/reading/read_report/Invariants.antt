use Rattle.std.proofs.Common.{◌≡◌, length, map, All}
use Rattle.text_terms.specs.Lines.{lines_of}
use Rattle.edt_text.specs.LineCursor.{lines_left, lines_passed}
use Rattle.cover_certificate.specs.Blocks.{IsValidBlock, block_value}
use Rattle.check_top.proofs.SectionSteps.{ReadSoFar}
use Rattle.check_top.proofs.report.reading.read_report.Given as goal

abbrev pub invariant-loop-number : goal.invariant-loop-number
invariant-loop-number l = record {
  read : ReadSoFar l.events (lines_of l.bytes) (map block_value l.blocks.items) l.number (lines_passed l.lines) (lines_left l.lines);
  count : length l.blocks.items ≡ l.number;
  valid : All (λ block. IsValidBlock (block_value block)) l.blocks.items;
}
