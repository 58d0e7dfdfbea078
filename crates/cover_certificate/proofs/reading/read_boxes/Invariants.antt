use Rattle.std.proofs.Common.{◌≡◌, ◌++◌, ◌+◌, length, map}
use Rattle.edt_text.specs.LineCursor.{lines_left, lines_passed}
use Rattle.cover_certificate.specs.declared.line_form.LineForm.TheVariants.{Area}
use Rattle.cover_certificate.specs.BlockLines.{AreTypedBoxes, box_numbers, numbers_line}
use Rattle.cover_certificate.proofs.reading.read_boxes.Given as goal

abbrev pub invariant-loop-i : goal.invariant-loop-i
invariant-loop-i l = record {
  left : lines_left l.initial.lines ≡ map (numbers_line Area) (map box_numbers l.boxes.items) ++ lines_left l.lines;
  passed : lines_passed l.lines ≡ lines_passed l.initial.lines + length l.boxes.items;
  count : length l.boxes.items ≡ l.i;
  typed : AreTypedBoxes l.boxes.items;
}
