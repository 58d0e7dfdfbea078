use Rattle.std.proofs.Common.{◌≡◌, ◌++◌, ◌+◌, length, map}
use Rattle.edt_text.specs.LineCursor.{lines_left, lines_passed}
use Rattle.cover_certificate.specs.declared.line_form.LineForm.TheVariants.{Entry}
use Rattle.cover_certificate.specs.BlockLines.{AreTypedNear, entry_numbers, numbers_line}
use Rattle.cover_certificate.proofs.reading.read_entries.Given as goal

abbrev pub invariant-loop-i : goal.invariant-loop-i
invariant-loop-i l = record {
  left : lines_left l.initial.lines ≡ map (numbers_line Entry) (map entry_numbers l.near.items) ++ lines_left l.lines;
  passed : lines_passed l.lines ≡ lines_passed l.initial.lines + length l.near.items;
  count : length l.near.items ≡ l.i;
  typed : AreTypedNear l.near.items;
}
