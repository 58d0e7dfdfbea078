use Rattle.std.proofs.Common.{◌≡◌, ◌++◌, map, take}
use Rattle.cover_certificate.specs.declared.line_form.LineForm.TheVariants.{Area}
use Rattle.cover_certificate.specs.BlockLines.{box_numbers, numbers_line, text_of_lines}
use Rattle.cover_certificate.proofs.writing.push_boxes.Given as goal

abbrev pub invariant-loop-item : goal.invariant-loop-item
invariant-loop-item l = record {
  appended : l.out.items ≡ l.initial.out.items ++ text_of_lines (map (numbers_line Area) (map box_numbers (take l.item-index l.cover)));
}
