use Rattle.std.proofs.Common.{◌≡◌, ◌++◌, map, take}
use Rattle.cover_certificate.specs.declared.line_form.LineForm.TheVariants.{Entry}
use Rattle.cover_certificate.specs.BlockLines.{entry_numbers, numbers_line, text_of_lines}
use Rattle.cover_certificate.proofs.writing.push_entries.Given as goal

abbrev pub invariant-loop-entry : goal.invariant-loop-entry
invariant-loop-entry l = record {
  appended : l.out.items ≡ l.initial.out.items ++ text_of_lines (map (numbers_line Entry) (map entry_numbers (take l.entry-index l.near)));
}
