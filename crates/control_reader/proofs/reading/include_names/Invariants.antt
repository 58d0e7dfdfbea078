use Rattle.std.proofs.Common.{◌≤◌, All, length, vec_len, IsTrue}
use Rattle.text_terms.specs.Names.{is_name}
use Rattle.edt_text.specs.LineCursor.{lines_left}
use Rattle.control_reader.proofs.IncludeSteps.{ReadsNames}
use Rattle.control_reader.proofs.reading.include_names.Given as goal

abbrev pub invariant-loop-line : goal.invariant-loop-line
invariant-loop-line l = record {
  reads : ReadsNames l.main l.lines l.names.items;
  few : vec_len l.names ≤ 16;
  files : All (λ name. IsTrue (is_name 255 name)) l.names.items;
}

abbrev pub decreases-loop-line : goal.decreases-loop-line
decreases-loop-line l = length (lines_left l.lines)
