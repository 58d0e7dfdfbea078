use Rattle.std.proofs.Common.{◌≡◌, ◌+◌, ◌*◌, map}
use Rattle.std.specs.List.{range_with_len}
use Rattle.edt_top.specs.Solve.ProblemFile.{first_time, nodes_in}
use Rattle.edt_top.specs.Inside.ProblemCursor.{IsSound}
use Rattle.edt_top.specs.Solve.ProblemValues.{row_in}
use Rattle.edt_top.proofs.solve.problem_file.push_rows.Given as goal

abbrev pub invariant-loop-row : goal.invariant-loop-row
invariant-loop-row l = record {
  rows : l.field ≡ record { grid = l.fn.field.grid; roots = l.fn.field.roots; rows = map (row_in l.fn.cursor.words) (range_with_len 0 l.row) };
  moved : l.cursor ≡ record { words = l.fn.cursor.words; place = first_time l.fn.cursor.words + l.row * nodes_in l.fn.cursor.words };
  sound : IsSound l.cursor;
}
