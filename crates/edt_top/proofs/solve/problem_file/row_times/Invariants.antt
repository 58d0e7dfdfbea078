use Rattle.std.proofs.Common.{◌≡◌, ◌+◌, ◌*◌, ◌≤◌, All, map}
use Rattle.std.specs.List.{range_with_len}
use Rattle.node_boxes.specs.declared.limits.TheConstants.{GREATEST_TIME}
use Rattle.edt_top.specs.Solve.ProblemFile.{first_time, nodes_in}
use Rattle.edt_top.specs.Inside.ProblemCursor.{IsSound}
use Rattle.edt_top.specs.Solve.ProblemValues.{time_in}
use Rattle.edt_top.proofs.solve.problem_file.row_times.Given as goal

abbrev pub invariant-loop-node : goal.invariant-loop-node
invariant-loop-node l = record {
  times : l.times.items ≡ map (time_in l.fn.cursor.words l.row) (range_with_len 0 l._node);
  limit : All (λ time. time ≤ GREATEST_TIME) l.times.items;
  moved : l.cursor ≡ record { words = l.fn.cursor.words; place = first_time l.fn.cursor.words + l.row * nodes_in l.fn.cursor.words + l._node };
  sound : IsSound l.cursor;
}
