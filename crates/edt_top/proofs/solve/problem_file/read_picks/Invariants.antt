use Rattle.std.proofs.Common.{◌≡◌, ◌+◌, ◌*◌, map}
use Rattle.std.specs.List.{range_with_len}
use Rattle.edt_top.specs.Inside.ProblemCursor.{IsSound}
use Rattle.edt_top.specs.Solve.ProblemValues.{pick_in}
use Rattle.edt_top.proofs.solve.problem_file.read_picks.Given as goal

abbrev pub invariant-loop-row : goal.invariant-loop-row
invariant-loop-row l = record {
  list : l.list.items ≡ map (pick_in l.fn.cursor.words) (range_with_len 0 l.row);
  moved : l.cursor ≡ record { words = l.fn.cursor.words; place = 6 + 3 * l.row };
  sound : IsSound l.cursor;
}
