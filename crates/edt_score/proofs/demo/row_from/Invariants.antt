use Rattle.std.proofs.Common.{◌≡◌, ◌≤◌, All, map}
use Rattle.std.specs.List.{range_with_len}
use Rattle.node_boxes.specs.declared.limits.TheConstants.{GREATEST_TIME}
use Rattle.edt_score.specs.Inside.DemoParts.{time_from}
use Rattle.edt_score.proofs.demo.row_from.Given as goal

abbrev pub invariant-loop-node : goal.invariant-loop-node
invariant-loop-node l = record {
  times : l.row.items ≡ map (time_from l.grid (l.x, l.y, 0)) (range_with_len 0 l.node);
  limit : All (λ time. time ≤ GREATEST_TIME) l.row.items;
}
