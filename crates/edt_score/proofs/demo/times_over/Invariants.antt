use Rattle.std.proofs.Common.{◌≡◌, ◌≤◌, All, map}
use Rattle.std.specs.List.{range_with_len}
use Rattle.node_boxes.specs.declared.limits.TheConstants.{GREATEST_TIME}
use Rattle.edt_score.specs.Demo.{time_over}
use Rattle.edt_score.proofs.demo.times_over.Given as goal

abbrev pub invariant-loop-square : goal.invariant-loop-square
invariant-loop-square l = record {
  times : l.times.items ≡ map time_over (range_with_len 0 l.square);
  limit : All (λ time. time ≤ GREATEST_TIME) l.times.items;
}
