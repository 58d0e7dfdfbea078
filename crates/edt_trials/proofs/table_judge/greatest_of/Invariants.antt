use Rattle.std.proofs.Common.{◌≡◌, ◌<◌, All, length, map, max}
use Rattle.minmax_pyramid.specs.Spans.{greatest, time_in}
use Rattle.edt_trials.proofs.table_judge.greatest_of.Given as goal

abbrev pub invariant-loop-node : goal.invariant-loop-node
invariant-loop-node l = record {
  inside : All (λ node. node < length l.scores) l.nodes;
  value : max l.greatest (greatest (map (time_in l.scores) l.nodes)) ≡ greatest (map (time_in l.scores) l.fn.nodes);
}

abbrev pub decreases-loop-node : goal.decreases-loop-node
decreases-loop-node l = length l.nodes
