use Rattle.std.proofs.Common.{◌≡◌, ◌*◌, ◌+◌, ◌-◌, ◌<◌, length, take}
use Rattle.origin_time.specs.Weights.{total_weight}
use Rattle.origin_time.proofs.median.half_place.Given as goal

abbrev pub invariant-loop-weight : goal.invariant-loop-weight
invariant-loop-weight l = record {
  place : l.place < length l.items;
  weight : l.weight ≡ total_weight (take (l.place + 1) l.items);
  before : 2 * total_weight (take l.place l.items) < l.total;
}

abbrev pub decreases-loop-weight : goal.decreases-loop-weight
decreases-loop-weight l = length l.items - l.place
