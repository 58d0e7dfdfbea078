use Rattle.std.proofs.Common.{◌≡◌, drop, max}
use Rattle.search_lanes.specs.Inside.Slots.{greatest_bound}
use Rattle.search_lanes.proofs.lane_slots.greatest_open.Given as goal

abbrev pub invariant-loop-w : goal.invariant-loop-w
invariant-loop-w l = record {
  most : max l.most (greatest_bound (drop l.w-index l.boxes)) ≡ greatest_bound l.boxes;
}
