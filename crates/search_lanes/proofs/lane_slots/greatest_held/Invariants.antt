use Rattle.std.proofs.Common.{◌≡◌, drop, max}
use Rattle.search_lanes.specs.Inside.Slots.{busy, greatest_bound}
use Rattle.search_lanes.proofs.lane_slots.greatest_held.Given as goal

abbrev pub invariant-loop-slot : goal.invariant-loop-slot
invariant-loop-slot l = record {
  most : max l.most (greatest_bound (busy (drop l.slot-index l.slots))) ≡ greatest_bound (busy l.slots);
}
