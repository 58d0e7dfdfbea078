use Rattle.std.proofs.Common.{◌≡◌, ◌+◌, ◌≤◌, drop, length, map}
use Rattle.search_lanes.specs.Inside.Slots.{lane_of}
use Rattle.search_lanes.specs.Schedule.{live_from}
use Rattle.search_lanes.proofs.next_events.live_count.Given as goal

abbrev pub invariant-loop-slot : goal.invariant-loop-slot
invariant-loop-slot l = record {
  few : l.count ≤ l.slot-index;
  rest : l.count + length (live_from l.slot-index (map lane_of (drop l.slot-index l.slots))) ≡ length (live_from 0 (map lane_of l.slots));
}
