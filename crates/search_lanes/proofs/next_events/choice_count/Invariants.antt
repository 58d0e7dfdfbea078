use Rattle.std.proofs.Common.{◌≡◌, ◌+◌, ◌≤◌, drop, length, map}
use Rattle.search_lanes.specs.Inside.Slots.{lane_of}
use Rattle.search_lanes.specs.Schedule.{choices_from}
use Rattle.search_lanes.proofs.next_events.choice_count.Given as goal

abbrev pub invariant-loop-slot : goal.invariant-loop-slot
invariant-loop-slot l = record {
  lane : l.lane ≡ l.slot-index;
  few : l.count ≤ l.slot-index;
  rest : l.count + length (choices_from l.lane l.ready (map lane_of (drop l.slot-index l.slots))) ≡ length (choices_from 0 l.ready (map lane_of l.slots));
}
