use Rattle.std.proofs.Common.{◌≡◌, ◌∷◌, drop, map}
use Rattle.search_lanes.specs.Inside.Slots.{lane_of}
use Rattle.search_lanes.specs.Schedule.{last_of, live_from}
use Rattle.search_lanes.proofs.next_events.last_live.Given as goal

abbrev pub invariant-loop-slot : goal.invariant-loop-slot
invariant-loop-slot l = record {
  lane : l.lane ≡ l.slot-index;
  rest : last_of (l.last ∷ live_from l.lane (map lane_of (drop l.slot-index l.slots))) ≡ last_of (live_from 0 (map lane_of l.slots));
}
