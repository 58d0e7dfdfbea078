use Rattle.std.proofs.Common.{◌≡◌, drop, get_or, map}
use Rattle.search_lanes.specs.declared.lane_events.LaneEvent.TheVariants.{Lost}
use Rattle.search_lanes.specs.Inside.Slots.{lane_of}
use Rattle.search_lanes.specs.Schedule.{choices_from}
use Rattle.search_lanes.proofs.next_events.choice_at.Given as goal

abbrev pub invariant-loop-slot : goal.invariant-loop-slot
invariant-loop-slot l = record {
  lane : l.lane ≡ l.slot-index;
  rest : get_or (choices_from l.lane l.ready (map lane_of (drop l.slot-index l.slots))) l.left (Lost 0)
      ≡ get_or (choices_from 0 l.ready (map lane_of l.slots)) l.place (Lost 0);
}
