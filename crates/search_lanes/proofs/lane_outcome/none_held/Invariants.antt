use Rattle.std.proofs.Common.{◌≡◌, drop, map}
use Rattle.std.specs.List.{list_all}
use Rattle.search_lanes.specs.Lanes.{is_free}
use Rattle.search_lanes.specs.Inside.Slots.{lane_of}
use Rattle.search_lanes.proofs.lane_outcome.none_held.Given as goal

abbrev pub invariant-loop-slot : goal.invariant-loop-slot
invariant-loop-slot l = record {
  rest : list_all is_free (map lane_of (drop l.slot-index l.slots)) ≡ list_all is_free (map lane_of l.slots);
}
