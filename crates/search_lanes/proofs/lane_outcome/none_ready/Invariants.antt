use Rattle.std.proofs.Common.{◌≡◌, drop}
use Rattle.std.specs.List.{list_all}
use Rattle.search_lanes.specs.Inside.Slots.{is_low}
use Rattle.search_lanes.proofs.lane_outcome.none_ready.Given as goal

abbrev pub invariant-loop-w : goal.invariant-loop-w
invariant-loop-w l = record {
  rest : list_all (is_low l.margin l.upper) (drop l.w-index l.boxes) ≡ list_all (is_low l.margin l.upper) l.boxes;
}
