use Rattle.std.proofs.Common.{◌≡◌, ◌*◌, map}
use Rattle.std.specs.List.{range_with_len}
use Rattle.edt_score.specs.Demo.{station_row, state_after}
use Rattle.edt_score.proofs.demo.add_stations.Given as goal

abbrev pub invariant-loop-station : goal.invariant-loop-station
invariant-loop-station l = record {
  rows : l.field ≡ record { grid = l.fn.field.grid; roots = l.fn.field.roots; rows = map (station_row l.fn.state l.side) (range_with_len 0 l._station) };
  state : l.state ≡ state_after l.fn.state (2 * l._station);
}
