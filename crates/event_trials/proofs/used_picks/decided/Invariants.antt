use Rattle.std.proofs.Common.{◌≡◌, length, All}
use Rattle.station_table.specs.Limits.{IsPlace}
use Rattle.event_trials.proofs.used_picks.decided.Given as goal

abbrev pub invariant-loop-key : goal.invariant-loop-key
invariant-loop-key l = record {
  count : length l.places.items ≡ l.key-index;
  near : All IsPlace l.places.items;
}
