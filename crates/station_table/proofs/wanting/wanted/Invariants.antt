use Rattle.std.proofs.Common.{◌≡◌, take, []}
use Rattle.std.specs.List.{flat_map}
use Rattle.control_reader.specs.ControlValues.{values_of}
use Rattle.indexmap.specs.IndexSet.{insert_all}
use Rattle.phase_reader.specs.PhaseFile.{picks_of_events}
use Rattle.station_table.specs.Keys.{same_key, keys_of}
use Rattle.station_table.proofs.wanting.wanted.Given as goal

abbrev pub invariant-loop-event : goal.invariant-loop-event
invariant-loop-event l =
    l.index ≡ insert_all same_key [] (keys_of (values_of l.control) (flat_map (λ picks. picks) (picks_of_events (take l.event-index l.events))))
