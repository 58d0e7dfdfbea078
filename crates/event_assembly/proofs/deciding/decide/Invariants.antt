use Rattle.std.proofs.Common.{◌≡◌, take}
use Rattle.control_reader.specs.ControlValues.{values_of}
use Rattle.phase_reader.specs.PhaseFile.{picks_of_events}
use Rattle.event_assembly.specs.Inside.Deciding.{AreDecided}
use Rattle.event_assembly.proofs.deciding.decide.Given as goal

abbrev pub invariant-loop-event : goal.invariant-loop-event
invariant-loop-event l = record {
  table : l.table ≡ record { control = values_of l.control; keys = l.keys; places = l.places };
  decided : AreDecided (values_of l.control) l.keys l.places (picks_of_events (take l.event-index l.events)) l.decided.items;
}
