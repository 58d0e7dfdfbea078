-- The values of an assembly, with lists in place of vectors, and what the files of a shelf make of events.
use Rattle.std.specs.Prelude.{ℕ, if◌then◌else◌, List, map, Option, Some, None, Result, Ok, Err}
use Rattle.edt_outside.specs.Shelves.{Files}
use Rattle.node_boxes.specs.declared.frame.Frame.{Frame}
use Rattle.edt_score.specs.declared.problem.ProblemPick.{ProblemPick}
use Rattle.edt_score.specs.Field.{FieldTimes}
use Rattle.control_reader.specs.ControlValues.{ControlValues}
use Rattle.phase_reader.specs.declared.phases.Pick.{Pick}
use Rattle.station_table.specs.declared.keys.GridKey.{GridKey}
use Rattle.station_table.specs.declared.keys.Place.{Place}
use Rattle.station_table.specs.declared.picks.Skip.{Skip}
use Rattle.station_table.specs.declared.picks.UsedPick.{UsedPick}
use Rattle.station_table.specs.Keys.{wanted_keys}
use Rattle.station_table.specs.Using.{used_picks, skipped_picks}
use Rattle.event_assembly.specs.declared.assembly.Assembly.{Assembly}
use Rattle.event_assembly.specs.declared.assembly.Case.{Case}
use Rattle.event_assembly.specs.declared.assembly.Case.TheVariants.{Ready as ready_case, Few as few_case, Many as many_case}
use Rattle.event_assembly.specs.declared.assembly.Prepared.{Prepared}
use Rattle.event_assembly.specs.declared.faults.AssembleFault.{AssembleFault}
use Rattle.event_assembly.specs.Assembling.{assemble_fault, field_of, problem_picks, rows_of}
use Rattle.event_assembly.specs.Cases.{is_few, is_many}
use Rattle.event_assembly.specs.Headers.{places_of}

-- what becomes of an event: it is located with the picks of its problem, or it has few or many used picks
pub data EventCase : Type 0 where
  Ready : List ProblemPick → EventCase
  Few : EventCase
  Many : EventCase

-- an event with its used picks and those that aren't
pub record EventValues : Type 0 where
  pub used : List UsedPick
  pub skipped : List Skip
  pub case : EventCase

-- events with the times that they need
pub record AssemblyValues : Type 0 where
  pub frame : Frame
  pub field : FieldTimes
  pub events : List EventValues

-- the value of what becomes of an event
abbrev pub case_value : Case → EventCase
case_value (ready_case problem) = Ready problem.picks.items
case_value few_case = Few
case_value many_case = Many

-- the values of an event
abbrev pub event_value : Prepared → EventValues
event_value event = record {
  used = event.picks.used.items;
  skipped = event.picks.skipped.items;
  case = case_value event.case;
}

-- the values of an assembly
abbrev pub assembly_value : Assembly → AssemblyValues
assembly_value assembly = record {
  frame = assembly.frame;
  field = assembly.field;
  events = map event_value assembly.events.items;
}

-- what becomes of an event with these used picks, given the keys of the rows
abbrev pub case_of : ControlValues → List ℕ → List UsedPick → EventCase
case_of control rows used =
    if is_few control used then Few
    else if is_many control used then Many
    else Ready (problem_picks rows used)

-- an event of these picks, given keys, their places and the keys of the rows
abbrev pub event_of : ControlValues → List GridKey → List Place → List ℕ → List Pick → EventValues
event_of control keys places rows picks = record {
  used = used_picks control keys places picks;
  skipped = skipped_picks control keys places picks;
  case = case_of control rows (used_picks control keys places picks);
}

-- the events of a phase file
unfoldable pub events_of : Files → ControlValues → List (List Pick) → List EventValues
events_of files control events =
    let keys : List GridKey = wanted_keys control events in
    map (event_of control keys (places_of files control keys) (rows_of files control events)) events

-- what the files make of events, where nothing is at fault
abbrev pub values_by : Files → ControlValues → List (List Pick) → AssemblyValues
values_by files control events = record {
  frame = control.frame;
  field = field_of files control events;
  events = events_of files control events;
}

-- the values, unless there is a fault
abbrev pub unless_fault : Option AssembleFault → AssemblyValues → Result AssemblyValues AssembleFault
unless_fault None values = Ok values
unless_fault (Some fault) values = Err fault

-- the assembly of events by the files of a shelf: the first fault in the order of work, or the values
unfoldable pub assembly_of : Files → ControlValues → List (List Pick) → Result AssemblyValues AssembleFault
assembly_of files control events = unless_fault (assemble_fault files control events) (values_by files control events)
