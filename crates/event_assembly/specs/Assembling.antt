-- The rows of events, their field, and the first fault of their assembly.
use Rattle.std.specs.Prelude.{ℕ, Bool, List, [], ◌∷◌, ◌++◌, length, map, flat_map, Option, Some, None, slice_get}
use Rattle.text_terms.specs.Faults.{first_cause}
use Rattle.edt_outside.specs.Shelves.{Files}
use Rattle.node_boxes.specs.declared.node_box.NodeBox.{NodeBox}
use Rattle.node_boxes.specs.Roots.{roots_of}
use Rattle.edt_score.specs.declared.problem.ProblemPick.{ProblemPick}
use Rattle.edt_score.specs.Field.{FieldTimes}
use Rattle.control_reader.specs.ControlValues.{ControlValues}
use Rattle.phase_reader.specs.declared.phases.Pick.{Pick}
use Rattle.station_table.specs.declared.keys.GridKey.{GridKey}
use Rattle.station_table.specs.declared.picks.UsedPick.{UsedPick}
use Rattle.station_table.specs.Keys.{wanted_keys}
use Rattle.event_assembly.specs.declared.faults.AssembleFault.{AssembleFault}
use Rattle.event_assembly.specs.Headers.{places_of, header_fault, lacks_a_header}
use Rattle.event_assembly.specs.Rows.{row_keys, row_of_key, cells_fault, row_fault, row_times}

-- some key that the events' picks may need has no header among the files
unfoldable pub lacks_a_wanted_header : Files → ControlValues → List (List Pick) → Bool
lacks_a_wanted_header files control events = lacks_a_header files control (wanted_keys control events)

-- a key, where there is one
abbrev pub key_at : Option GridKey → List GridKey
key_at None = []
key_at (Some key) = key ∷ []

-- the keys of the numbers of rows
abbrev pub keys_at : List GridKey → List ℕ → List GridKey
keys_at keys rows = flat_map (λ (k : ℕ). key_at (slice_get keys k)) rows

-- the keys of the rows of events
unfoldable pub rows_of : Files → ControlValues → List (List Pick) → List ℕ
rows_of files control events =
    let keys : List GridKey = wanted_keys control events in row_keys control keys (places_of files control keys) events

-- the first fault in the order of work: the headers of the wanted keys, too many times, and the rows
unfoldable pub assemble_fault : Files → ControlValues → List (List Pick) → Option AssembleFault
assemble_fault files control events =
    let keys : List GridKey = wanted_keys control events in
    let rows : List ℕ = rows_of files control events in
    first_cause (
    map (header_fault files control) keys
    ++ cells_fault control (length rows)
    ∷ map (row_fault files control) (keys_at keys rows))

-- the used picks of an event as picks of its problem, whose rows are those of their keys
abbrev pub problem_picks : List ℕ → List UsedPick → List ProblemPick
problem_picks rows used =
    map (λ (pick : UsedPick). record { time = pick.time; weight = pick.weight; variance = pick.variance; row = row_of_key rows pick.key }) used

-- the roots of the octree over the search grid, by the counts of cells that the control asks for
abbrev pub roots_for : ControlValues → List NodeBox
roots_for control = roots_of control.frame.grid control.cells.0 control.cells.1 control.cells.2

-- the field of the rows of events
abbrev pub field_of : Files → ControlValues → List (List Pick) → FieldTimes
field_of files control events = record {
  grid = control.frame.grid;
  roots = roots_for control;
  rows = map (row_times files control) (keys_at (wanted_keys control events) (rows_of files control events));
}
