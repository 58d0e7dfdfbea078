-- The rows of times: those of the keys of the used picks of ready events.
use Rattle.std.specs.Prelude.{ℕ, ◌+◌, ◌*◌, ◌/◌, ◌==◌, Bool, ◌&&◌, nat_lt, if◌then◌else◌, List, [], length, map, filter, Option, Some, None, unwrap_or, unsigned_abs}
use Rattle.std.specs.List.{list_any, position, range_with_len}
use Rattle.std.specs.Option.{option_map, option_or}
use Rattle.grid_header.specs.declared.header.Header.{Header}
use Rattle.grid_header.specs.Reading.{header_of}
use Rattle.node_boxes.specs.Grid.{node_count}
use Rattle.edt_outside.specs.Shelves.{Files}
use Rattle.control_reader.specs.ControlValues.{ControlValues}
use Rattle.phase_reader.specs.declared.phases.Pick.{Pick}
use Rattle.station_table.specs.declared.keys.GridKey.{GridKey}
use Rattle.station_table.specs.declared.keys.Place.{Place}
use Rattle.station_table.specs.declared.picks.UsedPick.{UsedPick}
use Rattle.station_table.specs.Using.{used_picks}
use Rattle.time_grid.specs.declared.faults.GridFault.TheVariants.{TimeLimit}
use Rattle.time_grid.specs.declared.numbers.ByteOrder.{ByteOrder}
use Rattle.time_grid.specs.declared.numbers.ByteOrder.TheVariants.{Little, Big}
use Rattle.time_grid.specs.Alignment.{time_grid_size, first_unaligned_axis, search_times}
use Rattle.time_grid.specs.Bodies.{body_fault}
use Rattle.time_grid.specs.Numbers.{body_times, is_over}
use Rattle.event_assembly.specs.declared.faults.AssembleFault.{AssembleFault}
use Rattle.event_assembly.specs.declared.faults.AssembleFault.TheVariants.{Absent, Body, Align, Cells}
use Rattle.event_assembly.specs.Cases.{is_ready}
use Rattle.event_assembly.specs.Names.{header_name, body_name}

-- an event is ready, and one of its used picks has the key of this number
abbrev pub uses_key : ControlValues → List GridKey → List Place → ℕ → List Pick → Bool
uses_key control keys places k picks =
    let used : List UsedPick = used_picks control keys places picks in
    is_ready control used && list_any (λ (pick : UsedPick). pick.key == k) used

-- the numbers of the keys that have a row, in order: those that some ready event uses
unfoldable pub row_keys : ControlValues → List GridKey → List Place → List (List Pick) → List ℕ
row_keys control keys places events =
    filter (λ (k : ℕ). list_any (uses_key control keys places k) events) (range_with_len 0 (length keys))

-- the row of the key of a number
abbrev pub row_of_key : List ℕ → ℕ → ℕ
row_of_key rows key = unwrap_or (position (λ (k : ℕ). k == key) rows) 0

-- the rows have more than 20,000,000 times
abbrev pub cells_fault : ControlValues → ℕ → Option AssembleFault
cells_fault control rows = if nat_lt 20000000 (rows * node_count control.frame.grid) then Some Cells else None

-- the order of the bytes of the bodies
abbrev pub byte_order : ControlValues → ByteOrder
byte_order control = if control.swap then Big else Little

-- a time by a ratio in millionths, rounded, halves upward
abbrev pub by_ratio : ℕ → ℕ → ℕ
by_ratio ratio time = (time * ratio + 500000) / 1000000

-- a P time as an S time, by the ratio of the velocities
abbrev pub converted_time : ControlValues → ℕ → ℕ
converted_time control time = by_ratio (unsigned_abs control.vpvs) time

-- times of search nodes as the key wants them
unfoldable pub times_for : ControlValues → GridKey → List ℕ → List ℕ
times_for control key times = if key.converted then map (converted_time control) times else times

-- the times that a body gives at the search nodes
abbrev pub body_search_times : ControlValues → Header → List ℕ → List ℕ
body_search_times control header body =
    search_times header control.frame (body_times (byte_order control) body (node_count (time_grid_size header)))

-- the fault of a body of this name: its own, then the first axis on which the search grid isn't aligned with its grid, then the first
-- search node whose converted time passes 2,000,000,000
unfoldable pub fault_of_body : ControlValues → GridKey → Header → List ℕ → List ℕ → Option AssembleFault
fault_of_body control key header name body =
    option_or (option_map (Body name) (body_fault (byte_order control) body (node_count (time_grid_size header))))
    (option_or (option_map (Align name) (first_unaligned_axis header control.frame))
    (option_map (λ (k : ℕ). Body name (TimeLimit k)) (position is_over (times_for control key (body_search_times control header body)))))

-- a body that isn't there is absent
abbrev pub fault_of_row_file : ControlValues → GridKey → Header → List ℕ → Option (List ℕ) → Option AssembleFault
fault_of_row_file control key header name None = Some (Absent name)
fault_of_row_file control key header name (Some body) = fault_of_body control key header name body

-- the header of a key that has a row
abbrev pub row_header : Files → ControlValues → GridKey → Header
row_header files control key = header_of (unwrap_or (files (header_name control key)) [])

-- the fault of the row of a key
unfoldable pub row_fault : Files → ControlValues → GridKey → Option AssembleFault
row_fault files control key =
    fault_of_row_file control key (row_header files control key) (body_name control key) (files (body_name control key))

-- the times of the row of a key
unfoldable pub row_times : Files → ControlValues → GridKey → List ℕ
row_times files control key =
    times_for control key (body_search_times control (row_header files control key) (unwrap_or (files (body_name control key)) []))
