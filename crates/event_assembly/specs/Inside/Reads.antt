-- The answers of the parts of `assemble`, by the files of a shelf.
use Rattle.std.specs.Prelude.{◌≡◌, ⊤, ℕ, ◌<◌, true, List, [], map, length, Option, Some, None, unwrap_or, slice_get, position, Result, Ok, Err, pos, ◌<ℤ◌}
use Rattle.std.specs.Global.{Vec}
use Rattle.std.specs.Option.{option_map}
use Rattle.edt_outside.specs.Shelves.{Files}
use Rattle.edt_score.specs.Field.{FieldTimes}
use Rattle.grid_header.specs.declared.header.Header.{Header}
use Rattle.grid_header.specs.Reading.{IsValidHeader, header_of}
use Rattle.control_reader.specs.ControlValues.{ControlValues}
use Rattle.station_table.specs.declared.keys.GridKey.{GridKey}
use Rattle.time_grid.specs.declared.faults.GridFault.TheVariants.{Short as body_short, Long as body_long, TimeLimit as body_limit}
use Rattle.time_grid.specs.declared.faults.StreamFault.{StreamFault}
use Rattle.time_grid.specs.declared.faults.StreamFault.TheVariants.{Absent as stream_absent, Failed as stream_failed, Short as stream_short, Long as stream_long, TimeLimit as stream_limit, NotAligned as stream_unaligned, Memory as stream_memory}
use Rattle.time_grid.specs.Numbers.{is_over}
use Rattle.event_assembly.specs.declared.faults.AssembleFault.{AssembleFault}
use Rattle.event_assembly.specs.declared.faults.AssembleFault.TheVariants.{Absent, Failed, Body, Align, Memory}
use Rattle.event_assembly.specs.Answers.{IfToldFault}
use Rattle.text_terms.specs.Faults.{first_cause}
use Rattle.event_assembly.specs.Assembling.{roots_for}
use Rattle.event_assembly.specs.Headers.{header_fault, fault_of_file}
use Rattle.event_assembly.specs.Names.{header_name, body_name}
use Rattle.event_assembly.specs.Rows.{body_search_times, times_for, fault_of_row_file, row_fault, row_times}

-- a refusal is the first fault, but for failed calls and running out of memory
abbrev pub IsRefusal : Option AssembleFault → AssembleFault → Type 0
IsRefusal first fault = IfToldFault (λ told. first ≡ Some told) fault

-- the answer for the header of this name, which has these bytes
abbrev pub ReadsPresent : List ℕ → List ℕ → Result Header AssembleFault → Type 0
ReadsPresent name bytes (Ok header) = (fault_of_file name (Some bytes) ≡ None) × (header ≡ header_of bytes)
ReadsPresent name bytes (Err fault) = IsRefusal (fault_of_file name (Some bytes)) fault

-- the header of a key, or none where there is no file of its name
unfoldable pub header_in : Files → ControlValues → GridKey → Option Header
header_in files control key = option_map header_of (files (header_name control key))

-- the answer for the header of a key
abbrev pub ReadsHeader : Files → ControlValues → GridKey → Result (Option Header) AssembleFault → Type 0
ReadsHeader files control key (Ok header) = (header_fault files control key ≡ None) × (header ≡ header_in files control key)
ReadsHeader files control key (Err fault) = IsRefusal (header_fault files control key) fault

-- the answer for the headers of keys, the first fault of which decides
abbrev pub ReadsHeaders : Files → ControlValues → List GridKey → Result (Vec (Option Header)) AssembleFault → Type 0
ReadsHeaders files control keys (Ok headers) =
    (first_cause (map (header_fault files control) keys) ≡ None) × (headers.items ≡ map (header_in files control) keys)
ReadsHeaders files control keys (Err fault) = IsRefusal (first_cause (map (header_fault files control) keys)) fault

-- the refusal of a body of this name, by the fault of its stream
abbrev pub body_refusal : List ℕ → StreamFault → AssembleFault
body_refusal name stream_absent = Absent name
body_refusal name stream_failed = Failed name
body_refusal name stream_short = Body name body_short
body_refusal name stream_long = Body name body_long
body_refusal name (stream_limit node) = Body name (body_limit node)
body_refusal name (stream_unaligned axis) = Align name axis
body_refusal name stream_memory = Memory

-- where the times of a key are converted, the ratio of the velocities is above 0
abbrev pub IsConvertible : ControlValues → GridKey → Type 0
IsConvertible control key = key.converted ≡ true → pos 0 <ℤ control.vpvs

-- the key of this number has a header
pub record HasHeader (headers : List (Option Header)) (k : ℕ) : Type 0 where
  pub header : Header
  pub here : slice_get headers k ≡ Some (Some header)
  pub valid : IsValidHeader header

-- there is a key of this number, and it has a header
pub record IsRowKey (keys : List GridKey) (headers : List (Option Header)) (k : ℕ) : Type 0 where
  pub within : k < length keys
  pub header : HasHeader headers k

-- the answer of a conversion in place: all times as they are wanted, or the first one past the limit
abbrev pub Converts : List ℕ → List ℕ → Option ℕ → Type 0
Converts wanted now None = (now ≡ wanted) × (position is_over wanted ≡ None)
Converts wanted now (Some node) = position is_over wanted ≡ Some node

-- the answer for the times of a key with this header
abbrev pub ReadsTimes : Files → ControlValues → GridKey → Header → List ℕ → Result ⊤ AssembleFault → Type 0
ReadsTimes files control key header times (Ok _) =
    let name : List ℕ = body_name control key in
    (fault_of_row_file control key header name (files name) ≡ None)
    × (times ≡ times_for control key (body_search_times control header (unwrap_or (files name) [])))
ReadsTimes files control key header times (Err fault) =
    let name : List ℕ = body_name control key in IsRefusal (fault_of_row_file control key header name (files name)) fault

-- the answer for the row of a key with this header
abbrev pub ReadsRow : Files → ControlValues → GridKey → Header → Result (Vec ℕ) AssembleFault → Type 0
ReadsRow files control key header (Ok row) = ReadsTimes files control key header row.items (Ok tt)
ReadsRow files control key header (Err fault) = ReadsTimes files control key header [] (Err fault)

-- the answer for the rows of keys, the first fault of which decides
abbrev pub ReadsRows : Files → ControlValues → List GridKey → Result FieldTimes AssembleFault → Type 0
ReadsRows files control keys (Ok field) =
    (first_cause (map (row_fault files control) keys) ≡ None)
    × (field ≡ record { grid = control.frame.grid; roots = roots_for control; rows = map (row_times files control) keys })
ReadsRows files control keys (Err fault) = IsRefusal (first_cause (map (row_fault files control) keys)) fault
