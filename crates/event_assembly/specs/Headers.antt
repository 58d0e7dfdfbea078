-- The headers of the time grids, and where their sources are.
use Rattle.std.specs.Prelude.{ℕ, Bool, nat_lt, if◌then◌else◌, List, length, map, Option, Some, None, is_none}
use Rattle.std.specs.List.{list_any}
use Rattle.std.specs.Option.{option_map}
use Rattle.grid_header.specs.Causes.{cause_of}
use Rattle.grid_header.specs.Reading.{header_of}
use Rattle.edt_outside.specs.Shelves.{Files}
use Rattle.control_reader.specs.ControlValues.{ControlValues}
use Rattle.station_table.specs.declared.keys.GridKey.{GridKey}
use Rattle.station_table.specs.declared.keys.Place.{Place}
use Rattle.station_table.specs.declared.keys.Place.TheVariants.{Absent, At}
use Rattle.event_assembly.specs.declared.faults.AssembleFault.{AssembleFault}
use Rattle.event_assembly.specs.declared.faults.AssembleFault.TheVariants.{Header as faulty_header, HeaderLong}
use Rattle.event_assembly.specs.Names.{header_name}

-- the place of the source of a header; there is none where there is no header
abbrev pub place_of_file : Option (List ℕ) → Place
place_of_file None = Absent
place_of_file (Some bytes) = At (header_of bytes).sx (header_of bytes).sy

-- where the sources of the grids of keys are
unfoldable pub places_of : Files → ControlValues → List GridKey → List Place
places_of files control keys = map (λ (key : GridKey). place_of_file (files (header_name control key))) keys

-- there is no header of a key
abbrev pub has_no_header : Files → ControlValues → GridKey → Bool
has_no_header files control key = is_none (files (header_name control key))

-- some of these keys has none
abbrev pub lacks_a_header : Files → ControlValues → List GridKey → Bool
lacks_a_header files control keys = list_any (has_no_header files control) keys

-- the fault of a header of this name that is there: more than 65,536 bytes, or the first cause for which it is refused
abbrev pub fault_of_file : List ℕ → Option (List ℕ) → Option AssembleFault
fault_of_file name None = None
fault_of_file name (Some bytes) =
    if nat_lt 65536 (length bytes) then Some (HeaderLong name) else option_map (faulty_header name) (cause_of bytes)

-- the fault of the header of a key
abbrev pub header_fault : Files → ControlValues → GridKey → Option AssembleFault
header_fault files control key = fault_of_file (header_name control key) (files (header_name control key))
