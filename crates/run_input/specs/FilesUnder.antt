-- What the files under some names say: bytes, lines, control values and events.
use Rattle.std.specs.Prelude.{ℕ, Bool, List, [], map, count_by, unwrap_or, codes}
use Rattle.text_terms.specs.Lines.{numbered_lines}
use Rattle.edt_outside.specs.Shelves.{Files}
use Rattle.control_reader.specs.ControlLines.{ControlLine, control_lines, file_lines, statements_with}
use Rattle.control_reader.specs.ControlValues.{ControlValues}
use Rattle.control_reader.specs.Values.{include_of}
use Rattle.control_reader.specs.ValuesOfLines.{values_in}
use Rattle.phase_reader.specs.declared.phases.Pick.{Pick}
use Rattle.phase_reader.specs.LineKinds.{is_passed}
use Rattle.phase_reader.specs.PhaseEvents.{events_of}
use Rattle.event_assembly.specs.Assembling.{lacks_a_wanted_header}

-- the bytes under a name, none where there is no file
abbrev pub bytes_under : Files → List ℕ → List ℕ
bytes_under files name = unwrap_or (files name) []

-- the names of the files that a main control file includes
abbrev pub include_names : List ℕ → List (List ℕ)
include_names main = map include_of (statements_with (codes "INCLUDE") (file_lines 0 main))

-- the lines of a main control file and the files that it includes, in reading order
abbrev pub lines_under : Files → List ℕ → List ControlLine
lines_under files main = control_lines main (map (bytes_under files) (include_names main))

-- the values of the control file of a name
abbrev pub control_under : Files → List ℕ → ControlValues
control_under files name = values_in (lines_under files (bytes_under files name))

-- how many lines of the phase file of a name are passed over
abbrev pub passed_under : Files → List ℕ → ℕ
passed_under files name = count_by is_passed (numbered_lines (bytes_under files name))

-- the events of the phase file of a name
abbrev pub events_under : Files → List ℕ → List (List Pick)
events_under files name = events_of (numbered_lines (bytes_under files name))

-- some key that the picks of a run of this control file may need has no header
unfoldable pub lacks_a_header_under : Files → List ℕ → Bool
lacks_a_header_under files name =
    let control : ControlValues = control_under files name in
    lacks_a_wanted_header files control (events_under files control.obs_file)
