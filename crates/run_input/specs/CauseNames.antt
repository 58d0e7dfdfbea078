-- The names of causes, as the line of a refusal tells them.
use Rattle.std.specs.Prelude.{ℕ, ◌++◌, List, codes, decimal}
use Rattle.control_reader.specs.declared.fault.ControlCause.{ControlCause}
use Rattle.control_reader.specs.declared.fault.ControlCause.TheVariants.{LongLine, Repeated, Fields, Name, Number, Method, FileType, Limit, NotYet, NestedInclude, Missing, Memory}
use Rattle.control_reader.specs.declared.fault.Keyword.{Keyword}
use Rattle.control_reader.specs.declared.fault.Keyword.TheVariants.{Locfiles, Locgrid, Locmeth, Locgau}
use Rattle.phase_reader.specs.declared.fault.PhaseCause.{PhaseCause}
use Rattle.phase_reader.specs.declared.fault.PhaseCause.TheVariants.{LongLine as phase_long_line, Fields as phase_fields, Name as phase_name, Date, Time, Number as phase_number, ErrorType, Limit as phase_limit, Memory as phase_memory}
use Rattle.grid_header.specs.declared.header.HeaderError.{HeaderError}
use Rattle.grid_header.specs.declared.header.HeaderError.TheVariants.{Shape, Kind, FloatBody, Number as header_number, Limit as header_limit}
use Rattle.time_grid.specs.declared.faults.Axis.{Axis}
use Rattle.time_grid.specs.declared.faults.Axis.TheVariants.{X, Y, Z}
use Rattle.time_grid.specs.declared.faults.GridFault.{GridFault}
use Rattle.time_grid.specs.declared.faults.GridFault.TheVariants.{Absent, Failed, Short, Long, TimeLimit, Memory as grid_memory}

-- the keyword of a missing statement
abbrev pub keyword_name : Keyword → List ℕ
keyword_name Locfiles = codes "LOCFILES"
keyword_name Locgrid = codes "LOCGRID"
keyword_name Locmeth = codes "LOCMETH"
keyword_name Locgau = codes "LOCGAU"

-- the name of a cause of a control file, with the keyword after `Missing`
abbrev pub control_cause_name : ControlCause → List ℕ
control_cause_name LongLine = codes "LongLine"
control_cause_name Repeated = codes "Repeated"
control_cause_name Fields = codes "Fields"
control_cause_name Name = codes "Name"
control_cause_name Number = codes "Number"
control_cause_name Method = codes "Method"
control_cause_name FileType = codes "FileType"
control_cause_name Limit = codes "Limit"
control_cause_name NotYet = codes "NotYet"
control_cause_name NestedInclude = codes "NestedInclude"
control_cause_name (Missing keyword) = codes "Missing " ++ keyword_name keyword
control_cause_name Memory = codes "Memory"

-- the name of a cause of a phase file
abbrev pub phase_cause_name : PhaseCause → List ℕ
phase_cause_name phase_long_line = codes "LongLine"
phase_cause_name phase_fields = codes "Fields"
phase_cause_name phase_name = codes "Name"
phase_cause_name Date = codes "Date"
phase_cause_name Time = codes "Time"
phase_cause_name phase_number = codes "Number"
phase_cause_name ErrorType = codes "ErrorType"
phase_cause_name phase_limit = codes "Limit"
phase_cause_name phase_memory = codes "Memory"

-- the name of a cause of a header
abbrev pub header_cause_name : HeaderError → List ℕ
header_cause_name Shape = codes "Shape"
header_cause_name Kind = codes "Kind"
header_cause_name FloatBody = codes "FloatBody"
header_cause_name header_number = codes "Number"
header_cause_name header_limit = codes "Limit"

-- the name of a cause of a body, with the node after `TimeLimit`
abbrev pub body_cause_name : GridFault → List ℕ
body_cause_name Absent = codes "Absent"
body_cause_name Failed = codes "Failed"
body_cause_name Short = codes "Short"
body_cause_name Long = codes "Long"
body_cause_name (TimeLimit node) = codes "TimeLimit " ++ decimal node
body_cause_name grid_memory = codes "Memory"

-- the name of an axis
abbrev pub axis_name : Axis → List ℕ
axis_name X = codes "X"
axis_name Y = codes "Y"
axis_name Z = codes "Z"

-- a search grid that isn't aligned with a time grid on an axis
abbrev pub axis_cause_name : Axis → List ℕ
axis_cause_name axis = codes "NotAligned " ++ axis_name axis
