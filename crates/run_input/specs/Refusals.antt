-- The refusals of a run: the status that each has, and which of them the files don't tell.
use Rattle.std.specs.Prelude.{◌≡◌, ℕ, Bool, true, false, [], ◌∷◌, Result, Ok, Err}
use Rattle.control_reader.specs.declared.fault.ControlCause.{ControlCause}
use Rattle.control_reader.specs.declared.fault.ControlCause.TheVariants.{LongLine, Repeated, Fields, Name, Number, Method, FileType, Limit, NotYet, NestedInclude, Missing, Memory as control_memory}
use Rattle.phase_reader.specs.declared.fault.PhaseCause.{PhaseCause}
use Rattle.phase_reader.specs.declared.fault.PhaseCause.TheVariants.{LongLine as phase_long_line, Fields as phase_fields, Name as phase_name, Date, Time, Number as phase_number, ErrorType, Limit as phase_limit, Memory as phase_memory}
use Rattle.time_grid.specs.declared.faults.GridFault.{GridFault}
use Rattle.time_grid.specs.declared.faults.GridFault.TheVariants.{Absent as grid_absent, Failed as grid_failed, Short, Long, TimeLimit, Memory as grid_memory}
use Rattle.event_assembly.specs.declared.faults.AssembleFault.{AssembleFault}
use Rattle.event_assembly.specs.declared.faults.AssembleFault.TheVariants.{Absent as fault_absent, Failed, Header as fault_header, HeaderLong as fault_header_long, Body as fault_body, Align as fault_align, Cells as fault_cells, Memory as fault_memory}
use Rattle.run_input.specs.Statuses.{is_one_of}
use Rattle.run_input.specs.declared.refusals.Refusal.{Refusal}
use Rattle.run_input.specs.declared.refusals.Refusal.TheVariants.{Control, ControlTooLong, Phases, PhasesTooLong, Header, HeaderLong, Body, Align, Cells, Absent, Read, Memory}

-- the status that names a refusal
abbrev pub status_of : Refusal → ℕ
status_of (Control fault) = 3
status_of (ControlTooLong file) = 3
status_of (Phases fault) = 4
status_of PhasesTooLong = 4
status_of (Header name cause) = 5
status_of (HeaderLong name) = 5
status_of (Body name cause) = 5
status_of (Align name axis) = 5
status_of Cells = 5
status_of Memory = 6
status_of (Read name) = 7
status_of (Absent name) = 9

-- the status of an answer
abbrev pub status_of_answer : {T : Type 0} → Result T Refusal → ℕ
status_of_answer (Ok _) = 0
status_of_answer (Err refusal) = status_of refusal

-- running out of memory and failed calls aren't told by the files
abbrev pub is_untold : Refusal → Bool
is_untold refusal = is_one_of (status_of refusal) (6 ∷ 7 ∷ [])

-- the answer is the one that the files tell: their value, or their first refusal
abbrev pub IsAnswer : {V T : Type 0} → (T → V) → Result V Refusal → Result T Refusal → Type 0
IsAnswer value told (Ok t) = told ≡ Ok (value t)
IsAnswer value told (Err refusal) = is_untold refusal ≡ false → told ≡ Err refusal

-- a fault of the assembly as a refusal of the run
abbrev pub refusal_of_fault : AssembleFault → Refusal
refusal_of_fault (fault_absent name) = Absent name
refusal_of_fault (Failed name) = Read name
refusal_of_fault (fault_header name cause) = Header name cause
refusal_of_fault (fault_header_long name) = HeaderLong name
refusal_of_fault (fault_body name cause) = Body name cause
refusal_of_fault (fault_align name axis) = Align name axis
refusal_of_fault fault_cells = Cells
refusal_of_fault fault_memory = Memory

-- the cause of a control file is that of some line, and isn't that memory ran out
abbrev pub is_control_cause : ControlCause → Bool
is_control_cause LongLine = true
is_control_cause Repeated = true
is_control_cause Fields = true
is_control_cause Name = true
is_control_cause Number = true
is_control_cause Method = true
is_control_cause FileType = true
is_control_cause Limit = true
is_control_cause NotYet = true
is_control_cause NestedInclude = true
is_control_cause (Missing keyword) = true
is_control_cause control_memory = false

-- the cause of a phase file is that of some line, and isn't that memory ran out
abbrev pub is_phase_cause : PhaseCause → Bool
is_phase_cause phase_long_line = true
is_phase_cause phase_fields = true
is_phase_cause phase_name = true
is_phase_cause Date = true
is_phase_cause Time = true
is_phase_cause phase_number = true
is_phase_cause ErrorType = true
is_phase_cause phase_limit = true
is_phase_cause phase_memory = false

-- the cause of a body is one of its bytes, and no absent file, failed call or running out of memory
abbrev pub is_body_cause : GridFault → Bool
is_body_cause grid_absent = false
is_body_cause grid_failed = false
is_body_cause Short = true
is_body_cause Long = true
is_body_cause (TimeLimit node) = true
is_body_cause grid_memory = false

-- the cause of a refusal is one that files have
abbrev pub is_cause : Refusal → Bool
is_cause (Control fault) = is_control_cause fault.cause
is_cause (ControlTooLong file) = true
is_cause (Phases fault) = is_phase_cause fault.cause
is_cause PhasesTooLong = true
is_cause (Header name cause) = true
is_cause (HeaderLong name) = true
is_cause (Body name cause) = is_body_cause cause
is_cause (Align name axis) = true
is_cause Cells = true
is_cause Memory = true
is_cause (Read name) = true
is_cause (Absent name) = true
