-- Words on the answer of `assemble`.
use Rattle.std.specs.Prelude.{◌≡◌, ℕ, Bool, true, false, List, [], Option, Some, IfSome, OnSome, Result, Ok, Err, IsTrue}
use Rattle.std.specs.List.{list_any}
use Rattle.edt_outside.specs.Shelves.{Files}
use Rattle.control_reader.specs.ControlValues.{values_of}
use Rattle.control_reader.specs.declared.control.Control.{Control}
use Rattle.phase_reader.specs.PhaseFile.{picks_of_events}
use Rattle.phase_reader.specs.declared.phases.Event.{Event}
use Rattle.station_table.specs.declared.picks.Reason.{Reason}
use Rattle.station_table.specs.declared.picks.Reason.TheVariants.{Excluded, Weight0, ErrMag, Duplicate, NoGrid, Far, BeyondMax}
use Rattle.station_table.specs.declared.picks.Skip.{Skip}
use Rattle.time_grid.specs.declared.faults.GridFault.{GridFault}
use Rattle.time_grid.specs.declared.faults.GridFault.TheVariants.{Absent as cause_absent, Failed as cause_failed, Short, Long, TimeLimit, Memory as cause_memory}
use Rattle.event_assembly.specs.declared.assembly.Assembly.{Assembly}
use Rattle.event_assembly.specs.declared.assembly.Prepared.{Prepared}
use Rattle.event_assembly.specs.declared.faults.AssembleFault.{AssembleFault}
use Rattle.event_assembly.specs.declared.faults.AssembleFault.TheVariants.{Absent, Failed, Header as faulty_header, HeaderLong, Body, Align, Cells, Memory}
use Rattle.event_assembly.specs.AssemblyValues.{AssemblyValues, assembly_of, assembly_value}

-- the fault is `Failed`
abbrev pub is_failed : AssembleFault → Bool
is_failed (Absent name) = false
is_failed (Failed name) = true
is_failed (faulty_header name cause) = false
is_failed (HeaderLong name) = false
is_failed (Body name cause) = false
is_failed (Align name axis) = false
is_failed Cells = false
is_failed Memory = false

-- the fault is `Absent`
abbrev pub is_absent_fault : AssembleFault → Bool
is_absent_fault (Absent name) = true
is_absent_fault (Failed name) = false
is_absent_fault (faulty_header name cause) = false
is_absent_fault (HeaderLong name) = false
is_absent_fault (Body name cause) = false
is_absent_fault (Align name axis) = false
is_absent_fault Cells = false
is_absent_fault Memory = false

-- the answer is `Failed`
abbrev pub assemble_failed : {T : Type 0} → Result T AssembleFault → Bool
assemble_failed (Ok _) = false
assemble_failed (Err fault) = is_failed fault

-- the answer is `Absent`
abbrev pub assemble_absent : {T : Type 0} → Result T AssembleFault → Bool
assemble_absent (Ok _) = false
assemble_absent (Err fault) = is_absent_fault fault

-- what is said of faults, but of failed calls and running out of memory, which the files don't tell
abbrev pub IfToldFault : (AssembleFault → Type 0) → AssembleFault → Type 0
IfToldFault holds (Absent name) = holds (Absent name)
IfToldFault holds (Failed name) = Unit {0}
IfToldFault holds (faulty_header name cause) = holds (faulty_header name cause)
IfToldFault holds (HeaderLong name) = holds (HeaderLong name)
IfToldFault holds (Body name cause) = holds (Body name cause)
IfToldFault holds (Align name axis) = holds (Align name axis)
IfToldFault holds Cells = holds Cells
IfToldFault holds Memory = Unit {0}

-- an answer is what the files make of the events, but for failed calls and running out of memory
abbrev pub IsTold : Result AssemblyValues AssembleFault → Result Assembly AssembleFault → Type 0
IsTold made (Ok assembly) = made ≡ Ok (assembly_value assembly)
IsTold made (Err fault) = IfToldFault (λ told. made ≡ Err told) fault

-- an answer for events of a control is so, where the files are told
abbrev pub IsToldBy : Option Files → Control → List Event → Result Assembly AssembleFault → Type 0
IsToldBy told control events result =
    IfSome told (λ files. IsTold (assembly_of files (values_of control) (picks_of_events events)) result)

-- nothing is left, where nothing was left before and the files are told
abbrev pub StaysEnded : Option Files → Option (List ℕ) → Option (List ℕ) → Type 0
StaysEnded told before after = OnSome told (before ≡ Some [] → after ≡ Some [])

-- the bytes of a body, and no call of the shelf, give this cause
abbrev pub is_body_cause : GridFault → Bool
is_body_cause cause_absent = false
is_body_cause cause_failed = false
is_body_cause Short = true
is_body_cause Long = true
is_body_cause (TimeLimit node) = true
is_body_cause cause_memory = false

-- a refused body is refused for such a cause
abbrev pub HasBodyCause : AssembleFault → Type 0
HasBodyCause (Absent name) = Unit {0}
HasBodyCause (Failed name) = Unit {0}
HasBodyCause (faulty_header name cause) = Unit {0}
HasBodyCause (HeaderLong name) = Unit {0}
HasBodyCause (Body name cause) = IsTrue (is_body_cause cause)
HasBodyCause (Align name axis) = Unit {0}
HasBodyCause Cells = Unit {0}
HasBodyCause Memory = Unit {0}

-- a pick isn't used since there is no grid for it
abbrev pub has_no_grid : Reason → Bool
has_no_grid Excluded = false
has_no_grid Weight0 = false
has_no_grid ErrMag = false
has_no_grid Duplicate = false
has_no_grid NoGrid = true
has_no_grid Far = false
has_no_grid BeyondMax = false

-- some pick of some event isn't
abbrev pub lacks_a_grid : List Prepared → Bool
lacks_a_grid prepared =
    list_any (λ (p : Prepared). list_any (λ (skip : Skip). has_no_grid skip.reason) p.picks.skipped.items) prepared
