-- What a run reads, as one function of the files of a shelf and the name of a control file.
use Rattle.std.specs.Prelude.{ℕ, ◌≤◌, List, length, All, Option, Some, None, Result, Ok, Err}
use Rattle.edt_outside.specs.Shelves.{Files}
use Rattle.control_reader.specs.ControlValues.{ControlValues, values_of}
use Rattle.control_reader.specs.Limits.{IsControl}
use Rattle.phase_reader.specs.declared.phases.Pick.{Pick}
use Rattle.phase_reader.specs.Limits.{IsEvent}
use Rattle.phase_reader.specs.PhaseFile.{picks_of_events}
use Rattle.event_assembly.specs.declared.faults.AssembleFault.{AssembleFault}
use Rattle.event_assembly.specs.Assembled.{IsAssembled}
use Rattle.event_assembly.specs.AssemblyValues.{AssemblyValues, assembly_value, assembly_of}
use Rattle.run_input.specs.declared.input.RunInput.{RunInput}
use Rattle.run_input.specs.declared.refusals.Refusal.{Refusal}
use Rattle.run_input.specs.FilesUnder.{control_under, passed_under, events_under}
use Rattle.run_input.specs.FirstRefusals.{control_refusal, phases_refusal}
use Rattle.run_input.specs.Refusals.{refusal_of_fault}

-- what a control file says, how many lines of its phase file are passed over, the events of that file, and their assembly
pub record InputValues : Type 0 where
  pub control : ControlValues
  pub phases_passed : ℕ
  pub events : List (List Pick)
  pub assembly : AssemblyValues

-- the values of an input that was read
abbrev pub input_value : RunInput → InputValues
input_value input = record {
  control = values_of input.control;
  phases_passed = input.phases.passed;
  events = picks_of_events input.phases.events.items;
  assembly = assembly_value input.assembly;
}

-- the first refusal of two
abbrev pub refused_first : {V : Type 0} → Option Refusal → Result V Refusal → Result V Refusal
refused_first (Some refusal) next = Err refusal
refused_first None next = next

-- an input with this assembly, or the refusal of the assembly
abbrev pub with_assembly : ControlValues → ℕ → List (List Pick) → Result AssemblyValues AssembleFault → Result InputValues Refusal
with_assembly control passed events (Ok assembly) =
    Ok (record { control = control; phases_passed = passed; events = events; assembly = assembly })
with_assembly control passed events (Err fault) = Err (refusal_of_fault fault)

-- the first refusal in the order of work: the control file with its included files, the phase file, and the assembly; or the values
unfoldable pub input_of : Files → List ℕ → Result InputValues Refusal
input_of files name =
    let control : ControlValues = control_under files name in
    let events : List (List Pick) = events_under files control.obs_file in
    refused_first (control_refusal files name)
    (refused_first (phases_refusal files control.obs_file)
    (with_assembly control (passed_under files control.obs_file) events (assembly_of files control events)))

-- what holds of an input on every shelf, whatever its files are
pub record IsInput (input : RunInput) : Type 0 where
  pub control : IsControl input.control
  pub events : All IsEvent input.phases.events.items
  pub few : length input.phases.events.items ≤ 10000
  pub assembled : IsAssembled (values_of input.control) (length input.phases.events.items) input.assembly
