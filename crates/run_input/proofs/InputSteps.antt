-- The input of a run, from its stages.
use Rattle.std.proofs.Common.{◌≡◌, ℕ, List, Option, Some, None, IfSome, Result, Ok, Err, false, refl, ◌∙◌}
use Rattle.edt_outside.specs.Shelves.{Files}
use Rattle.control_reader.specs.declared.control.Control.{Control}
use Rattle.control_reader.specs.ControlValues.{values_of}
use Rattle.phase_reader.specs.declared.phases.Phases.{Phases}
use Rattle.phase_reader.specs.PhaseFile.{picks_of_events}
use Rattle.event_assembly.specs.declared.assembly.Assembly.{Assembly}
use Rattle.event_assembly.specs.declared.faults.AssembleFault.{AssembleFault}
use Rattle.event_assembly.specs.declared.faults.AssembleFault.TheVariants.{Absent, Failed, Header, HeaderLong, Body, Align, Cells, Memory}
use Rattle.event_assembly.specs.Answers.{IsTold}
use Rattle.event_assembly.specs.AssemblyValues.{AssemblyValues, assembly_of}
use Rattle.event_assembly.specs.Assembling.{lacks_a_wanted_header}
use Rattle.run_input.specs.declared.refusals.Refusal.{Refusal}
use Rattle.run_input.specs.FilesUnder.{lacks_a_header_under}
use Rattle.run_input.specs.FirstRefusals.{control_refusal, phases_refusal}
use Rattle.run_input.specs.Inputs.{input_of, input_value}
use Rattle.run_input.specs.Refusals.{IsAnswer, is_untold, refusal_of_fault}
use Rattle.run_input.specs.Inside.Stages.{ArePhasesUnder, IsControlUnder}

-- the control file is refused
pub control_stops : (F : Option Files) (name : List ℕ) (refusal : Refusal)
    → IfSome F (λ files. is_untold refusal ≡ false → control_refusal files name ≡ Some refusal)
    → IfSome F (λ files. IsAnswer input_value (input_of files name) (Err refusal))
unfolding input_of
control_stops None name refusal told = tt
control_stops (Some files) name refusal told = λ free. rw (told free) refl

-- a control file that was read
abbrev pub IsControlRead : Files → List ℕ → Control → Type 0
IsControlRead files name control = (control_refusal files name ≡ None) × IsControlUnder files name control

-- the phase file is refused
pub phases_stop : (F G : Option Files) (name : List ℕ) (control : Control) (refusal : Refusal) → G ≡ F
    → IfSome F (λ files. IsControlRead files name control)
    → IfSome G (λ files. is_untold refusal ≡ false → phases_refusal files control.obs_file ≡ Some refusal)
    → IfSome F (λ files. IsAnswer input_value (input_of files name) (Err refusal))
unfolding input_of
phases_stop F G name control refusal same read told = stop F read (rw same at told)
  where
    stop : (F : Option Files) → IfSome F (λ files. IsControlRead files name control)
        → IfSome F (λ files. is_untold refusal ≡ false → phases_refusal files control.obs_file ≡ Some refusal)
        → IfSome F (λ files. IsAnswer input_value (input_of files name) (Err refusal))
    stop None read told = tt
    stop (Some files) read told = λ free. rw (read.0, ← read.1, told free) refl

-- a phase file that was read
abbrev pub ArePhasesRead : Files → Control → Phases → Type 0
ArePhasesRead files control phases = (phases_refusal files control.obs_file ≡ None) × ArePhasesUnder files control.obs_file phases

-- a fault that the files tell
told_fault : (made : Result AssemblyValues AssembleFault) (fault : AssembleFault) → IsTold made (Err fault)
    → is_untold (refusal_of_fault fault) ≡ false → made ≡ Err fault
told_fault made (Absent name) told free = told
told_fault made (Failed name) told free = absurd (cc free)
told_fault made (Header name cause) told free = told
told_fault made (HeaderLong name) told free = told
told_fault made (Body name cause) told free = told
told_fault made (Align name axis) told free = told
told_fault made Cells told free = told
told_fault made Memory told free = absurd (cc free)

-- the assembly is refused
pub assembly_stops : (F G H : Option Files) (name : List ℕ) (control : Control) (phases : Phases) (fault : AssembleFault) → G ≡ F → H ≡ F
    → IfSome F (λ files. IsControlRead files name control) → IfSome G (λ files. ArePhasesRead files control phases)
    → IfSome H (λ files. IsTold (assembly_of files (values_of control) (picks_of_events phases.events.items)) (Err fault))
    → IfSome F (λ files. IsAnswer input_value (input_of files name) (Err (refusal_of_fault fault)))
unfolding input_of
assembly_stops F G H name control phases fault same same_again read events told = stop F read (rw same at events) (rw same_again at told)
  where
    stop : (F : Option Files) → IfSome F (λ files. IsControlRead files name control) → IfSome F (λ files. ArePhasesRead files control phases)
        → IfSome F (λ files. IsTold (assembly_of files (values_of control) (picks_of_events phases.events.items)) (Err fault))
        → IfSome F (λ files. IsAnswer input_value (input_of files name) (Err (refusal_of_fault fault)))
    stop None read events told = tt
    stop (Some files) read events told = λ free.
        let made = told_fault (assembly_of files (values_of control) (picks_of_events phases.events.items)) fault told free in
        rw (read.0, ← read.1, events.0, ← events.1.events, made) refl

-- all of it was read
pub input_read : (F G H : Option Files) (name : List ℕ) (control : Control) (phases : Phases) (assembly : Assembly) → G ≡ F → H ≡ F
    → IfSome F (λ files. IsControlRead files name control) → IfSome G (λ files. ArePhasesRead files control phases)
    → IfSome H (λ files. IsTold (assembly_of files (values_of control) (picks_of_events phases.events.items)) (Ok assembly))
    → IfSome F (λ files. IsAnswer input_value (input_of files name) (Ok (record { control = control; phases = phases; assembly = assembly })))
unfolding input_of
input_read F G H name control phases assembly same same_again read events told = reads F read (rw same at events) (rw same_again at told)
  where
    reads : (F : Option Files) → IfSome F (λ files. IsControlRead files name control) → IfSome F (λ files. ArePhasesRead files control phases)
        → IfSome F (λ files. IsTold (assembly_of files (values_of control) (picks_of_events phases.events.items)) (Ok assembly))
        → IfSome F (λ files. IsAnswer input_value (input_of files name) (Ok (record { control = control; phases = phases; assembly = assembly })))
    reads None read events told = tt
    reads (Some files) read events told =
        rw (read.0, ← read.1, events.0, ← events.1.events, ← events.1.passed, told) refl

-- a count that stays, whatever the files are
pub lacks_stay : (F : Option Files) (name : List ℕ) (before after : ℕ) → after ≡ before
    → IfSome F (λ files. lacks_a_header_under files name ≡ false → after ≡ before)
lacks_stay None name before after same = tt
lacks_stay (Some files) name before after same = λ none. same

-- the count of lacking files over an assembly
pub lacks_none : (F G H : Option Files) (name : List ℕ) (control : Control) (phases : Phases) (first mid last : ℕ) → G ≡ F → H ≡ F
    → IfSome F (λ files. IsControlRead files name control) → IfSome G (λ files. ArePhasesRead files control phases)
    → IfSome H (λ files. lacks_a_wanted_header files (values_of control) (picks_of_events phases.events.items) ≡ false → last ≡ mid) → mid ≡ first
    → IfSome F (λ files. lacks_a_header_under files name ≡ false → last ≡ first)
unfolding lacks_a_header_under
lacks_none F G H name control phases first mid last same same_again read events told start = stays F read (rw same at events) (rw same_again at told)
  where
    stays : (F : Option Files) → IfSome F (λ files. IsControlRead files name control) → IfSome F (λ files. ArePhasesRead files control phases)
        → IfSome F (λ files. lacks_a_wanted_header files (values_of control) (picks_of_events phases.events.items) ≡ false → last ≡ mid)
        → IfSome F (λ files. lacks_a_header_under files name ≡ false → last ≡ first)
    stays None read events told = tt
    stays (Some files) read events told = λ none. told (rw (← read.1, ← events.1.events) at none) ∙ start
