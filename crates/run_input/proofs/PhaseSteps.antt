-- A phase file, read.
use Rattle.std.proofs.Common.{◌≡◌, ◌≢◌, ℕ, List, [], ◌∷◌, length, count_by, Option, Some, None, IfSome, unwrap_or, true, false, sym, ◌∙◌, ap}
use Rattle.std.specs.Option.{option_map}
use Rattle.std.specs.Global.{Vec}
use Rattle.text_terms.specs.Lines.{NumberedLine, numbered_lines}
use Rattle.edt_outside.specs.Shelves.{Files}
use Rattle.phase_reader.specs.declared.fault.PhaseCause.TheVariants.{Memory}
use Rattle.phase_reader.specs.declared.fault.PhaseFault.{PhaseFault}
use Rattle.phase_reader.specs.declared.phases.Phases.{Phases}
use Rattle.phase_reader.specs.LineKinds.{is_passed}
use Rattle.phase_reader.specs.PhaseEvents.{events_of}
use Rattle.phase_reader.specs.PhaseFile.{IsReading, IsPhaseFault, fault_at}
use Rattle.run_input.specs.declared.refusals.Refusal.{Refusal}
use Rattle.run_input.specs.declared.refusals.Refusal.TheVariants.{Phases as phases_is, PhasesTooLong, Memory as memory_is}
use Rattle.run_input.specs.FilesUnder.{bytes_under}
use Rattle.text_terms.specs.Faults.{first_cause}
use Rattle.run_input.specs.FirstRefusals.{file_refusal, phase_fault, picks_refusal, phases_refusal}
use Rattle.run_input.specs.Refusals.{is_untold}
use Rattle.run_input.specs.Inside.Stages.{ArePhasesUnder, IsFile}
use Rattle.run_input.proofs.FaultyLaws.{faultless, faulty}
use Rattle.text_terms.proofs.CauseLaws.{first_here, first_after}

-- a phase file that was read whole
abbrev pub IsPhaseBytes : Files → List ℕ → Vec ℕ → Type 0
IsPhaseBytes files name bytes = (file_refusal name 16777216 PhasesTooLong (files name) ≡ None) × IsFile (files name) 16777216 bytes

-- the phase file isn't there, or has too many bytes
pub phases_stop : (F : Option Files) (name : List ℕ) (refusal : Refusal)
    → IfSome F (λ files. is_untold refusal ≡ false → file_refusal name 16777216 PhasesTooLong (files name) ≡ Some refusal)
    → IfSome F (λ files. is_untold refusal ≡ false → phases_refusal files name ≡ Some refusal)
unfolding phases_refusal
phases_stop None name refusal told = tt
phases_stop (Some files) name refusal told = λ free. first_here _ (picks_refusal (numbered_lines (bytes_under files name)) ∷ []) refusal (told free)

-- what is left after the file
after_file : (files : Files) (name : List ℕ) (bytes : Vec ℕ) → IsPhaseBytes files name bytes
    → phases_refusal files name ≡ first_cause (picks_refusal (numbered_lines bytes.items) ∷ [])
unfolding phases_refusal
after_file files name bytes is =
    let under : bytes_under files name ≡ bytes.items = ap (λ o. unwrap_or o []) is.1.0 in
    first_after _ (picks_refusal (numbered_lines (bytes_under files name)) ∷ []) is.0
    ∙ ap (λ b. first_cause (picks_refusal (numbered_lines b) ∷ [])) under

-- it has a fault
pub phases_faulty : (F : Option Files) (name : List ℕ) (bytes : Vec ℕ) (fault : PhaseFault)
    → IfSome F (λ files. IsPhaseBytes files name bytes) → IsPhaseFault bytes.items fault
    → IfSome F (λ files. phases_refusal files name ≡ Some (phases_is fault))
phases_faulty None name bytes fault told is = tt
phases_faulty (Some files) name bytes fault told is =
    let lines : List NumberedLine = numbered_lines bytes.items in
    let found : picks_refusal lines ≡ Some (phases_is fault) =
    ap (option_map phase_fault) (faulty (fault_at lines) (length lines) is.place fault.cause is.first)
    ∙ ap (λ (n : ℕ). Some (phases_is (record { line = n; cause = fault.cause }))) (sym is.line) in
    after_file files name bytes told ∙ first_here _ [] (phases_is fault) found

-- it has a reading
pub phases_read : (F : Option Files) (name : List ℕ) (bytes : Vec ℕ) (phases : Phases)
    → IfSome F (λ files. IsPhaseBytes files name bytes) → IsReading bytes.items phases
    → IfSome F (λ files. (phases_refusal files name ≡ None) × ArePhasesUnder files name phases)
phases_read None name bytes phases told is = tt
phases_read (Some files) name bytes phases told is =
    let lines : List NumberedLine = numbered_lines bytes.items in
    let none : picks_refusal lines ≡ None = ap (option_map phase_fault) (faultless (fault_at lines) (length lines) is.faultless) in
    let under : bytes.items ≡ bytes_under files name = sym (ap (λ o. unwrap_or o []) told.1.0) in (
      after_file files name bytes told ∙ first_after _ [] none,
      record {
        passed = is.passed ∙ ap (λ b. count_by is_passed (numbered_lines b)) under;
        events = is.events ∙ ap (λ b. events_of (numbered_lines b)) under;
      },
    )

-- the refusal of a fault, or running out of memory, which tells nothing
pub phases_refused : (F : Option Files) (name : List ℕ) (bytes : Vec ℕ) (fault : PhaseFault) (refusal : Refusal) → IfSome F (λ files. IsPhaseBytes files name bytes)
    → (fault.cause ≢ Memory → IsPhaseFault bytes.items fault)
    → (fault.cause ≢ Memory → refusal ≡ phases_is fault) → (fault.cause ≡ Memory → refusal ≡ memory_is)
    → IfSome F (λ files. is_untold refusal ≡ false → phases_refusal files name ≡ Some refusal)
phases_refused None name bytes fault refusal told is tells memory = tt
phases_refused (Some files) name bytes fault refusal told is tells memory = λ free.
    let other : fault.cause ≢ Memory = λ same. let no : true ≡ false = sym (ap is_untold (memory same)) ∙ free in cc no in
    phases_faulty (Some files) name bytes fault told (is other) ∙ ap Some (sym (tells other))
