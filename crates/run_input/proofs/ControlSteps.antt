-- A control file, read with the files that it includes.
use Rattle.std.proofs.Common.{◌≡◌, ◌≢◌, ℕ, List, [], ◌∷◌, ◌++◌, length, map, Option, Some, None, IfSome, unwrap_or, slice_get, true, false, sym, ◌∙◌, ap}
use Rattle.std.specs.Option.{option_map}
use Rattle.std.specs.Global.{Vec}
use Rattle.edt_outside.specs.Shelves.{Files}
use Rattle.control_reader.specs.declared.control.Control.{Control}
use Rattle.control_reader.specs.declared.fault.ControlCause.TheVariants.{Memory}
use Rattle.control_reader.specs.declared.fault.ControlFault.{ControlFault}
use Rattle.control_reader.specs.ControlFile.{IsReading, IsControlFault, fault_at, line_place}
use Rattle.control_reader.specs.ControlLines.{ControlLine, control_lines, file_lines}
use Rattle.control_reader.specs.Includes.{AreIncludes, IsIncludeFault, name_fault_at}
use Rattle.control_reader.specs.ValuesOfLines.{values_in}
use Rattle.control_reader.proofs.ValueSteps.{says_values}
use Rattle.run_input.specs.declared.refusals.Refusal.{Refusal}
use Rattle.run_input.specs.declared.refusals.Refusal.TheVariants.{Control as control_is, ControlTooLong, Memory as memory_is}
use Rattle.run_input.specs.FilesUnder.{bytes_under, include_names, lines_under}
use Rattle.text_terms.specs.Faults.{first_cause}
use Rattle.run_input.specs.FirstRefusals.{file_refusal, include_fault, include_refusal, included_refusals, control_fault, lines_refusal, control_refusal}
use Rattle.run_input.specs.Refusals.{is_untold}
use Rattle.run_input.specs.Inside.Stages.{IsControlUnder, IsFile}
use Rattle.run_input.proofs.FaultyLaws.{faultless, faulty}
use Rattle.run_input.proofs.IncludedSteps.{AreRead}
use Rattle.text_terms.proofs.CauseLaws.{first_of_second, first_of_first, first_here, first_after}

-- a main file that was read whole
abbrev pub IsMain : Files → List ℕ → Vec ℕ → Type 0
IsMain files name main = (file_refusal name 1048576 (ControlTooLong 0) (files name) ≡ None) × IsFile (files name) 1048576 main

-- what is looked at after a main file of these bytes
abbrev after_bytes : Files → List ℕ → List (Option Refusal)
after_bytes files main =
    include_refusal main ∷ included_refusals files (include_names main) ++ lines_refusal (lines_under files main) ∷ []

-- the main file isn't there, or has too many bytes
pub main_stops : (F : Option Files) (name : List ℕ) (refusal : Refusal)
    → IfSome F (λ files. is_untold refusal ≡ false → file_refusal name 1048576 (ControlTooLong 0) (files name) ≡ Some refusal)
    → IfSome F (λ files. is_untold refusal ≡ false → control_refusal files name ≡ Some refusal)
unfolding control_refusal
main_stops None name refusal told = tt
main_stops (Some files) name refusal told = λ free. first_here _ (after_bytes files (bytes_under files name)) refusal (told free)

-- what is left after the main file
after_main : (files : Files) (name : List ℕ) (main : Vec ℕ) → IsMain files name main
    → control_refusal files name ≡ first_cause (after_bytes files main.items)
unfolding control_refusal
after_main files name main is =
    let under : bytes_under files name ≡ main.items = ap (λ o. unwrap_or o []) is.1.0 in
    first_after _ (after_bytes files (bytes_under files name)) is.0 ∙ ap (λ m. first_cause (after_bytes files m)) under

-- a line that includes a file has a fault
include_found : (main : List ℕ) (fault : ControlFault) → IsIncludeFault main fault → include_refusal main ≡ Some (control_is fault)
include_found main fault is =
    ap (option_map include_fault) (faulty (name_fault_at (file_lines 0 main)) (length (file_lines 0 main)) is.place fault.cause is.first)
    ∙ (ap (λ (n : ℕ). Some (control_is (record { file = 0; line = n; cause = fault.cause }))) (sym is.line)
    ∙ ap (λ (n : ℕ). Some (control_is (record { file = n; line = fault.line; cause = fault.cause }))) (sym is.file))

pub include_stops : (F : Option Files) (name : List ℕ) (main : Vec ℕ) (fault : ControlFault) → IfSome F (λ files. IsMain files name main)
    → IsIncludeFault main.items fault → IfSome F (λ files. control_refusal files name ≡ Some (control_is fault))
include_stops None name main fault told is = tt
include_stops (Some files) name main fault told is =
    after_main files name main told
    ∙ first_here _ (included_refusals files (include_names main.items) ++ lines_refusal (lines_under files main.items) ∷ [])
    (control_is fault) (include_found main.items fault is)

-- no line that includes a file has a fault
after_names : (files : Files) (name : List ℕ) (main : Vec ℕ) (names : List (List ℕ)) → IsMain files name main → AreIncludes main.items names
    → control_refusal files name ≡ first_cause (included_refusals files names ++ lines_refusal (lines_under files main.items) ∷ [])
after_names files name main names is are =
    let none : include_refusal main.items ≡ None =
    ap (option_map include_fault) (faultless (name_fault_at (file_lines 0 main.items)) (length (file_lines 0 main.items)) are.faultless) in
    after_main files name main is
    ∙ (first_after _ (included_refusals files (include_names main.items) ++ lines_refusal (lines_under files main.items) ∷ []) none
    ∙ ap (λ ns. first_cause (included_refusals files ns ++ lines_refusal (lines_under files main.items) ∷ [])) (sym are.listed))

-- an included file isn't there, or has too many bytes
pub included_stops : (F : Option Files) (name : List ℕ) (main : Vec ℕ) (names : List (List ℕ)) (refusal : Refusal)
    → IfSome F (λ files. IsMain files name main) → AreIncludes main.items names
    → IfSome F (λ files. is_untold refusal ≡ false → first_cause (included_refusals files names) ≡ Some refusal)
    → IfSome F (λ files. is_untold refusal ≡ false → control_refusal files name ≡ Some refusal)
included_stops None name main names refusal told are stops = tt
included_stops (Some files) name main names refusal told are stops =
    λ free. after_names files name main names told are
    ∙ first_of_first (included_refusals files names) (lines_refusal (lines_under files main.items) ∷ []) refusal (stops free)

-- all files were read: what is left is that of their lines
after_files : (files : Files) (name : List ℕ) (main : Vec ℕ) (names contents : List (List ℕ)) → IsMain files name main → AreIncludes main.items names
    → AreRead files names contents → control_refusal files name ≡ first_cause (lines_refusal (control_lines main.items contents) ∷ [])
after_files files name main names contents is are read =
    after_names files name main names is are
    ∙ (first_of_second (included_refusals files names) (lines_refusal (lines_under files main.items) ∷ []) read.0
    ∙ ap (λ cs. first_cause (lines_refusal (control_lines main.items cs) ∷ [])) (ap (map (bytes_under files)) (sym are.listed) ∙ sym read.1))

-- the control file has a fault
control_found : (lines : List ControlLine) (fault : ControlFault) (place : ℕ) → (fault.file, fault.line) ≡ line_place (slice_get lines place)
    → fault_at lines place ≡ Some fault.cause → control_fault lines (place, fault.cause) ≡ control_is fault
control_found lines fault place at here =
    ap (λ (p : ℕ × ℕ). control_is (record { file = p.0; line = p.1; cause = fault.cause })) (sym at)

pub control_stops : (F : Option Files) (name : List ℕ) (main : Vec ℕ) (names contents : List (List ℕ)) (fault : ControlFault)
    → IfSome F (λ files. IsMain files name main) → AreIncludes main.items names → IfSome F (λ files. AreRead files names contents)
    → IsControlFault main.items contents fault → IfSome F (λ files. control_refusal files name ≡ Some (control_is fault))
control_stops None name main names contents fault told are read is = tt
control_stops (Some files) name main names contents fault told are read is =
    let lines : List ControlLine = control_lines main.items contents in
    let found : lines_refusal lines ≡ Some (control_is fault) =
    ap (option_map (control_fault lines)) (faulty (fault_at lines) (length lines) is.place fault.cause is.first)
    ∙ ap Some (control_found lines fault is.place is.line is.first.here) in
    after_files files name main names contents told are read ∙ first_here _ [] (control_is fault) found

-- it has a reading
pub control_read : (F : Option Files) (name : List ℕ) (main : Vec ℕ) (names contents : List (List ℕ)) (control : Control)
    → IfSome F (λ files. IsMain files name main) → AreIncludes main.items names → IfSome F (λ files. AreRead files names contents)
    → IsReading main.items contents control → IfSome F (λ files. (control_refusal files name ≡ None) × IsControlUnder files name control)
control_read None name main names contents control told are read is = tt
control_read (Some files) name main names contents control told are read is =
    let lines : List ControlLine = control_lines main.items contents in
    let none : lines_refusal lines ≡ None =
    ap (option_map (control_fault lines)) (faultless (fault_at lines) (length lines) is.faultless) in
    let under : bytes_under files name ≡ main.items = ap (λ o. unwrap_or o []) told.1.0 in
    let same : lines ≡ lines_under files (bytes_under files name) =
    ap (control_lines main.items) (read.1 ∙ ap (map (bytes_under files)) are.listed) ∙ ap (lines_under files) (sym under) in (
      after_files files name main names contents told are read ∙ first_after _ [] none,
      says_values lines control is.says ∙ ap values_in same,
    )

-- a fault is a refusal of the file, or running out of memory, which tells nothing
refused : (found : Option Refusal) (fault : ControlFault) (refusal : Refusal) → (fault.cause ≢ Memory → found ≡ Some (control_is fault))
    → (fault.cause ≢ Memory → refusal ≡ control_is fault) → (fault.cause ≡ Memory → refusal ≡ memory_is)
    → is_untold refusal ≡ false → found ≡ Some refusal
refused found fault refusal is told memory free =
    let other : fault.cause ≢ Memory = λ same. let no : true ≡ false = sym (ap is_untold (memory same)) ∙ free in cc no in
    is other ∙ ap Some (sym (told other))

pub include_refused : (F : Option Files) (name : List ℕ) (main : Vec ℕ) (fault : ControlFault) (refusal : Refusal) → IfSome F (λ files. IsMain files name main)
    → (fault.cause ≢ Memory → IsIncludeFault main.items fault)
    → (fault.cause ≢ Memory → refusal ≡ control_is fault) → (fault.cause ≡ Memory → refusal ≡ memory_is)
    → IfSome F (λ files. is_untold refusal ≡ false → control_refusal files name ≡ Some refusal)
include_refused None name main fault refusal told is tells memory = tt
include_refused (Some files) name main fault refusal told is tells memory =
    refused (control_refusal files name) fault refusal (λ other. include_stops (Some files) name main fault told (is other)) tells memory

pub control_refused : (F : Option Files) (name : List ℕ) (main : Vec ℕ) (names contents : List (List ℕ)) (fault : ControlFault) (refusal : Refusal)
    → IfSome F (λ files. IsMain files name main) → AreIncludes main.items names → IfSome F (λ files. AreRead files names contents)
    → (fault.cause ≢ Memory → IsControlFault main.items contents fault)
    → (fault.cause ≢ Memory → refusal ≡ control_is fault) → (fault.cause ≡ Memory → refusal ≡ memory_is)
    → IfSome F (λ files. is_untold refusal ≡ false → control_refusal files name ≡ Some refusal)
control_refused None name main names contents fault refusal told are read is tells memory = tt
control_refused (Some files) name main names contents fault refusal told are read is tells memory =
    refused (control_refusal files name) fault refusal (λ other. control_stops (Some files) name main names contents fault told are read (is other)) tells memory
