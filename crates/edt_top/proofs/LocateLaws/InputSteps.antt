-- How a run that locates ends, by its input.
use Rattle.std.proofs.Common.{◌≡◌, ℕ, List, Option, Some, None, IfSome, IfOk, Ok, Err, false, ap, subst, sym}
use Rattle.edt_outside.specs.Shelves.{Files}
use Rattle.run_input.specs.declared.input.RunInput.{RunInput}
use Rattle.run_input.specs.declared.refusals.Refusal.{Refusal}
use Rattle.run_input.specs.Inputs.{input_of, input_value}
use Rattle.run_input.specs.Refusals.{IsAnswer}
use Rattle.edt_top.specs.declared.refusals.RunRefusal.TheVariants.{Input}
use Rattle.edt_top.specs.declared.writing.WriteFault.{WriteFault}
use Rattle.edt_top.specs.Commands.{Locate}
use Rattle.edt_top.specs.Locate.Covers.{AreCoversShortest}
use Rattle.edt_top.specs.Locate.Text.{locate_parts}
use Rattle.edt_top.specs.RunEndings.{locate_ending}
use Rattle.edt_top.specs.RunRefusals.{is_untold_run, run_status}
use Rattle.edt_top.specs.Runs.{HasShortestCovers, IsWritten, joined}
use Rattle.edt_top.specs.Inside.Writing.{WritingEnds, refusal_of_write}
use Rattle.edt_top.proofs.StatusLaws.{all_written, fault_written}

-- the input is refused
pub input_refused : (F : Option Files) (name : List ℕ) (refusal : Refusal) → IfSome F (λ files. IsAnswer input_value (input_of files name) (Err refusal))
    → IfSome F (λ files. is_untold_run (Input refusal) ≡ false → locate_ending (input_of files name) ≡ Err (Input refusal))
input_refused None name refusal told = tt
input_refused (Some files) name refusal told = λ free. ap locate_ending (told free)

-- its text was written whole
pub input_written : (F : Option Files) (name : List ℕ) (input : RunInput) (Has : List ℕ → Type 0)
    → IfSome F (λ files. IsAnswer input_value (input_of files name) (Ok input)) → Has (joined (locate_parts (input_value input)))
    → IfSome F (λ files. IsWritten (λ (parts : List (List ℕ)). locate_ending (input_of files name) ≡ Ok parts) 0 Has)
input_written None name input Has told all = tt
input_written (Some files) name input Has told all = all_written _ (locate_parts (input_value input)) Has (ap locate_ending told) all

-- the writing of it ended with a fault
pub input_cut : (F : Option Files) (name : List ℕ) (input : RunInput) (fault : WriteFault) (Has : List ℕ → Type 0)
    → IfSome F (λ files. IsAnswer input_value (input_of files name) (Ok input)) → WritingEnds (locate_parts (input_value input)) (Err fault) Has
    → IfSome F (λ files. IsWritten (λ (parts : List (List ℕ)). locate_ending (input_of files name) ≡ Ok parts) (run_status (refusal_of_write fault)) Has)
input_cut None name input fault Has told ended = tt
input_cut (Some files) name input fault Has told ended = fault_written _ (locate_parts (input_value input)) fault Has (ap locate_ending told) ended

-- the covers of the input are the shortest
pub input_covers : (F : Option Files) (name : List ℕ) (input : RunInput) → IfSome F (λ files. IsAnswer input_value (input_of files name) (Ok input))
    → AreCoversShortest (input_value input) → IfSome F (λ files. HasShortestCovers files (Locate name))
input_covers None name input told shortest = tt
input_covers (Some files) name input told shortest = subst (λ answer. IfOk answer AreCoversShortest) (sym told) shortest
