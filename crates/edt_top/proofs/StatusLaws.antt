-- The statuses of refusals, and what was written with each.
use Rattle.std.proofs.Common.{◌≡◌, ℕ, true, false, List, [], ◌∷◌, Option, Some, None, IfSome, Err, inl, inr, refl, sym, ◌∙◌, subst, arith}
use Rattle.std.specs.Prelude.{IsTrue}
use Rattle.edt_outside.specs.Shelves.{Files}
use Rattle.edt_outside.specs.Sinks.{Appends}
use Rattle.run_input.proofs.SinkFronts.{appends_none}
use Rattle.run_input.specs.declared.refusals.Refusal.{Refusal}
use Rattle.run_input.specs.declared.refusals.Refusal.TheVariants.{Control, ControlTooLong, Phases, PhasesTooLong, Header, HeaderLong, Body, Align, Cells, Absent, Read, Memory}
use Rattle.run_input.specs.Refusals.{status_of}
use Rattle.run_input.specs.Statuses.{is_one_of}
use Rattle.edt_top.specs.declared.writing.WriteFault.{WriteFault}
use Rattle.edt_top.specs.declared.writing.WriteFault.TheVariants.{Failed, Memory as no_memory}
use Rattle.edt_top.specs.RunRefusals.{run_status, is_untold_run}
use Rattle.edt_top.specs.Runs.{IsWritten, joined}
use Rattle.edt_top.specs.Inside.Writing.{WritingEnds, refusal_of_write}

-- what is told says more
pub told_more : (P Q : Files → Type 0) (F : Option Files) → ((files : Files) → P files → Q files) → IfSome F P → IfSome F Q
told_more P Q None more told = tt
told_more P Q (Some files) more told = more files told

-- what holds whatever the files are
pub told_all : (Q : Files → Type 0) (F : Option Files) → ((files : Files) → Q files) → IfSome F Q
told_all Q None all = tt
told_all Q (Some files) all = all files

-- the statuses that a refusal of an input can have
input_status : (refusal : Refusal) → IsTrue (is_one_of (status_of refusal) (3 ∷ 4 ∷ 5 ∷ 6 ∷ 7 ∷ 9 ∷ []))
input_status (Control fault) = refl
input_status (ControlTooLong file) = refl
input_status (Phases fault) = refl
input_status PhasesTooLong = refl
input_status (Header name cause) = refl
input_status (HeaderLong name) = refl
input_status (Body name cause) = refl
input_status (Align name axis) = refl
input_status Cells = refl
input_status Memory = refl
input_status (Read name) = refl
input_status (Absent name) = refl

-- and none of the others
pub no_input_status : (refusal : Refusal) (status : ℕ) → is_one_of status (3 ∷ 4 ∷ 5 ∷ 6 ∷ 7 ∷ 9 ∷ []) ≡ false → status_of refusal ≡ status → ⊥
no_input_status refusal status none is =
    let some : is_one_of status (3 ∷ 4 ∷ 5 ∷ 6 ∷ 7 ∷ 9 ∷ []) ≡ true = subst (λ s. IsTrue (is_one_of s (3 ∷ 4 ∷ 5 ∷ 6 ∷ 7 ∷ 9 ∷ []))) is (input_status refusal) in
    let no : true ≡ false = sym some ∙ none in
    cc no

-- nothing was written where the input is refused
pub refused_written : (IsText : List (List ℕ) → Type 0) (refusal : Refusal) (before after : Option (List ℕ)) → after ≡ before
    → IsWritten IsText (status_of refusal) (Appends before after)
refused_written IsText refusal before after same = record {
  whole = λ is. absurd (no_input_status refusal 0 refl is);
  front = λ is. inl (appends_none before after same);
  cut_short = λ is. absurd (no_input_status refusal 8 refl is);
}

-- all parts of a text were written
pub all_written : (IsText : List (List ℕ) → Type 0) (parts : List (List ℕ)) (Has : List ℕ → Type 0) → IsText parts → Has (joined parts) → IsWritten IsText 0 Has
all_written IsText parts Has is told = record {
  whole = λ at. (parts, is, told);
  front = λ at. absurd (omega arith);
  cut_short = λ at. absurd (omega arith);
}

-- the writing of them ended with a fault
pub fault_written : (IsText : List (List ℕ) → Type 0) (parts : List (List ℕ)) (fault : WriteFault) (Has : List ℕ → Type 0) → IsText parts
    → WritingEnds parts (Err fault) Has → IsWritten IsText (run_status (refusal_of_write fault)) Has
fault_written IsText parts Failed Has is told = record {
  whole = λ at. absurd (omega arith);
  front = λ at. absurd (omega arith);
  cut_short = λ at. (parts, is, told);
}
fault_written IsText parts no_memory Has is told = record {
  whole = λ at. absurd (omega arith);
  front = λ at. inr (parts, is, told.0, told.1, told.2);
  cut_short = λ at. absurd (omega arith);
}

-- the files tell no fault of writing
pub write_untold : (fault : WriteFault) → is_untold_run (refusal_of_write fault) ≡ true
write_untold Failed = refl
write_untold no_memory = refl
