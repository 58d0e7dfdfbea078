-- How a run ends, by its input and its report.
use Rattle.std.proofs.Common.{◌≡◌, ◌≢◌, ℕ, Bool, List, [], ◌∷◌, length, map, Option, Some, None, IfSome, Ok, Err, true, false, refl, sym, ◌∙◌, ap, subst, arith}
use Rattle.std.specs.Prelude.{IsSomeAnd, IsTrue, All, zip, ◌<◌}
use Rattle.std.proofs.lemmas.Bool.Decides.{nat_tests}
use Rattle.std.proofs.lemmas.List.Elements.{All-cons, All-head, All-tail}
use Rattle.std.specs.Global.{Vec}
use Rattle.std.proofs.lemmas.Bool.{le-ltb, lt-ltb}
use Rattle.text_terms.specs.Lines.{lines_of}
use Rattle.edt_outside.specs.Shelves.{Files}
use Rattle.edt_outside.specs.ReadFaults.{ReadsWhole}
use Rattle.edt_outside.specs.declared.faults.ReadFault.TheVariants.{Absent as read_absent, TooLong as read_long}
use Rattle.cover_certificate.specs.declared.block.Block.{Block}
use Rattle.cover_certificate.specs.Blocks.{BlockValue, block_value}
use Rattle.event_assembly.specs.AssemblyValues.{EventValues}
use Rattle.run_input.specs.FilesUnder.{lacks_a_header_under}
use Rattle.run_input.specs.Inputs.{InputValues, input_of, input_value}
use Rattle.run_input.specs.Refusals.{IsAnswer}
use Rattle.run_input.specs.Statuses.{is_one_of}
use Rattle.run_input.specs.Told.{IsCutShort}
use Rattle.run_input.specs.declared.input.RunInput.{RunInput}
use Rattle.run_input.specs.declared.refusals.Refusal.{Refusal}
use Rattle.run_input.specs.declared.refusals.Refusal.TheVariants.{Absent}
use Rattle.check_top.specs.declared.refusals.CheckRefusal.{CheckRefusal}
use Rattle.check_top.specs.declared.refusals.CheckRefusal.TheVariants.{Input, Report, ReportTooLong}
use Rattle.check_top.specs.declared.report.fault.ReportCause.TheVariants.{Memory}
use Rattle.check_top.specs.declared.report.fault.ReportFault.{ReportFault}
use Rattle.check_top.specs.CheckEndings.{AreTrue, CheckValues, EndsTrue, check_ending, check_text, event_answer, report_ending, some_refused, values_of}
use Rattle.check_top.specs.CheckRefusals.{done_status, is_untold_check, refusal_status}
use Rattle.check_top.specs.CheckRuns.{IsWritten}
use Rattle.check_top.specs.Commands.{CheckCommand}
use Rattle.check_top.specs.EventAnswers.{AnswerValue, IsTrueAnswer}
use Rattle.check_top.specs.Reports.{report_of}
use Rattle.check_top.specs.Inside.Checks.{IsTrueWith}
use Rattle.check_top.specs.Inside.Endings.{AreReportBlocks, IsReportBytes}
use Rattle.check_top.proofs.RunLaws.{no_done}

-- a report that isn't there
pub report_absent : (F : Option Files) (name text shown : List ℕ) → shown ≡ name → text ≡ name
    → IfSome F (λ files. ReadsWhole (files text) 268435456 (Err read_absent)) → IfSome F (λ files. IsReportBytes name (files name) (Err (Input (Absent shown))))
unfolding report_ending
report_absent None name text shown same named told = tt
report_absent (Some files) name text shown same named told = λ free input.
    let none : files name ≡ None = subst (λ (t : List ℕ). files t ≡ None) named told in
    rw (none, same) refl

-- one past its limit
past_limit : (name : List ℕ) (file : Option (List ℕ)) (input : InputValues) → IsSomeAnd file (λ bytes. 268435456 < length bytes) → report_ending input name file ≡ Err ReportTooLong
unfolding report_ending
past_limit name None input long = absurd long
past_limit name (Some bytes) input long = rw (lt-ltb 268435456 (length bytes) long) refl

pub report_long : (F : Option Files) (name text : List ℕ) → text ≡ name
    → IfSome F (λ files. ReadsWhole (files text) 268435456 (Err read_long)) → IfSome F (λ files. IsReportBytes name (files name) (Err ReportTooLong))
report_long None name text named told = tt
report_long (Some files) name text named told = λ free input.
    past_limit name (files name) input (subst (λ (t : List ℕ). IsSomeAnd (files t) (λ bytes. 268435456 < length bytes)) named told)

-- the bytes of a report
pub report_bytes : (F : Option Files) (name text : List ℕ) (bytes : Vec ℕ) → text ≡ name
    → IfSome F (λ files. ReadsWhole (files text) 268435456 (Ok bytes)) → IfSome F (λ files. IsReportBytes name (files name) (Ok bytes))
report_bytes None name text bytes named told = tt
report_bytes (Some files) name text bytes named told = subst (λ (t : List ℕ). ReadsWhole (files t) 268435456 (Ok bytes)) named told

-- a refusal of the bytes is one of the blocks
pub bytes_refused : (F : Option Files) (name : List ℕ) (refusal : CheckRefusal) (input : InputValues) → IfSome F (λ files. IsReportBytes name (files name) (Err refusal))
    → IfSome F (λ files. AreReportBlocks input name (files name) (Err refusal))
bytes_refused None name refusal input told = tt
bytes_refused (Some files) name refusal input told = λ free. told free input

-- the blocks of a report
pub report_blocks : (F : Option Files) (name : List ℕ) (bytes : Vec ℕ) (blocks : Vec Block) (input : InputValues) (events : ℕ) → events ≡ length input.assembly.events
    → IfSome F (λ files. IsReportBytes name (files name) (Ok bytes)) → report_of events (lines_of bytes.items) ≡ Ok (map block_value blocks.items)
    → IfSome F (λ files. AreReportBlocks input name (files name) (Ok blocks))
unfolding report_ending
report_blocks None name bytes blocks input events count told read = tt
report_blocks (Some files) name bytes blocks input events count told read =
    let here : report_of (length input.assembly.events) (lines_of bytes.items) ≡ Ok (map block_value blocks.items) = rw count at read in
    rw (told.0, le-ltb 268435456 (length bytes.items) told.1, here) refl

-- a faulty report
pub report_faulty : (F : Option Files) (name : List ℕ) (bytes : Vec ℕ) (fault : ReportFault) (refusal : CheckRefusal) (input : InputValues) (events : ℕ) → events ≡ length input.assembly.events
    → IfSome F (λ files. IsReportBytes name (files name) (Ok bytes)) → (fault.cause ≢ Memory → report_of events (lines_of bytes.items) ≡ Err fault)
    → (fault.cause ≢ Memory → refusal ≡ Report fault) → (fault.cause ≡ Memory → is_untold_check refusal ≡ true)
    → IfSome F (λ files. AreReportBlocks input name (files name) (Err refusal))
unfolding report_ending
report_faulty None name bytes fault refusal input events count told read is memory = tt
report_faulty (Some files) name bytes fault refusal input events count told read is memory = λ free.
    let other : fault.cause ≢ Memory = λ same. let no : true ≡ false = sym (memory same) ∙ free in cc in
    let here : report_of (length input.assembly.events) (lines_of bytes.items) ≡ Err fault = rw count at read other in
    rw (told.0, le-ltb 268435456 (length bytes.items) told.1, here, is other) refl

-- the input is refused
pub input_refused : (F : Option Files) (command : CheckCommand) (refusal : Refusal) → IfSome F (λ files. IsAnswer input_value (input_of files command.control) (Err refusal))
    → IfSome F (λ files. is_untold_check (Input refusal) ≡ false → check_ending files command ≡ Err (Input refusal))
unfolding check_ending
input_refused None command refusal told = tt
input_refused (Some files) command refusal told = λ free. rw (told free) refl

-- the report is refused
pub report_refused : (F G : Option Files) (command : CheckCommand) (input : RunInput) (refusal : CheckRefusal) → G ≡ F
    → IfSome F (λ files. IsAnswer input_value (input_of files command.control) (Ok input))
    → IfSome G (λ files. AreReportBlocks (input_value input) command.report (files command.report) (Err refusal))
    → IfSome F (λ files. is_untold_check refusal ≡ false → check_ending files command ≡ Err refusal)
unfolding check_ending
report_refused F G command input refusal same read told = stops F read (rw same at told)
  where
    stops : (F : Option Files) → IfSome F (λ files. IsAnswer input_value (input_of files command.control) (Ok input))
        → IfSome F (λ files. AreReportBlocks (input_value input) command.report (files command.report) (Err refusal))
        → IfSome F (λ files. is_untold_check refusal ≡ false → check_ending files command ≡ Err refusal)
    stops None read told = tt
    stops (Some files) read told = λ free. rw read (told free)

-- nothing is refused
pub ends_so : (F G : Option Files) (command : CheckCommand) (input : RunInput) (blocks : Vec Block) → G ≡ F
    → IfSome F (λ files. IsAnswer input_value (input_of files command.control) (Ok input))
    → IfSome G (λ files. AreReportBlocks (input_value input) command.report (files command.report) (Ok blocks))
    → IfSome F (λ files. check_ending files command ≡ Ok (values_of (input_value input) (map block_value blocks.items)))
unfolding check_ending
ends_so F G command input blocks same read told = ends F read (rw same at told)
  where
    ends : (F : Option Files) → IfSome F (λ files. IsAnswer input_value (input_of files command.control) (Ok input))
        → IfSome F (λ files. AreReportBlocks (input_value input) command.report (files command.report) (Ok blocks))
        → IfSome F (λ files. check_ending files command ≡ Ok (values_of (input_value input) (map block_value blocks.items)))
    ends None read told = tt
    ends (Some files) read told = rw read told

-- nothing was written where the run is refused before
pub refused_written : (AreAnswers : CheckValues → Type 0) (refusal : CheckRefusal) (Has : List ℕ → Type 0) → refusal_status refusal ≢ 8
    → IsWritten AreAnswers (refusal_status refusal) Has
refused_written AreAnswers refusal Has other = record { whole = λ one. absurd (no_done refusal one); cut_short = λ at. absurd (other at) }

pub refused_told : (F : Option Files) (AreAnswers : Files → CheckValues → Type 0) (refusal : CheckRefusal) (Has : List ℕ → Type 0) → refusal_status refusal ≢ 8
    → IfSome F (λ files. IsWritten (AreAnswers files) (refusal_status refusal) Has)
refused_told None AreAnswers refusal Has other = tt
refused_told (Some files) AreAnswers refusal Has other = refused_written (AreAnswers files) refusal Has other

-- a stage of reading is refused with one of its statuses
pub not_8 : (status : ℕ) → IsTrue (is_one_of status (6 ∷ 7 ∷ 9 ∷ 10 ∷ [])) → status ≢ 8
not_8 status one same = let no = subst (λ s. IsTrue (is_one_of s (6 ∷ 7 ∷ 9 ∷ 10 ∷ []))) same one in cc no

pub not_3_4 : (status : ℕ) → IsTrue (is_one_of status (6 ∷ 7 ∷ 9 ∷ 10 ∷ [])) → IsTrue (is_one_of status (3 ∷ 4 ∷ [])) → ⊥
not_3_4 status one other = grind (arith, nat_tests)

-- the lines were written, or a write failed
pub all_written : (AreAnswers : CheckValues → Type 0) (values : CheckValues) (refused : Bool) (text : List ℕ) (Has : List ℕ → Type 0) → AreAnswers values
    → text ≡ check_text values → refused ≡ some_refused values → Has text → IsWritten AreAnswers (done_status refused) Has
all_written AreAnswers values refused text Has are is same written = record {
  whole = λ one. (values, are, ap done_status (sym same), subst Has is written);
  cut_short = λ at. absurd (no_8 refused at);
}
  where
    no_8 : (b : Bool) → done_status b ≡ 8 → ⊥
    no_8 true at = omega arith
    no_8 false at = omega arith

pub cut_written : (AreAnswers : CheckValues → Type 0) (values : CheckValues) (text : List ℕ) (Has : List ℕ → Type 0) → AreAnswers values
    → text ≡ check_text values → IsCutShort Has text → IsWritten AreAnswers 8 Has
cut_written AreAnswers values text Has are is cut = record {
  whole = λ one. absurd (cc one);
  cut_short = λ at. (values, are, subst (IsCutShort Has) is cut);
}

pub all_told : (F : Option Files) (command : CheckCommand) (values : CheckValues) (refused : Bool) (text : List ℕ) (Has : List ℕ → Type 0)
    → IfSome F (λ files. check_ending files command ≡ Ok values) → text ≡ check_text values → refused ≡ some_refused values → Has text
    → IfSome F (λ files. IsWritten (λ (v : CheckValues). check_ending files command ≡ Ok v) (done_status refused) Has)
all_told None command values refused text Has ends is same written = tt
all_told (Some files) command values refused text Has ends is same written = all_written _ values refused text Has ends is same written

pub cut_told : (F : Option Files) (command : CheckCommand) (values : CheckValues) (text : List ℕ) (Has : List ℕ → Type 0)
    → IfSome F (λ files. check_ending files command ≡ Ok values) → text ≡ check_text values → IsCutShort Has text
    → IfSome F (λ files. IsWritten (λ (v : CheckValues). check_ending files command ≡ Ok v) 8 Has)
cut_told None command values text Has ends is cut = tt
cut_told (Some files) command values text Has ends is cut = cut_written _ values text Has ends is cut

-- what is said of the events is true
zip_map : {A B C : Type 0} (f : A × B → C) (P : A × C → Type 0) (xs : List A) (ys : List B) → All (λ (p : A × B). P (p.0, f p)) (zip xs ys)
    → All P (zip xs (map f (zip xs ys)))
zip_map f P [] ys all = λ k d less. absurd (omega arith)
zip_map f P (x ∷ xs) [] all = λ k d less. absurd (omega arith)
zip_map f P (x ∷ xs) (y ∷ ys) all =
    All-cons P (x, f (x, y)) (zip xs (map f (zip xs ys))) (All-head (λ p. P (p.0, f p)) (x, y) (zip xs ys) all)
    (zip_map f P xs ys (All-tail (λ p. P (p.0, f p)) (x, y) (zip xs ys) all))

pub are_true : (input : InputValues) (blocks : List BlockValue) → All (IsTrueWith input.control.shape input) (zip input.assembly.events blocks) → AreTrue input (values_of input blocks)
are_true input blocks all =
    zip_map (event_answer input) (λ (event : EventValues × AnswerValue). IsTrueAnswer input.control.shape input.assembly.field input.control.margin event.0.case event.1)
    input.assembly.events blocks all

pub ends_true : (F : Option Files) (command : CheckCommand) (input : RunInput) (values : CheckValues)
    → IfSome F (λ files. IsAnswer input_value (input_of files command.control) (Ok input)) → IfSome F (λ files. check_ending files command ≡ Ok values)
    → AreTrue (input_value input) values → IfSome F (λ files. EndsTrue files command)
ends_true None command input values read ends truth = tt
ends_true (Some files) command input values read ends truth = rw (read, ends) truth

-- the count of lacking files after a step that asks for none
pub told_lacks_more : (F : Option Files) (name : List ℕ) (first mid last : ℕ) → IfSome F (λ files. lacks_a_header_under files name ≡ false → mid ≡ first) → last ≡ mid
    → IfSome F (λ files. lacks_a_header_under files name ≡ false → last ≡ first)
told_lacks_more None name first mid last before step = tt
told_lacks_more (Some files) name first mid last before step = λ none. step ∙ before none
