-- How a run ends whose report is its own text.
use Rattle.std.proofs.Common.{◌≡◌, arith, ℕ, ◌<◌, ◌^◌, Bool, true, false, inl, inr, List, [], ◌∷◌, length, Option, Some, None, IfSome, IfErr, Result, Ok, Err, refl, sym, ◌∙◌, ap, subst}
use Rattle.std.specs.Prelude.{IsTrue}
use Rattle.std.proofs.lemmas.Bool.{le-ltb}
use Rattle.std.proofs.lemmas.Bool.Decides.{nat_tests}
use Rattle.text_terms.proofs.Cases.{by_bool}
use Rattle.edt_outside.specs.Shelves.{Files}
use Rattle.node_boxes.specs.Roots.{AreRoots}
use Rattle.run_input.specs.declared.input.RunInput.{RunInput}
use Rattle.run_input.specs.declared.refusals.Refusal.{Refusal}
use Rattle.run_input.specs.Inputs.{InputValues, IsInput, input_of, input_value}
use Rattle.run_input.specs.Refusals.{IsAnswer, is_untold, status_of}
use Rattle.run_input.specs.Statuses.{is_one_of}
use Rattle.check_top.specs.declared.refusals.CheckRefusal.{CheckRefusal}
use Rattle.check_top.specs.declared.refusals.CheckRefusal.TheVariants.{Input, Report, ReportTooLong, Write}
use Rattle.check_top.specs.CheckEndings.{CheckEnding, CheckValues, check_ending, report_ending, some_refused, values_of}
use Rattle.check_top.specs.CheckRefusals.{done_status, is_untold_check, refusal_status, status_after}
use Rattle.check_top.specs.CheckRuns.{IsWritten}
use Rattle.check_top.specs.Commands.{CheckCommand}
use Rattle.check_top.specs.OwnReports.{IsOwnReport, IsPlainInput, own_blocks, own_text}
use Rattle.check_top.proofs.OwnAnswers.{own_accepted}
use Rattle.check_top.proofs.OwnInputs.{input_plain, input_roots}
use Rattle.check_top.proofs.OwnSections.{own_read}

-- a run on its own text ends with the answers for its certificates
own_ending : (files : Files) (command : CheckCommand) (own : IsOwnReport files command) → IsPlainInput own.input
    → check_ending files command ≡ Ok (values_of own.input (own_blocks own.input))
unfolding check_ending report_ending
own_ending files command own plain =
    rw (own.read, own.report, le-ltb 268435456 (length (own_text own.input)) own.within, own_read own.input plain) refl

-- the statuses that it can have
abbrev pub IsOwnStatus : ℕ → Type 0
IsOwnStatus status = IsTrue (is_one_of status (0 ∷ 6 ∷ 7 ∷ 8 ∷ []))

-- a refusal that the files don't tell has one of them
untold_input : (refusal : Refusal) → is_untold refusal ≡ true → IsOwnStatus (status_of refusal)
untold_input refusal untold = grind (arith, nat_tests)

untold_own : (refusal : CheckRefusal) → is_untold_check refusal ≡ true → IsOwnStatus (refusal_status refusal)
untold_own (Input refusal) untold = untold_input refusal untold
untold_own (Report fault) untold = absurd (cc untold)
untold_own ReportTooLong untold = absurd (cc untold)
untold_own Write untold = refl

-- lines without a refusal
done_own : (refused : Bool) → refused ≡ false → IsOwnStatus (done_status refused)
done_own refused none = rw none refl

-- an ending with answers of which none is refused
ended_own : (ending : CheckEnding) (values : CheckValues) (ended : Result Bool CheckRefusal) (Has : List ℕ → Type 0) → ending ≡ Ok values
    → some_refused values ≡ false → IfErr ended (λ refusal. is_untold_check refusal ≡ false → ending ≡ Err refusal)
    → IsWritten (λ (v : CheckValues). ending ≡ Ok v) (status_after ended) Has → IsOwnStatus (status_after ended)
ended_own ending values (Err refusal) Has is none refused written = elim (by_bool (is_untold_check refusal)) [
  | inl untold ↦ untold_own refusal untold
  | inr told ↦ let no : Ok values ≡ Err refusal = sym is ∙ refused told in absurd (cc no)
]
ended_own ending values (Ok false) Has is none refused written = refl
ended_own ending values (Ok true) Has is none refused written =
    let whole = written.whole refl in
    let both : Ok whole.0 ≡ Ok values = sym whole.1 ∙ is in
    let same : whole.0 ≡ values = cc both in
    let no : 0 ≡ 1 = ap done_status (sym (ap some_refused same ∙ none)) ∙ whole.2 in
    absurd (cc no)

-- the input is refused
pub own_refused : (F : Option Files) (command : CheckCommand) (refusal : Refusal) → IfSome F (λ files. IsAnswer input_value (input_of files command.control) (Err refusal))
    → IfSome F (λ files. IsOwnReport files command → IsOwnStatus (status_of refusal))
own_refused None command refusal told = tt
own_refused (Some files) command refusal told = λ own. elim (by_bool (is_untold refusal)) [
  | inl untold ↦ untold_input refusal untold
  | inr free ↦ let no : Ok own.input ≡ Err refusal = sym own.read ∙ told free in absurd (cc no)
]

-- the input is read
pub own_ended : (F : Option Files) (command : CheckCommand) (input : RunInput) (ended : Result Bool CheckRefusal) (Has : List ℕ → Type 0) → IsInput input
    → input.control.passed < 2 ^ 32 → input.phases.passed < 2 ^ 32
    → IfSome F (λ files. IsAnswer input_value (input_of files command.control) (Ok input))
    → IfSome F (λ files. IfErr ended (λ refusal. is_untold_check refusal ≡ false → check_ending files command ≡ Err refusal))
    → IfSome F (λ files. IsWritten (λ (v : CheckValues). check_ending files command ≡ Ok v) (status_after ended) Has)
    → IfSome F (λ files. IsOwnReport files command → IsOwnStatus (status_after ended))
own_ended None command input ended Has is control_passed phases_passed told refused written = tt
own_ended (Some files) command input ended Has is control_passed phases_passed told refused written = λ own.
    let both : Ok (input_value input) ≡ Ok own.input = sym told ∙ own.read in
    let same : input_value input ≡ own.input = cc both in
    let plain : IsPlainInput own.input = subst IsPlainInput same (input_plain files command.control input is told control_passed phases_passed) in
    let roots = subst (λ (i : InputValues). AreRoots i.assembly.field.grid i.assembly.field.roots) same (input_roots input is) in
    ended_own (check_ending files command) (values_of own.input (own_blocks own.input)) ended Has (own_ending files command own plain)
    (own_accepted own.input roots) refused written

-- the status is one of them whatever the files are
pub own_always : (F : Option Files) (command : CheckCommand) (status : ℕ) → IsOwnStatus status → IfSome F (λ files. IsOwnReport files command → IsOwnStatus status)
own_always None command status one = tt
own_always (Some files) command status one = λ own. one

-- nothing is refused where the run is done
pub none_told : (F : Option Files) (command : CheckCommand) (refused : Bool)
    → IfSome F (λ files. IfErr (Ok refused) (λ refusal. is_untold_check refusal ≡ false → check_ending files command ≡ Err refusal))
none_told None command refused = tt
none_told (Some files) command refused = tt
