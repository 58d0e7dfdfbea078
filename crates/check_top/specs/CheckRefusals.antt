-- The refusals of a run: the status and the line of each.
use Rattle.std.specs.Prelude.{ℕ, Bool, true, false, List, [], ◌∷◌, Result, Ok, Err, codes, decimal}
use Rattle.run_input.specs.Lines.{told_line, write_line}
use Rattle.run_input.specs.RefusalLines.{is_named, refusal_line}
use Rattle.run_input.specs.Refusals.{is_cause, is_untold, status_of}
use Rattle.check_top.specs.declared.refusals.CheckRefusal.{CheckRefusal}
use Rattle.check_top.specs.declared.refusals.CheckRefusal.TheVariants.{Input, Report, ReportTooLong, Write}
use Rattle.check_top.specs.declared.report.fault.ReportCause.{ReportCause}
use Rattle.check_top.specs.declared.report.fault.ReportCause.TheVariants.{Form, Number, Limit, Events, Memory}
use Rattle.check_top.specs.declared.report.fault.ReportFault.{ReportFault}

-- the word that the lines of this program begin with
abbrev pub program : List ℕ
program = codes "edtcheck:"

-- the name of a cause of a report
abbrev pub cause_name : ReportCause → List ℕ
cause_name Form = codes "Form"
cause_name Number = codes "Number"
cause_name Limit = codes "Limit"
cause_name Events = codes "Events"
cause_name Memory = codes "Memory"

-- the first faulty line of a report
unfoldable pub report_line : ReportFault → List ℕ
report_line fault = told_line program (codes "report" ∷ decimal fault.line ∷ cause_name fault.cause ∷ [])

-- a report past its limit
abbrev pub report_too_long_line : List ℕ
report_too_long_line = told_line program (codes "report" ∷ codes "0" ∷ codes "TooLong" ∷ [])

-- the status that names a refusal
abbrev pub refusal_status : CheckRefusal → ℕ
refusal_status (Input refusal) = status_of refusal
refusal_status (Report fault) = 10
refusal_status ReportTooLong = 10
refusal_status Write = 8

-- the line that tells of it
abbrev pub check_refusal_line : CheckRefusal → List ℕ
check_refusal_line (Input refusal) = refusal_line program refusal
check_refusal_line (Report fault) = report_line fault
check_refusal_line ReportTooLong = report_too_long_line
check_refusal_line Write = write_line program

-- the status of a run that is done: 1 where some certificate was refused
abbrev pub done_status : Bool → ℕ
done_status false = 0
done_status true = 1

-- the status of a run that ends so
abbrev pub status_after : Result Bool CheckRefusal → ℕ
status_after (Ok refused) = done_status refused
status_after (Err refusal) = refusal_status refusal

-- running out of memory, failed calls and failed writes aren't told by the files
abbrev pub is_untold_check : CheckRefusal → Bool
is_untold_check (Input refusal) = is_untold refusal
is_untold_check (Report fault) = false
is_untold_check ReportTooLong = false
is_untold_check Write = true

-- the cause is that of some line, and isn't that memory ran out
abbrev pub is_report_cause : ReportCause → Bool
is_report_cause Form = true
is_report_cause Number = true
is_report_cause Limit = true
is_report_cause Events = true
is_report_cause Memory = false

-- the cause of a refusal is one that files have
abbrev pub is_check_cause : CheckRefusal → Bool
is_check_cause (Input refusal) = is_cause refusal
is_check_cause (Report fault) = is_report_cause fault.cause
is_check_cause ReportTooLong = true
is_check_cause Write = true

-- the file that a refusal names has a name, where it names one
abbrev pub is_named_check : CheckRefusal → Bool
is_named_check (Input refusal) = is_named refusal
is_named_check (Report fault) = true
is_named_check ReportTooLong = true
is_named_check Write = true
