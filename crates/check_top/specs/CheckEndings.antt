-- How a run ends, as one function of the files of its shelf and its command: with the lines of its events, or with its first refusal.
use Rattle.std.specs.Prelude.{ℕ, nat_lt, Bool, if◌then◌else◌, List, length, map, zip, All, Option, Some, None, Result, Ok, Err, IfOk}
use Rattle.std.specs.List.{list_any}
use Rattle.text_terms.specs.Lines.{lines_of}
use Rattle.edt_outside.specs.Shelves.{Files}
use Rattle.node_boxes.specs.declared.frame.Frame.{Frame}
use Rattle.event_assembly.specs.AssemblyValues.{EventValues}
use Rattle.cover_certificate.specs.Blocks.{BlockValue}
use Rattle.run_input.specs.declared.refusals.Refusal.{Refusal}
use Rattle.run_input.specs.declared.refusals.Refusal.TheVariants.{Absent}
use Rattle.run_input.specs.Inputs.{InputValues, input_of}
use Rattle.check_top.specs.declared.refusals.CheckRefusal.{CheckRefusal}
use Rattle.check_top.specs.declared.refusals.CheckRefusal.TheVariants.{Input, Report, ReportTooLong}
use Rattle.check_top.specs.declared.report.fault.ReportFault.{ReportFault}
use Rattle.check_top.specs.CheckLines.{check_lines}
use Rattle.check_top.specs.Commands.{CheckCommand}
use Rattle.check_top.specs.EventAnswers.{AnswerValue, answer_of, is_refused, IsTrueAnswer}
use Rattle.check_top.specs.Reports.{report_of}

-- the answers for events in a frame
pub record CheckValues : Type 0 where
  pub frame : Frame
  pub answers : List AnswerValue

-- the answer for an event of an input and its block
abbrev pub event_answer : InputValues → EventValues × BlockValue → AnswerValue
event_answer input event = answer_of input.control.shape input.assembly.field input.control.margin event.0.case event.1

-- the answers for the events of an input, each with its block
abbrev pub values_of : InputValues → List BlockValue → CheckValues
values_of input blocks = record {
  frame = input.control.frame;
  answers = map (event_answer input) (zip input.assembly.events blocks);
}

-- the text of the answers
abbrev pub check_text : CheckValues → List ℕ
check_text values = check_lines values.frame values.answers

-- some certificate is refused
abbrev pub some_refused : CheckValues → Bool
some_refused values = list_any is_refused values.answers

-- what the answers say of the events of an input is true
abbrev pub AreTrue : InputValues → CheckValues → Type 0
AreTrue input values =
    All (λ (event : EventValues × AnswerValue).
    IsTrueAnswer input.control.shape input.assembly.field input.control.margin event.0.case event.1)
    (zip input.assembly.events values.answers)

-- the answers, or the first refusal
abbrev pub CheckEnding : Type 0
CheckEnding = Result CheckValues CheckRefusal

-- the first faulty line of a report, or the answers by its blocks
abbrev pub answered : InputValues → Result (List BlockValue) ReportFault → CheckEnding
answered input (Ok blocks) = Ok (values_of input blocks)
answered input (Err fault) = Err (Report fault)

-- the ending of what stands under the name of a report: it isn't there, or passes its limit, or else is that of its lines
unfoldable pub report_ending : InputValues → List ℕ → Option (List ℕ) → CheckEnding
report_ending input name None = Err (Input (Absent name))
report_ending input name (Some bytes) =
    if nat_lt 268435456 (length bytes) then Err ReportTooLong
    else answered input (report_of (length input.assembly.events) (lines_of bytes))

-- the ending of an input: that of its report, or its refusal
abbrev pub input_ending : Files → List ℕ → Result InputValues Refusal → CheckEnding
input_ending files report (Ok input) = report_ending input report (files report)
input_ending files report (Err refusal) = Err (Input refusal)

-- the ending of a command
unfoldable pub check_ending : Files → CheckCommand → CheckEnding
check_ending files command = input_ending files command.report (input_of files command.control)

-- the answers of a run are true of its input
abbrev pub EndsTrue : Files → CheckCommand → Type 0
EndsTrue files command =
    IfOk (input_of files command.control) (λ input. IfOk (check_ending files command) (AreTrue input))
