-- What a report says of events, or its first faulty line, as one function of its lines.
use Rattle.std.specs.Prelude.{ℕ, zero, suc, ◌+◌, List, [], ◌∷◌, length, drop, Option, Some, None, Result, Ok, Err, slice_get}
use Rattle.std.specs.List.{position_or_len}
use Rattle.text_terms.specs.Lines.{LineText}
use Rattle.run_input.specs.FirstRefusals.{first_faulty}
use Rattle.cover_certificate.specs.declared.block.BlockCause.{BlockCause}
use Rattle.cover_certificate.specs.declared.block.BlockCause.TheVariants.{Form as block_form, Number as block_number, Limit as block_limit, Memory as block_memory}
use Rattle.cover_certificate.specs.Blocks.{BlockValue}
use Rattle.cover_certificate.specs.BlockFaults.{fault_at}
use Rattle.cover_certificate.specs.BlockLines.{block_lines}
use Rattle.cover_certificate.specs.BlocksTold.{block_in}
use Rattle.check_top.specs.declared.report.fault.ReportCause.{ReportCause}
use Rattle.check_top.specs.declared.report.fault.ReportCause.TheVariants.{Form, Number, Limit, Memory}
use Rattle.check_top.specs.declared.report.fault.ReportFault.{ReportFault}
use Rattle.check_top.specs.ReportLines.{head_cause, event_cause, begins_certificate}

-- the line of a number has a cause
abbrev pub fault_in : ℕ → ReportCause → ReportFault
fault_in number cause = record { line = number; cause = cause }

-- the cause of a line of a certificate, as one of a report
abbrev pub cause_of_block : BlockCause → ReportCause
cause_of_block block_form = Form
cause_of_block block_number = Number
cause_of_block block_limit = Limit
cause_of_block block_memory = Memory

-- what the report says of one event: its block, and the lines after it, with how many lines stand before them
pub record Section : Type 0 where
  pub block : BlockValue
  pub passed : ℕ
  pub rest : List LineText

-- the section that a block makes, the first of the lines
abbrev pub section_with : ℕ → List LineText → BlockValue → Section
section_with passed lines block = record {
  block = block;
  passed = passed + length (block_lines block);
  rest = drop (length (block_lines block)) lines;
}

-- a certificate after so many lines, by its first fault
abbrev pub certificate_by : ℕ → List LineText → Option (ℕ × BlockCause) → Result Section ReportFault
certificate_by passed lines None = Ok (section_with passed lines (block_in lines))
certificate_by passed lines (Some (place, cause)) = Err (fault_in (passed + place + 1) (cause_of_block cause))

-- the certificate that the lines begin with
unfoldable pub certificate_of : ℕ → List LineText → Result Section ReportFault
certificate_of passed lines = certificate_by passed lines (first_faulty (fault_at lines) (length lines))

-- how many lines stand before the first that begins a certificate
unfoldable pub passed_over : List LineText → ℕ
passed_over lines = position_or_len begins_certificate lines

-- the certificate that the first of the lines begins that begins one
abbrev pub certificate_after : ℕ → List LineText → Result Section ReportFault
certificate_after passed lines = certificate_of (passed + passed_over lines) (drop (passed_over lines) lines)

-- what follows a line without a cause
abbrev pub unless_faulty : {A : Type 0} → ℕ → Option ReportCause → Result A ReportFault → Result A ReportFault
unless_faulty number None next = next
unless_faulty number (Some cause) next = Err (fault_in number cause)

-- the section of the event of a number, after so many lines: its first line, lines that are passed over, and its certificate
unfoldable pub section_of : ℕ → ℕ → List LineText → Result Section ReportFault
section_of passed number lines =
    unless_faulty (passed + 1) (event_cause number (slice_get lines 0)) (certificate_after (passed + 1) (drop 1 lines))

-- after the sections no line follows
abbrev pub end_of : ℕ → List LineText → Result (List BlockValue) ReportFault
end_of passed [] = Ok []
end_of passed (line ∷ lines) = Err (fault_in (passed + 1) Form)

-- a block before others
abbrev pub with_block : BlockValue → Result (List BlockValue) ReportFault → Result (List BlockValue) ReportFault
with_block block (Ok blocks) = Ok (block ∷ blocks)
with_block block (Err fault) = Err fault

-- the block of a section before those of the sections after it
abbrev pub after_section : Result Section ReportFault → (Section → Result (List BlockValue) ReportFault) → Result (List BlockValue) ReportFault
after_section (Ok section) next = with_block section.block (next section)
after_section (Err fault) next = Err fault

-- the sections of so many events from a number on, after so many lines
abbrev pub sections : ℕ → ℕ → ℕ → List LineText → Result (List BlockValue) ReportFault
sections passed number zero lines = end_of passed lines
sections passed number (suc more) lines =
    after_section (section_of passed number lines) (λ section. sections section.passed (number + 1) more section.rest)

-- the blocks of a report on so many events, or its first faulty line with its first cause
unfoldable pub report_of : ℕ → List LineText → Result (List BlockValue) ReportFault
report_of events lines = unless_faulty 1 (head_cause events (slice_get lines 0)) (sections 1 1 events (drop 1 lines))
