-- The names of the files that a control file includes, which are read before its statements.
use Rattle.std.specs.Prelude.{◌≡◌, ℕ, ◌+◌, nat_le, not, if◌then◌else◌, List, [], ◌∷◌, length, take, map, count_by, slice_get, Option, None, codes}
use Rattle.std.specs.Option.{option_and_then}
use Rattle.text_terms.specs.Faults.{HasNoFault, IsFirstFault}
use Rattle.control_reader.specs.declared.fault.ControlCause.{ControlCause}
use Rattle.control_reader.specs.declared.fault.ControlCause.TheVariants.{LongLine, Limit}
use Rattle.control_reader.specs.declared.fault.ControlFault.{ControlFault}
use Rattle.control_reader.specs.declared.statement.Statement.TheVariants.{Include}
use Rattle.control_reader.specs.ControlLines.{ControlLine, file_lines, is_include, arguments_of, statements_with}
use Rattle.control_reader.specs.Values.{include_of}
use Rattle.text_terms.specs.Faults.{first_cause, unless}
use Rattle.edt_text.specs.declared.limits.TheConstants.{LONGEST_LINE}
use Rattle.control_reader.specs.WordFaults.{words_fault}
use Rattle.control_reader.specs.ControlFile.{is_one_file_too_many}

-- the fault of a line of the main file that includes a file, given the lines before it
unfoldable pub include_line_fault : List ControlLine → ControlLine → Option ControlCause
include_line_fault before line =
    first_cause (
    unless (nat_le (length line.bytes) LONGEST_LINE) LongLine
    ∷ words_fault Include (arguments_of line)
    ∷ unless (not (is_one_file_too_many before line)) Limit
    ∷ [])

-- no other line has a fault here
abbrev pub name_fault_after : List ControlLine → ControlLine → Option ControlCause
name_fault_after before line = if is_include line then include_line_fault before line else None

-- the fault of the line at a place, counted from 0
unfoldable pub name_fault_at : List ControlLine → ℕ → Option ControlCause
name_fault_at lines k = option_and_then (name_fault_after (take k lines)) (slice_get lines k)

-- how many files a main file includes
abbrev pub include_count : List ℕ → ℕ
include_count main = count_by is_include (file_lines 0 main)

-- no line that includes a file is faulty, and these are the names of the files, in order
pub record AreIncludes (main : List ℕ) (names : List (List ℕ)) : Type 0 where
  pub faultless : HasNoFault (name_fault_at (file_lines 0 main)) (length (file_lines 0 main))
  pub listed : names ≡ map include_of (statements_with (codes "INCLUDE") (file_lines 0 main))

-- the fault names the first faulty line that includes a file, counted from 1, and the first cause in that line
pub record IsIncludeFault (main : List ℕ) (fault : ControlFault) : Type 0 where
  pub place : ℕ
  pub file : fault.file ≡ 0
  pub line : fault.line ≡ place + 1
  pub first : IsFirstFault (name_fault_at (file_lines 0 main)) (length (file_lines 0 main)) place fault.cause
