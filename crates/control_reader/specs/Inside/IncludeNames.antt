-- The names of included files that a front of the lines gives.
use Rattle.std.specs.Prelude.{◌≡◌, ℕ, Bool, false, not, nat_le, if◌then◌else◌, List, [], ◌∷◌, length, map, Option, None, codes}
use Rattle.text_terms.specs.Faults.{NoFaultBelow}
use Rattle.control_reader.specs.declared.fault.ControlCause.{ControlCause}
use Rattle.control_reader.specs.declared.fault.ControlCause.TheVariants.{LongLine, Limit}
use Rattle.control_reader.specs.declared.statement.Statement.TheVariants.{Include}
use Rattle.control_reader.specs.declared.statement.LineKind.{LineKind}
use Rattle.control_reader.specs.declared.statement.LineKind.TheVariants.{Blank, Comment, Passed, Of}
use Rattle.control_reader.specs.ControlLines.{ControlLine, is_include, arguments_of, statements_with}
use Rattle.control_reader.specs.Values.{include_of}
use Rattle.text_terms.specs.Faults.{first_cause, unless}
use Rattle.edt_text.specs.declared.limits.TheConstants.{LONGEST_LINE}
use Rattle.control_reader.specs.WordFaults.{words_fault}
use Rattle.control_reader.specs.Includes.{name_fault_at}
use Rattle.control_reader.specs.Inside.NextFault.{includes_file}

-- a line of this kind includes a file
abbrev pub kind_includes : LineKind → Bool
kind_includes Blank = false
kind_includes Comment = false
kind_includes Passed = false
kind_includes (Of statement) = includes_file statement

-- the name of the file that a line includes, if it includes one
abbrev pub names_in : ControlLine → List (List ℕ)
names_in line = if is_include line then include_of (arguments_of line) ∷ [] else []

-- the fault of a line that includes a file, given how many names stand before it
unfoldable pub name_fault_by : ℕ → ControlLine → Option ControlCause
name_fault_by before line =
    if is_include line
    then first_cause (
    unless (nat_le (length line.bytes) LONGEST_LINE) LongLine
    ∷ words_fault Include (arguments_of line)
    ∷ unless (not (nat_le 16 before)) Limit
    ∷ [])
    else None

-- the names are those of the lines before, and none of these lines has a fault
pub record NamesFollow (before : List ControlLine) (names : List (List ℕ)) : Type 0 where
  pub listed : names ≡ map include_of (statements_with (codes "INCLUDE") before)
  pub clean : NoFaultBelow (name_fault_at before) (length before)
