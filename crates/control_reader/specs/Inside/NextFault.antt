-- The fault of a line, by what the lines before it say.
use Rattle.std.specs.Prelude.{ℕ, ◌&&◌, nat_le, nat_lt, not, Bool, false, is_some, if◌then◌else◌, List, [], ◌∷◌, length, Option, Some, None, codes}
use Rattle.std.specs.Str.{bytes_eq}
use Rattle.control_reader.specs.declared.fault.ControlCause.{ControlCause}
use Rattle.control_reader.specs.declared.fault.ControlCause.TheVariants.{LongLine, NestedInclude, NotYet, Repeated, Limit}
use Rattle.control_reader.specs.declared.statement.Statement.{Statement}
use Rattle.control_reader.specs.declared.statement.Statement.TheVariants.{Locfiles, Locgrid, Locmeth, Locgau, Locsearch, Locphaseid, Locexclude, Locdelay, Localias, Control, Include, Edtnear, Edtbudget, Edtkernel, Edtlanes, Locgau2}
use Rattle.control_reader.specs.Keywords.{keyword_of, is_not_yet}
use Rattle.control_reader.specs.declared.statement.LineKind.{LineKind}
use Rattle.control_reader.specs.declared.statement.LineKind.TheVariants.{Blank, Comment, Passed, Of}
use Rattle.control_reader.specs.ControlLines.{ControlLine, kind_of, arguments_of}
use Rattle.text_terms.specs.Faults.{first_cause, unless}
use Rattle.edt_text.specs.declared.limits.TheConstants.{LONGEST_LINE}
use Rattle.control_reader.specs.WordFaults.{words_fault}
use Rattle.control_reader.specs.Inside.Said.{Said}

-- a statement with the same keyword was said, of those that may stand once
abbrev pub was_said : Statement → Said → Bool
was_said Locfiles said = is_some said.files
was_said Locgrid said = is_some said.frame
was_said Locmeth said = is_some said.method
was_said Locgau said = is_some said.sigma
was_said Locsearch said = is_some said.cells
was_said Locphaseid said = false
was_said Locexclude said = false
was_said Locdelay said = false
was_said Localias said = false
was_said Control said = is_some said.seed
was_said Include said = false
was_said Edtnear said = is_some said.margin
was_said Edtbudget said = is_some said.budget
was_said Edtkernel said = is_some said.shape
was_said Edtlanes said = is_some said.lanes
was_said Locgau2 said = false

-- the statement includes a file
abbrev pub includes_file : Statement → Bool
includes_file statement = bytes_eq (keyword_of statement) (codes "INCLUDE")

-- the fault of a statement in a file, given what the lines before it say
unfoldable pub statement_fault_by : Said → ℕ → Statement → List (List ℕ) → Option ControlCause
statement_fault_by said file statement words =
    first_cause (
    unless (not (includes_file statement && nat_lt 0 file)) NestedInclude
    ∷ unless (not (is_not_yet statement)) NotYet
    ∷ unless (not (was_said statement said)) Repeated
    ∷ words_fault statement words
    ∷ unless (not (includes_file statement && nat_le 16 said.includes)) Limit
    ∷ [])

-- the fault of a line of a kind: of statements alone
abbrev pub kind_fault_by : LineKind → Said → ℕ → List (List ℕ) → Option ControlCause
kind_fault_by Blank said file words = None
kind_fault_by Comment said file words = None
kind_fault_by Passed said file words = None
kind_fault_by (Of statement) said file words = statement_fault_by said file statement words

-- the fault of a line, given what the lines before it say
abbrev pub fault_by : Said → ControlLine → Option ControlCause
fault_by said line =
    if nat_lt LONGEST_LINE (length line.bytes) then Some LongLine else kind_fault_by (kind_of line) said line.file (arguments_of line)
