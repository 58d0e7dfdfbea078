-- The reading of a control file with its included files, and its first fault.
use Rattle.std.specs.Prelude.{◌≡◌, ℕ, ◌*◌, ◌&&◌, nat_le, nat_lt, Bool, true, false, not, if◌then◌else◌, List, [], ◌∷◌, length, take, map, count_by, slice_get, Option, Some, None, pos, codes}
use Rattle.std.specs.List.{list_any, flat_map}
use Rattle.std.specs.Option.{option_map}
use Rattle.text_terms.specs.Faults.{HasNoFault, IsFirstFault}
use Rattle.kernel_table.specs.declared.kernels.Shape.TheVariants.{Gauss}
use Rattle.node_boxes.specs.Grid.{node_count}
use Rattle.control_reader.specs.declared.control.Control.{Control}
use Rattle.control_reader.specs.declared.fault.ControlCause.{ControlCause}
use Rattle.control_reader.specs.declared.fault.ControlCause.TheVariants.{LongLine, Repeated, Limit, NotYet, NestedInclude, Missing}
use Rattle.control_reader.specs.declared.fault.ControlFault.{ControlFault}
use Rattle.control_reader.specs.declared.fault.Keyword.{Keyword}
use Rattle.control_reader.specs.declared.fault.Keyword.TheVariants.{Locfiles, Locgrid, Locmeth, Locgau}
use Rattle.control_reader.specs.declared.statement.Statement.{Statement}
use Rattle.control_reader.specs.declared.statement.LineKind.{LineKind}
use Rattle.control_reader.specs.declared.statement.LineKind.TheVariants.{Blank, Comment, Passed, Of}
use Rattle.control_reader.specs.declared.values.Files.{Files}
use Rattle.control_reader.specs.declared.values.Method.{Method}
use Rattle.control_reader.specs.Keywords.{keyword_of, is_once, is_not_yet}
use Rattle.control_reader.specs.ControlLines.{ControlLine, control_lines, kind_of, has_keyword, is_include, arguments_of, statement_with, statements_with}
use Rattle.control_reader.specs.Values.{files_of, frame_of, method_of, sigma_of, cells_of, phase_ids_of, exclude_of, delay_of, alias_of, seed_of, count_of, shape_of}
use Rattle.text_terms.specs.Faults.{first_cause, unless}
use Rattle.edt_text.specs.declared.limits.TheConstants.{LONGEST_LINE}
use Rattle.control_reader.specs.WordFaults.{words_fault}

-- the line includes a file and stands in an included file
abbrev pub is_nested : ControlLine → Bool
is_nested line = is_include line && nat_lt 0 line.file

-- an earlier line has the keyword of a statement that may stand once
abbrev pub is_repeated : List ControlLine → Statement → Bool
is_repeated before statement = is_once statement && list_any (has_keyword (keyword_of statement)) before

-- it is the seventeenth line that includes a file
abbrev pub is_one_file_too_many : List ControlLine → ControlLine → Bool
is_one_file_too_many before line = is_include line && nat_le 16 (count_by is_include before)

-- the fault of a line of a statement, given the lines before it
unfoldable pub statement_fault : List ControlLine → ControlLine → Statement → Option ControlCause
statement_fault before line statement =
    first_cause (
    unless (not (is_nested line)) NestedInclude
    ∷ unless (not (is_not_yet statement)) NotYet
    ∷ unless (not (is_repeated before statement)) Repeated
    ∷ words_fault statement (arguments_of line)
    ∷ unless (not (is_one_file_too_many before line)) Limit
    ∷ [])

-- the fault of a line of this kind: of statements alone
abbrev pub kind_fault : LineKind → List ControlLine → ControlLine → Option ControlCause
kind_fault Blank before line = None
kind_fault Comment before line = None
kind_fault Passed before line = None
kind_fault (Of statement) before line = statement_fault before line statement

-- the fault of a line, given the lines before it in reading order: of those, only which keywords stand there and how many files they
-- include matters
abbrev pub fault_after : List ControlLine → ControlLine → Option ControlCause
fault_after before line = if nat_lt LONGEST_LINE (length line.bytes) then Some LongLine else kind_fault (kind_of line) before line

-- a statement that every control file needs is missing
abbrev pub missing : Keyword → List ℕ → List ControlLine → Option ControlCause
missing keyword word lines = unless (list_any (has_keyword word) lines) (Missing keyword)

-- the first of the needed statements that is missing
unfoldable pub missing_fault : List ControlLine → Option ControlCause
missing_fault lines =
    first_cause (
    missing Locfiles (codes "LOCFILES") lines
    ∷ missing Locgrid (codes "LOCGRID") lines
    ∷ missing Locmeth (codes "LOCMETH") lines
    ∷ missing Locgau (codes "LOCGAU") lines
    ∷ [])

-- the fault at a place, counted from 0: that of the line there, and after the last line that of the whole file
abbrev pub fault_of_line : List ControlLine → ℕ → Option ControlLine → Option ControlCause
fault_of_line lines k None = missing_fault lines
fault_of_line lines k (Some line) = fault_after (take k lines) line

unfoldable pub fault_at : List ControlLine → ℕ → Option ControlCause
fault_at lines k = fault_of_line lines k (slice_get lines k)

-- the file and the number of the line at a place; 0 and 0 after the last line
abbrev pub line_place : Option ControlLine → ℕ × ℕ
line_place None = (0, 0)
line_place (Some line) = (line.file, line.number)

-- the line has a keyword that isn't read
abbrev pub is_passed_kind : LineKind → Bool
is_passed_kind Blank = false
is_passed_kind Comment = false
is_passed_kind Passed = true
is_passed_kind (Of statement) = false

-- the line is passed over and counted
abbrev pub is_passed : ControlLine → Bool
is_passed line = is_passed_kind (kind_of line)

-- the value of the statement with a keyword, or the default where there is none
abbrev pub value_or : {V : Type 0} → V → (List (List ℕ) → V) → Option (List (List ℕ)) → V
value_or default value None = default
value_or default value (Some words) = value words

-- the fields that LOCMETH gives
abbrev pub method_in : Control → Method
method_in control = record {
  max_dist = control.max_dist;
  min_dist = control.min_dist;
  min_phases = control.min_phases;
  max_phases = control.max_phases;
  min_s = control.min_s;
  vpvs = control.vpvs;
  reject_duplicates = control.reject_duplicates;
}

-- the fields that LOCFILES gives
abbrev pub files_in : Control → Files
files_in control = record { obs_file = control.obs_file; time_root = control.time_root; swap = control.swap }

-- each field of a control file is a function of the one statement that has its keyword, or its default; the lists are made of the
-- statements with their keywords, in order
pub record IsControlOf (lines : List ControlLine) (control : Control) : Type 0 where
  pub files : Some (files_in control) ≡ option_map files_of (statement_with (codes "LOCFILES") lines)
  pub frame : Some control.frame ≡ option_map frame_of (statement_with (codes "LOCGRID") lines)
  pub method : Some (method_in control) ≡ option_map method_of (statement_with (codes "LOCMETH") lines)
  pub sigma : Some control.sigma ≡ option_map sigma_of (statement_with (codes "LOCGAU") lines)
  pub cells : control.cells ≡ value_or (1, 1, 1) cells_of (statement_with (codes "LOCSEARCH") lines)
  pub phase_ids : control.phase_ids.items ≡ flat_map phase_ids_of (statements_with (codes "LOCPHASEID") lines)
  pub excludes : control.excludes.items ≡ map exclude_of (statements_with (codes "LOCEXCLUDE") lines)
  pub delays : control.delays.items ≡ map delay_of (statements_with (codes "LOCDELAY") lines)
  pub aliases : control.aliases.items ≡ map alias_of (statements_with (codes "LOCALIAS") lines)
  pub seed : control.seed ≡ value_or (pos 0) seed_of (statement_with (codes "CONTROL") lines)
  pub margin : control.margin ≡ value_or 0 count_of (statement_with (codes "EDTNEAR") lines)
  pub budget : control.budget ≡ value_or (2 * node_count control.frame.grid) count_of (statement_with (codes "EDTBUDGET") lines)
  pub shape : control.shape ≡ value_or Gauss shape_of (statement_with (codes "EDTKERNEL") lines)
  pub lanes : control.lanes ≡ value_or 1 count_of (statement_with (codes "EDTLANES") lines)
  pub passed : control.passed ≡ count_by is_passed lines

-- no line is faulty, no needed statement is missing, and this is what the lines say
pub record IsReading (main : List ℕ) (included : List (List ℕ)) (control : Control) : Type 0 where
  pub faultless : HasNoFault (fault_at (control_lines main included)) (length (control_lines main included))
  pub says : IsControlOf (control_lines main included) control

-- the fault names the first faulty line by its file and its number, or a missing statement after all lines, and the first cause there
pub record IsFaultOf (lines : List ControlLine) (fault : ControlFault) : Type 0 where
  pub place : ℕ
  pub line : (fault.file, fault.line) ≡ line_place (slice_get lines place)
  pub first : IsFirstFault (fault_at lines) (length lines) place fault.cause

-- the first fault in reading order
abbrev pub IsControlFault : List ℕ → List (List ℕ) → ControlFault → Type 0
IsControlFault main included fault = IsFaultOf (control_lines main included) fault
