-- What lines of a control file say, and what a draft holds.
use Rattle.std.specs.Prelude.{ℕ, List, map, count_by, Option, ℤ, codes}
use Rattle.std.specs.List.{flat_map}
use Rattle.std.specs.Option.{option_map}
use Rattle.edt_text.specs.declared.cursor.Line.{Line}
use Rattle.kernel_table.specs.declared.kernels.Shape.{Shape}
use Rattle.node_boxes.specs.declared.frame.Frame.{Frame}
use Rattle.control_reader.specs.declared.control.PhaseId.{PhaseId}
use Rattle.control_reader.specs.declared.control.Exclude.{Exclude}
use Rattle.control_reader.specs.declared.control.Delay.{Delay}
use Rattle.control_reader.specs.declared.control.Alias.{Alias}
use Rattle.control_reader.specs.declared.draft.ControlDraft.{ControlDraft}
use Rattle.control_reader.specs.declared.values.Files.{Files}
use Rattle.control_reader.specs.declared.values.Method.{Method}
use Rattle.control_reader.specs.ControlLines.{ControlLine, is_include, statement_with, statements_with}
use Rattle.control_reader.specs.Values.{files_of, frame_of, method_of, sigma_of, cells_of, phase_ids_of, exclude_of, delay_of, alias_of, seed_of, count_of, shape_of}
use Rattle.control_reader.specs.ControlFile.{is_passed}

-- what lines say, whether or not they have faults
pub record Said : Type 0 where
  pub files : Option Files
  pub frame : Option Frame
  pub method : Option Method
  pub sigma : Option ℕ
  pub cells : Option (ℕ × ℕ × ℕ)
  pub seed : Option ℤ
  pub margin : Option ℕ
  pub budget : Option ℕ
  pub shape : Option Shape
  pub lanes : Option ℕ
  pub phase_ids : List PhaseId
  pub excludes : List Exclude
  pub delays : List Delay
  pub aliases : List Alias
  pub includes : ℕ
  pub passed : ℕ

-- what a draft holds
abbrev pub said_of : ControlDraft → Said
said_of draft = record {
  files = draft.files;
  frame = draft.frame;
  method = draft.method;
  sigma = draft.sigma;
  cells = draft.cells;
  seed = draft.seed;
  margin = draft.margin;
  budget = draft.budget;
  shape = draft.shape;
  lanes = draft.lanes;
  phase_ids = draft.phase_ids.items;
  excludes = draft.excludes.items;
  delays = draft.delays.items;
  aliases = draft.aliases.items;
  includes = draft.includes;
  passed = draft.passed;
}

-- what lines say: the first statement with each keyword, or all of them in order, and two counts
unfoldable pub said_in : List ControlLine → Said
said_in lines = record {
  files = option_map files_of (statement_with (codes "LOCFILES") lines);
  frame = option_map frame_of (statement_with (codes "LOCGRID") lines);
  method = option_map method_of (statement_with (codes "LOCMETH") lines);
  sigma = option_map sigma_of (statement_with (codes "LOCGAU") lines);
  cells = option_map cells_of (statement_with (codes "LOCSEARCH") lines);
  seed = option_map seed_of (statement_with (codes "CONTROL") lines);
  margin = option_map count_of (statement_with (codes "EDTNEAR") lines);
  budget = option_map count_of (statement_with (codes "EDTBUDGET") lines);
  shape = option_map shape_of (statement_with (codes "EDTKERNEL") lines);
  lanes = option_map count_of (statement_with (codes "EDTLANES") lines);
  phase_ids = flat_map phase_ids_of (statements_with (codes "LOCPHASEID") lines);
  excludes = map exclude_of (statements_with (codes "LOCEXCLUDE") lines);
  delays = map delay_of (statements_with (codes "LOCDELAY") lines);
  aliases = map alias_of (statements_with (codes "LOCALIAS") lines);
  includes = count_by is_include lines;
  passed = count_by is_passed lines;
}

-- a line that a cursor gave, in a file of this number
abbrev pub control_line : ℕ → Line → ControlLine
control_line file line = record { file = file; number = line.number; bytes = line.bytes.now }
