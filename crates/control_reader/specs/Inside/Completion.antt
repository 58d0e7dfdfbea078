-- A control file of what its lines say, and the statements that it lacks.
use Rattle.std.specs.Prelude.{◌≡◌, ◌*◌, is_some, unwrap_or, [], ◌∷◌, Option, Some, pos}
use Rattle.kernel_table.specs.declared.kernels.Shape.TheVariants.{Gauss}
use Rattle.node_boxes.specs.Grid.{node_count}
use Rattle.control_reader.specs.declared.control.Control.{Control}
use Rattle.control_reader.specs.declared.fault.ControlCause.{ControlCause}
use Rattle.control_reader.specs.declared.fault.ControlCause.TheVariants.{Missing}
use Rattle.control_reader.specs.declared.fault.Keyword.{Keyword}
use Rattle.control_reader.specs.declared.fault.Keyword.TheVariants.{Locfiles, Locgrid, Locmeth, Locgau}
use Rattle.text_terms.specs.Faults.{first_cause, unless}
use Rattle.control_reader.specs.ControlFile.{files_in, method_in}
use Rattle.control_reader.specs.Inside.Said.{Said}

-- the statement with this keyword wasn't said
abbrev pub missing_by : {V : Type 0} → Keyword → Option V → Option ControlCause
missing_by keyword value = unless (is_some value) (Missing keyword)

-- the first of the needed statements that wasn't said
abbrev pub missing_in : Said → Option ControlCause
missing_in said =
    first_cause (
    missing_by Locfiles said.files
    ∷ missing_by Locgrid said.frame
    ∷ missing_by Locmeth said.method
    ∷ missing_by Locgau said.sigma
    ∷ [])

-- the control file holds what was said, or the defaults
pub record Completes (said : Said) (control : Control) : Type 0 where
  pub files : Some (files_in control) ≡ said.files
  pub frame : Some control.frame ≡ said.frame
  pub method : Some (method_in control) ≡ said.method
  pub sigma : Some control.sigma ≡ said.sigma
  pub cells : control.cells ≡ unwrap_or said.cells (1, 1, 1)
  pub phase_ids : control.phase_ids.items ≡ said.phase_ids
  pub excludes : control.excludes.items ≡ said.excludes
  pub delays : control.delays.items ≡ said.delays
  pub aliases : control.aliases.items ≡ said.aliases
  pub seed : control.seed ≡ unwrap_or said.seed (pos 0)
  pub margin : control.margin ≡ unwrap_or said.margin 0
  pub budget : control.budget ≡ unwrap_or said.budget (2 * node_count control.frame.grid)
  pub shape : control.shape ≡ unwrap_or said.shape Gauss
  pub lanes : control.lanes ≡ unwrap_or said.lanes 1
  pub passed : control.passed ≡ said.passed
