-- A control file of what its lines say.
use Rattle.std.proofs.Common.{◌≡◌, ℕ, ◌*◌, ◌≤◌, List, Option, Some, None, Result, Ok, Err, refl, sym, ◌∙◌, ap, subst, arith}
use Rattle.std.specs.Prelude.{IfSome, IfOk, IfErr, OnOk, unwrap_or, codes, ◌≢◌}
use Rattle.std.specs.Option.{option_map}
use Rattle.std.proofs.Math.Nat.{mul-le-mul}
use Rattle.kernel_table.specs.declared.kernels.Shape.TheVariants.{Gauss}
use Rattle.node_boxes.specs.Grid.{GridSize, IsGrid, node_count}
use Rattle.control_reader.specs.declared.control.Control.{Control}
use Rattle.control_reader.specs.declared.draft.ControlDraft.{ControlDraft}
use Rattle.control_reader.specs.declared.fault.ControlCause.{ControlCause}
use Rattle.control_reader.specs.declared.fault.ControlCause.TheVariants.{Memory}
use Rattle.control_reader.specs.declared.fault.ControlFault.{ControlFault}
use Rattle.control_reader.specs.ControlLines.{ControlLine, control_lines, statement_with}
use Rattle.control_reader.specs.Values.{files_of, frame_of, method_of, sigma_of, cells_of, seed_of, count_of, shape_of}
use Rattle.control_reader.specs.ControlFile.{value_or, files_in, method_in, missing_fault, IsControlOf, IsReading, IsFaultOf, IsControlFault}
use Rattle.control_reader.specs.Limits.{IsControl, IsShape}
use Rattle.control_reader.specs.Inside.Said.{Said, said_of, said_in}
use Rattle.control_reader.specs.Inside.Follows.{Follows}
use Rattle.control_reader.specs.Inside.SaidLimits.{IsWithin, IsFiles, IsFrame, IsMethod, IsSigma, AreCells, IsMargin, IsBudget, IsLanes}
use Rattle.control_reader.specs.Inside.Completion.{missing_in, Completes}
use Rattle.control_reader.proofs.DraftSteps.{any_with}
use Rattle.control_reader.proofs.FaultSteps.{faultless, fault_of_end}

-- what holds of a value that was said, and of a default
said_is : {V : Type 0} (P : V → Type 0) (said : Option V) (value : V) → Some value ≡ said → IfSome said P → P value
said_is P said value is holds = rw (← is) at holds

or_default : {V : Type 0} (P : V → Type 0) (said : Option V) (default value : V) → value ≡ unwrap_or said default → IfSome said P → P default → P value
or_default P None default value is holds fallback = rw is fallback
or_default P (Some v) default value is holds fallback = rw is holds

-- a grid has a node at least
some_node : (grid : GridSize) → IsGrid grid → 1 ≤ node_count grid
some_node grid is =
    let plane : 1 * 1 ≤ grid.x * grid.y = mul-le-mul is.x_from is.y_from in
    let row : 1 ≤ grid.x * grid.y = omega (arith, plane) in
    let all : 1 * 1 ≤ grid.x * grid.y * grid.z = mul-le-mul row is.z_from in
    omega (arith, all)

pub within_control : (said : Said) (control : Control) → IsWithin said → Completes said control → IsControl control
within_control said control within completes =
    let files : IsFiles (files_in control) = said_is IsFiles said.files (files_in control) completes.files within.files in
    let frame : IsFrame control.frame = said_is IsFrame said.frame control.frame completes.frame within.frame in
    let method : IsMethod (method_in control) = said_is IsMethod said.method (method_in control) completes.method within.method in
    let sigma : IsSigma control.sigma = said_is IsSigma said.sigma control.sigma completes.sigma within.sigma in
    let cells : AreCells control.cells =
    or_default AreCells said.cells (1, 1, 1) control.cells completes.cells within.cells ((omega arith, omega arith), (omega arith, omega arith), (omega arith, omega arith)) in
    let margin : IsMargin control.margin = or_default IsMargin said.margin 0 control.margin completes.margin within.margin (omega arith) in
    let nodes = some_node control.frame.grid frame.0 in
    let budget : IsBudget control.budget =
    or_default IsBudget said.budget (2 * node_count control.frame.grid) control.budget completes.budget within.budget
    (omega (arith, nodes), omega (arith, frame.0.nodes)) in
    let lanes : IsLanes control.lanes = or_default IsLanes said.lanes 1 control.lanes completes.lanes within.lanes (omega arith, omega arith) in
    record {
      obs_file = files.0;
      time_root = files.1;
      grid = frame.0;
      frame = frame.1;
      max_dist = method.max_dist;
      min_dist = method.min_dist;
      min_phases = method.min_phases;
      max_phases = method.max_phases;
      min_s = method.min_s;
      vpvs = method.vpvs;
      sigma = sigma;
      x_cells = cells.0;
      y_cells = cells.1;
      z_cells = cells.2;
      phase_ids = rw completes.phase_ids within.phase_ids;
      excludes = rw completes.excludes within.excludes;
      delays = rw completes.delays within.delays;
      aliases = rw completes.aliases within.aliases;
      margin = margin;
      some_budget = budget.0;
      budget = budget.1;
      shape = or_default IsShape said.shape Gauss control.shape completes.shape within.shape tt;
      some_lane = lanes.0;
      lanes = lanes.1;
    }

-- a default is the same for what was said and for its statement
same_default : {V : Type 0} (default : V) (value : List (List ℕ) → V) (found : Option (List (List ℕ)))
    → unwrap_or (option_map value found) default ≡ value_or default value found
same_default default value None = refl
same_default default value (Some words) = refl

says_lines : (lines : List ControlLine) (control : Control) → Completes (said_in lines) control → IsControlOf lines control
unfolding said_in
says_lines lines control completes = record {
  files = completes.files;
  frame = completes.frame;
  method = completes.method;
  sigma = completes.sigma;
  cells = completes.cells ∙ same_default (1, 1, 1) cells_of (statement_with (codes "LOCSEARCH") lines);
  phase_ids = completes.phase_ids;
  excludes = completes.excludes;
  delays = completes.delays;
  aliases = completes.aliases;
  seed = completes.seed ∙ same_default _ seed_of (statement_with (codes "CONTROL") lines);
  margin = completes.margin ∙ same_default 0 count_of (statement_with (codes "EDTNEAR") lines);
  budget = completes.budget ∙ same_default (2 * node_count control.frame.grid) count_of (statement_with (codes "EDTBUDGET") lines);
  shape = completes.shape ∙ same_default Gauss shape_of (statement_with (codes "EDTKERNEL") lines);
  lanes = completes.lanes ∙ same_default 1 count_of (statement_with (codes "EDTLANES") lines);
  passed = completes.passed;
}

pub says_all : (lines : List ControlLine) (draft : ControlDraft) (control : Control) → Follows lines draft → Completes (said_of draft) control → IsControlOf lines control
says_all lines draft control follows completes =
    says_lines lines control (subst (λ (said : Said). Completes said control) follows.said completes)

-- the missing statements by what the lines say
same_missing : (lines : List ControlLine) → missing_in (said_in lines) ≡ missing_fault lines
unfolding said_in missing_fault
same_missing lines =
    rw (
      ← any_with files_of (codes "LOCFILES") lines,
      ← any_with frame_of (codes "LOCGRID") lines,
      ← any_with method_of (codes "LOCMETH") lines,
      ← any_with sigma_of (codes "LOCGAU") lines,
    ) refl

pub missing_follows : (lines : List ControlLine) (draft : ControlDraft) (found : Option ControlCause) → Follows lines draft → missing_in (said_of draft) ≡ found
    → missing_fault lines ≡ found
missing_follows lines draft found follows is = sym (same_missing lines) ∙ ap missing_in (sym follows.said) ∙ is

pub missing_is : (lines : List ControlLine) (draft : ControlDraft) (fault : ControlFault) → Follows lines draft → missing_in (said_of draft) ≡ Some fault.cause
    → (fault.file ≡ 0) × (fault.line ≡ 0) → IsFaultOf lines fault
missing_is lines draft fault follows is place =
    fault_of_end lines fault follows.clean (missing_follows lines draft (Some fault.cause) follows is) place.0 place.1

-- the answer, where the draft follows all lines
pub completed : (main : List ℕ) (included : List (List ℕ)) (draft : ControlDraft) (result : Result Control ControlFault) → Follows (control_lines main included) draft
    → IfOk result (Completes (said_of draft)) → OnOk result (missing_in (said_of draft) ≡ None) → IfOk result (IsReading main included)
completed main included draft (Ok control) follows completes none = record {
  faultless = faultless (control_lines main included) follows.clean (missing_follows (control_lines main included) draft None follows none);
  says = says_all (control_lines main included) draft control follows completes;
}
completed main included draft (Err fault) follows completes none = tt

pub missing_named : (main : List ℕ) (included : List (List ℕ)) (draft : ControlDraft) (result : Result Control ControlFault) → Follows (control_lines main included) draft
    → IfErr result (λ fault. (fault.file ≡ 0) × (fault.line ≡ 0)) → IfErr result (λ fault. missing_in (said_of draft) ≡ Some fault.cause)
    → IfErr result (λ fault. fault.cause ≢ Memory → IsControlFault main included fault)
missing_named main included draft (Ok control) follows place missing = tt
missing_named main included draft (Err fault) follows place missing =
    λ other. missing_is (control_lines main included) draft fault follows missing place
