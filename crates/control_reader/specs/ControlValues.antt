-- What a control file says, with lists in place of the vectors that hold them.
use Rattle.std.specs.Prelude.{ℕ, ℤ, Bool, List}
use Rattle.kernel_table.specs.declared.kernels.Shape.{Shape}
use Rattle.node_boxes.specs.declared.frame.Frame.{Frame}
use Rattle.control_reader.specs.declared.control.Alias.{Alias}
use Rattle.control_reader.specs.declared.control.Control.{Control}
use Rattle.control_reader.specs.declared.control.Delay.{Delay}
use Rattle.control_reader.specs.declared.control.Exclude.{Exclude}
use Rattle.control_reader.specs.declared.control.PhaseId.{PhaseId}

-- the values of a control file
pub record ControlValues : Type 0 where
  pub obs_file : List ℕ
  pub time_root : List ℕ
  pub swap : Bool
  pub frame : Frame
  pub max_dist : ℤ
  pub min_dist : ℤ
  pub min_phases : ℤ
  pub max_phases : ℤ
  pub min_s : ℤ
  pub vpvs : ℤ
  pub reject_duplicates : Bool
  pub sigma : ℕ
  pub cells : ℕ × ℕ × ℕ
  pub phase_ids : List PhaseId
  pub excludes : List Exclude
  pub delays : List Delay
  pub aliases : List Alias
  pub seed : ℤ
  pub margin : ℕ
  pub budget : ℕ
  pub shape : Shape
  pub lanes : ℕ
  pub passed : ℕ

-- those of a control file that was read
abbrev pub values_of : Control → ControlValues
values_of control = record {
  obs_file = control.obs_file;
  time_root = control.time_root;
  swap = control.swap;
  frame = control.frame;
  max_dist = control.max_dist;
  min_dist = control.min_dist;
  min_phases = control.min_phases;
  max_phases = control.max_phases;
  min_s = control.min_s;
  vpvs = control.vpvs;
  reject_duplicates = control.reject_duplicates;
  sigma = control.sigma;
  cells = control.cells;
  phase_ids = control.phase_ids.items;
  excludes = control.excludes.items;
  delays = control.delays.items;
  aliases = control.aliases.items;
  seed = control.seed;
  margin = control.margin;
  budget = control.budget;
  shape = control.shape;
  lanes = control.lanes;
  passed = control.passed;
}
