-- The limits within which the values of a control file are.
use Rattle.std.specs.Prelude.{ℕ, ◌≤◌, ◌<◌, ◌^◌, ◌≤ℤ◌, pos, IsTrue, All, unsigned_abs}
use Rattle.text_terms.specs.Names.{is_name}
use Rattle.kernel_table.specs.declared.kernels.Shape.{Shape}
use Rattle.kernel_table.specs.declared.kernels.Shape.TheVariants.{Gauss, Triangle, Count}
use Rattle.node_boxes.specs.Frame.{IsValidFrame}
use Rattle.node_boxes.specs.Grid.{IsGrid}
use Rattle.control_reader.specs.declared.control.Control.{Control}
use Rattle.control_reader.specs.declared.control.PhaseId.{PhaseId}
use Rattle.control_reader.specs.declared.control.Exclude.{Exclude}
use Rattle.control_reader.specs.declared.control.Delay.{Delay}
use Rattle.control_reader.specs.declared.control.Alias.{Alias}

-- a standard phase and its code are phase words
pub record IsPhaseId (id : PhaseId) : Type 0 where
  pub standard : IsTrue (is_name 64 id.standard)
  pub code : IsTrue (is_name 64 id.code)

-- a station and a phase
pub record IsExclude (exclude : Exclude) : Type 0 where
  pub station : IsTrue (is_name 64 exclude.station)
  pub phase : IsTrue (is_name 64 exclude.phase)

-- a station and a phase, and a delay of at most 10^10 microseconds in size
pub record IsDelay (d : Delay) : Type 0 where
  pub station : IsTrue (is_name 64 d.station)
  pub phase : IsTrue (is_name 64 d.phase)
  pub delay : unsigned_abs d.delay ≤ 10 ^ 10

-- two stations
pub record IsAlias (a : Alias) : Type 0 where
  pub station : IsTrue (is_name 64 a.station)
  pub alias : IsTrue (is_name 64 a.alias)

-- a count of cells
abbrev pub IsCellCount : ℕ → Type 0
IsCellCount n = (1 ≤ n) × (n ≤ 4096)

-- a kernel, of which that which counts has a limit of at most 10^9 microseconds
abbrev pub IsShape : Shape → Type 0
IsShape Gauss = Unit {0}
IsShape Triangle = Unit {0}
IsShape (Count limit) = limit ≤ 10 ^ 9

-- the values of a control file are within their limits
pub record IsControl (control : Control) : Type 0 where
  pub obs_file : IsTrue (is_name 255 control.obs_file)
  pub time_root : IsTrue (is_name 255 control.time_root)
  pub grid : IsGrid control.frame.grid
  pub frame : IsValidFrame control.frame
  pub max_dist : unsigned_abs control.max_dist ≤ 10 ^ 12
  pub min_dist : unsigned_abs control.min_dist ≤ 10 ^ 12
  pub min_phases : unsigned_abs control.min_phases < 10 ^ 9
  pub max_phases : unsigned_abs control.max_phases < 10 ^ 9
  pub min_s : unsigned_abs control.min_s < 10 ^ 9
  pub vpvs : control.vpvs ≤ℤ pos 10000000
  pub sigma : control.sigma ≤ 10 ^ 8
  pub x_cells : IsCellCount control.cells.0
  pub y_cells : IsCellCount control.cells.1
  pub z_cells : IsCellCount control.cells.2
  pub phase_ids : All IsPhaseId control.phase_ids.items
  pub excludes : All IsExclude control.excludes.items
  pub delays : All IsDelay control.delays.items
  pub aliases : All IsAlias control.aliases.items
  pub margin : control.margin ≤ 999
  pub some_budget : 1 ≤ control.budget
  pub budget : control.budget ≤ 4000000
  pub shape : IsShape control.shape
  pub some_lane : 1 ≤ control.lanes
  pub lanes : control.lanes ≤ 64
