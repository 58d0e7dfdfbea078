-- The limits within which all that is said is.
use Rattle.std.specs.Prelude.{ℕ, ◌≤◌, ◌<◌, ◌^◌, ◌≤ℤ◌, pos, unsigned_abs, IsTrue, All, IfSome}
use Rattle.text_terms.specs.Names.{is_name}
use Rattle.node_boxes.specs.declared.frame.Frame.{Frame}
use Rattle.node_boxes.specs.Frame.{IsValidFrame}
use Rattle.node_boxes.specs.Grid.{IsGrid}
use Rattle.control_reader.specs.declared.values.Files.{Files}
use Rattle.control_reader.specs.declared.values.Method.{Method}
use Rattle.control_reader.specs.Limits.{IsPhaseId, IsExclude, IsDelay, IsAlias, IsCellCount, IsShape}
use Rattle.control_reader.specs.Inside.Said.{Said}

-- what LOCFILES says is within its limits
abbrev pub IsFiles : Files → Type 0
IsFiles files = IsTrue (is_name 255 files.obs_file) × IsTrue (is_name 255 files.time_root)

-- what LOCGRID says
abbrev pub IsFrame : Frame → Type 0
IsFrame frame = IsGrid frame.grid × IsValidFrame frame

-- what LOCMETH says
pub record IsMethod (method : Method) : Type 0 where
  pub max_dist : unsigned_abs method.max_dist ≤ 10 ^ 12
  pub min_dist : unsigned_abs method.min_dist ≤ 10 ^ 12
  pub min_phases : unsigned_abs method.min_phases < 10 ^ 9
  pub max_phases : unsigned_abs method.max_phases < 10 ^ 9
  pub min_s : unsigned_abs method.min_s < 10 ^ 9
  pub vpvs : method.vpvs ≤ℤ pos 10000000

-- what LOCGAU says
abbrev pub IsSigma : ℕ → Type 0
IsSigma sigma = sigma ≤ 10 ^ 8

-- what LOCSEARCH says
abbrev pub AreCells : ℕ × ℕ × ℕ → Type 0
AreCells cells = IsCellCount cells.0 × IsCellCount cells.1 × IsCellCount cells.2

-- what EDTNEAR says
abbrev pub IsMargin : ℕ → Type 0
IsMargin margin = margin ≤ 999

-- what EDTBUDGET says
abbrev pub IsBudget : ℕ → Type 0
IsBudget budget = (1 ≤ budget) × (budget ≤ 4000000)

-- what EDTLANES says
abbrev pub IsLanes : ℕ → Type 0
IsLanes lanes = (1 ≤ lanes) × (lanes ≤ 64)

-- all that is said is within its limits
pub record IsWithin (said : Said) : Type 0 where
  pub files : IfSome said.files IsFiles
  pub frame : IfSome said.frame IsFrame
  pub method : IfSome said.method IsMethod
  pub sigma : IfSome said.sigma IsSigma
  pub cells : IfSome said.cells AreCells
  pub margin : IfSome said.margin IsMargin
  pub budget : IfSome said.budget IsBudget
  pub shape : IfSome said.shape IsShape
  pub lanes : IfSome said.lanes IsLanes
  pub phase_ids : All IsPhaseId said.phase_ids
  pub excludes : All IsExclude said.excludes
  pub delays : All IsDelay said.delays
  pub aliases : All IsAlias said.aliases
  pub includes : said.includes ≤ 16
