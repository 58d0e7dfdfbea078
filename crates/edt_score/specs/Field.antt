-- The times from a station to each node of a grid.
use Rattle.std.specs.Prelude.{◌≡◌, ℕ, List, ◌≤◌, ◌<◌, ◌^◌, All, length}
use Rattle.node_boxes.specs.declared.limits.TheConstants.{GREATEST_TIME}
use Rattle.node_boxes.specs.Grid.{GridSize, node_count}
use Rattle.node_boxes.specs.Roots.{AreRoots}
use Rattle.minmax_pyramid.specs.Rows.{RowTimes, row_times}

-- a grid, the roots of an octree over it, and rows of times with one time per node in grid order
abbrev pub FieldTimes : Type 0
FieldTimes = RowTimes

-- the time of a row at a node
abbrev pub time_at : FieldTimes → ℕ → ℕ → ℕ
time_at field row node = row_times field row node

-- a row of a grid has one time per node, and none is above 2,000,000,000 microseconds
pub record IsRow (grid : GridSize) (times : List ℕ) : Type 0 where
  pub one_a_node : length times ≡ node_count grid
  pub limit : All (λ time. time ≤ GREATEST_TIME) times

-- every row of a field is one of its grid, a row's number fits 32 bits, and the roots are of the grid
pub record IsField (field : FieldTimes) : Type 0 where
  pub are_roots : AreRoots field.grid field.roots
  pub rows : All (IsRow field.grid) field.rows
  pub few : length field.rows < 2 ^ 32
