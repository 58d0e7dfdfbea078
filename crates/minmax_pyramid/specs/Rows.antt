-- Rows of times over a grid, with the roots of an octree.
use Rattle.std.specs.Prelude.{ℕ, List, [], slice_index_or}
use Rattle.node_boxes.specs.declared.node_box.NodeBox.{NodeBox}
use Rattle.node_boxes.specs.Grid.{GridSize}
use Rattle.minmax_pyramid.specs.Spans.{time_in}

-- a grid, the roots of an octree over it, and rows of times with one time per node in grid order
pub record RowTimes : Type 0 where
  pub grid : GridSize
  pub roots : List NodeBox
  pub rows : List (List ℕ)

-- the times of a row
abbrev pub row_times : RowTimes → ℕ → ℕ → ℕ
row_times times row = time_in (slice_index_or times.rows row [])

-- a grid, roots and one row of times
pub record PyramidTimes : Type 0 where
  pub grid : GridSize
  pub roots : List NodeBox
  pub times : List ℕ
