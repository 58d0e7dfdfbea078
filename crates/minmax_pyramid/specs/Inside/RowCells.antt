-- The rows of a pyramid with their cells.
use Rattle.std.specs.Prelude.{◌≡◌, ℕ, List, length, map}
use Rattle.std.specs.List.{AllZip, AllByRecursion}
use Rattle.node_boxes.specs.declared.node_box.NodeBox.{NodeBox}
use Rattle.node_boxes.specs.Grid.{GridSize, node_count}
use Rattle.node_boxes.specs.Roots.{AreRoots}
use Rattle.minmax_pyramid.specs.declared.pyramid_rows.Row.{Row}
use Rattle.minmax_pyramid.specs.Spans.{time_in}
use Rattle.minmax_pyramid.specs.Inside.Cells.{IsCell}

-- one time per node, and the cell of each root
pub record IsRow (g : GridSize) (roots : List NodeBox) (row : Row) : Type 0 where
  pub count : length row.times.items ≡ node_count g
  pub cells : AllZip (IsCell g (time_in row.times.items)) roots row.cells.items

-- rows with their cells
pub record AreRows (g : GridSize) (roots : List NodeBox) (rows : List Row) : Type 0 where
  pub roots_are : AreRoots g roots
  pub each : AllByRecursion (IsRow g roots) rows

-- the times of rows
abbrev pub times_of : List Row → List (List ℕ)
times_of rows = map (λ (row : Row). row.times.items) rows
