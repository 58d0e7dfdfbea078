-- A time grid that is held whole.
use Rattle.std.specs.Prelude.{◌≡◌, ℕ, List, All, length}
use Rattle.grid_header.specs.declared.header.Header.{Header}
use Rattle.grid_header.specs.Reading.{IsValidHeader}
use Rattle.node_boxes.specs.Grid.{node_count}
use Rattle.time_grid.specs.Alignment.{time_grid_size}
use Rattle.time_grid.specs.Numbers.{IsTime}

-- the header of a time grid and the times of its nodes, in grid order
pub record HeldTimes : Type 0 where
  pub header : Header
  pub times : List ℕ

-- there is one time per node, and none is past its limit
pub record IsTimeGrid (grid : HeldTimes) : Type 0 where
  pub header : IsValidHeader grid.header
  pub one_a_node : length grid.times ≡ node_count (time_grid_size grid.header)
  pub limit : All IsTime grid.times
