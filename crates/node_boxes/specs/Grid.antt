-- How many nodes a grid has on its axes, and when it is a valid one.
use Rattle.std.specs.Prelude.{ℕ, ◌≤◌, ◌*◌}
use Rattle.node_boxes.specs.declared.limits.TheConstants.{MOST_NODES, MOST_ON_AXIS}

-- the nodes on each axis of a grid
pub record GridSize : Type 0 where
  pub x : ℕ
  pub y : ℕ
  pub z : ℕ

-- the size of a grid with these nodes on its axes
abbrev pub grid_size : ℕ → ℕ → ℕ → GridSize
grid_size x y z = record { x = x; y = y; z = z }

-- how many nodes a grid has
abbrev pub node_count : GridSize → ℕ
node_count g = g.x * g.y * g.z

-- a grid has 1 to 4096 nodes on each axis and at most two million in all
pub record IsGrid (g : GridSize) : Type 0 where
  pub x_from : 1 ≤ g.x
  pub x_to : g.x ≤ MOST_ON_AXIS
  pub y_from : 1 ≤ g.y
  pub y_to : g.y ≤ MOST_ON_AXIS
  pub z_from : 1 ≤ g.z
  pub z_to : g.z ≤ MOST_ON_AXIS
  pub nodes : node_count g ≤ MOST_NODES
