-- Grid order: the number of each node, and the list of all.
use Rattle.std.specs.Prelude.{ℕ, List, ◌<◌, ◌+◌, ◌*◌, ◌/◌, ◌%◌}
use Rattle.std.specs.List.{range_with_len}
use Rattle.node_boxes.specs.Grid.{GridSize}

-- the place with these numbers on the axes is a node of the grid
pub record IsInside (g : GridSize) (ix iy iz : ℕ) : Type 0 where
  pub x : ix < g.x
  pub y : iy < g.y
  pub z : iz < g.z

-- the number of the node at a place: z runs fastest, then y, then x
abbrev pub node_number : GridSize → ℕ → ℕ → ℕ → ℕ
node_number g ix iy iz = (ix * g.y + iy) * g.z + iz

-- the place of the node with a number
abbrev pub place_of : GridSize → ℕ → ℕ × ℕ × ℕ
place_of g node = (node / g.z / g.y, node / g.z % g.y, node % g.z)

-- all nodes of a grid of `n` nodes, in grid order
abbrev pub all_nodes : ℕ → List ℕ
all_nodes n = range_with_len 0 n
