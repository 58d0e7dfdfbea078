-- Boxes of nodes: a half-open range of places on each axis.
use Rattle.std.specs.Prelude.{◌≡◌, ℕ, Bool, false, ◌<◌, ◌≤◌, ◌-◌, ◌*◌, ◌==◌, ◌&&◌, nat_le, nat_lt}
use Rattle.node_boxes.specs.declared.node_box.NodeBox.{NodeBox}
use Rattle.node_boxes.specs.Grid.{GridSize}
use Rattle.node_boxes.specs.GridOrder.{place_of}

-- each range of the box has a node
pub record IsNonempty (a : NodeBox) : Type 0 where
  pub x : a.x0 < a.x1
  pub y : a.y0 < a.y1
  pub z : a.z0 < a.z1

-- each range of the box has a node and ends within the grid
pub record IsIn (g : GridSize) (a : NodeBox) : Type 0 where
  pub x : a.x0 < a.x1
  pub x_end : a.x1 ≤ g.x
  pub y : a.y0 < a.y1
  pub y_end : a.y1 ≤ g.y
  pub z : a.z0 < a.z1
  pub z_end : a.z1 ≤ g.z

-- the place lies in the three ranges of the box
abbrev pub contains : NodeBox → ℕ → ℕ → ℕ → Bool
contains a ix iy iz =
    nat_le a.x0 ix && nat_lt ix a.x1 && nat_le a.y0 iy && nat_lt iy a.y1 && nat_le a.z0 iz && nat_lt iz a.z1

-- the place of the node lies in the box
abbrev pub holds : GridSize → NodeBox → ℕ → Bool
holds g a node = let place = place_of g node in contains a place.0 place.1 place.2

-- each range of the box has one node
abbrev pub is_single : NodeBox → Bool
is_single a = (a.x1 - a.x0 == 1) && (a.y1 - a.y0 == 1) && (a.z1 - a.z0 == 1)

-- how many nodes the box has
abbrev pub node_count_of : NodeBox → ℕ
node_count_of a = (a.x1 - a.x0) * ((a.y1 - a.y0) * (a.z1 - a.z0))

-- the box can be split: it has more than one node
pub record IsSplittable (a : NodeBox) : Type 0 where
  pub nonempty : IsNonempty a
  pub several : is_single a ≡ false

-- the part has a node on each axis and lies in the whole
pub record IsPartOf (whole part : NodeBox) : Type 0 where
  pub nonempty : IsNonempty part
  pub x_from : whole.x0 ≤ part.x0
  pub x_to : part.x1 ≤ whole.x1
  pub y_from : whole.y0 ≤ part.y0
  pub y_to : part.y1 ≤ whole.y1
  pub z_from : whole.z0 ≤ part.z0
  pub z_to : part.z1 ≤ whole.z1
