-- An axis of a grid that is cut into parts.
use Rattle.std.specs.Prelude.{◌≤◌}
use Rattle.node_boxes.specs.declared.limits.TheConstants.{MOST_ON_AXIS}
use Rattle.node_boxes.specs.declared.octree_roots.AxisParts.{AxisParts}

-- 1 to 4096 parts of 1 to 4096 nodes
pub record AreAxisParts (axis : AxisParts) : Type 0 where
  pub some : 1 ≤ axis.count
  pub few : axis.count ≤ axis.nodes
  pub nodes : axis.nodes ≤ MOST_ON_AXIS
