-- The nodes of a box.
use Rattle.std.specs.Prelude.{ℕ, List, filter}
use Rattle.node_boxes.specs.declared.node_box.NodeBox.{NodeBox}
use Rattle.node_boxes.specs.Grid.{GridSize, node_count}
use Rattle.node_boxes.specs.GridOrder.{all_nodes}
use Rattle.node_boxes.specs.Boxes.{holds}

-- the nodes that the box holds, in grid order
unfoldable pub box_nodes : GridSize → NodeBox → List ℕ
box_nodes g a = filter (holds g a) (all_nodes (node_count g))
