-- Bounds of boxes by a table of the scores of all nodes.
use Rattle.std.specs.Prelude.{ℕ, List}
use Rattle.node_boxes.specs.declared.node_box.NodeBox.{NodeBox}
use Rattle.node_boxes.specs.Grid.{GridSize}
use Rattle.node_boxes.specs.BoxNodes.{box_nodes}
use Rattle.minmax_pyramid.specs.Spans.{span_over, time_in}

-- the greatest number of a table among the nodes of a box
abbrev pub greatest_in : GridSize → List ℕ → NodeBox → ℕ
greatest_in g table a = (span_over (time_in table) (box_nodes g a)).1
