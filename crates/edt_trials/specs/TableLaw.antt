-- No child of a box has a greater number in it.
use Rattle.std.specs.Prelude.{ℕ, ◌≤◌, List}
use Rattle.std.proofs.Common.{arith}
use Rattle.node_boxes.specs.declared.node_box.NodeBox.{NodeBox}
use Rattle.node_boxes.specs.Boxes.{IsPartOf}
use Rattle.node_boxes.specs.BoxNodes.{box_nodes}
use Rattle.node_boxes.specs.Children.{children_of}
use Rattle.node_boxes.specs.Grid.{GridSize}
use Rattle.node_boxes.proofs.ChildBoxes.{children_parts}
use Rattle.node_boxes.proofs.Lists.{all-weaker}
use Rattle.node_boxes.proofs.OctreeBoxes.{in_nonempty}
use Rattle.minmax_pyramid.specs.Spans.{time_in}
use Rattle.edt_score.specs.Judging.{BoundsFall}
use Rattle.edt_score.specs.Inside.BoxDomination.{nodes-part}
use Rattle.edt_score.specs.Inside.Domination.{span_over-part}
use Rattle.edt_trials.specs.Table.{greatest_in}

-- the bounds by a table fall from a box to its children
pub greatest_falls : (g : GridSize) (table : List ℕ) (roots : List NodeBox) → BoundsFall g roots (greatest_in g table)
greatest_falls g table roots a inside tree several =
    all-weaker (IsPartOf a) (λ c. greatest_in g table c ≤ greatest_in g table a)
    (λ c part. (span_over-part (time_in table) (box_nodes g c) (box_nodes g a) (nodes-part g a c inside part)).greatest)
    (children_of a) (children_parts a (in_nonempty g a inside))
