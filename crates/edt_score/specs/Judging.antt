-- What a search can rely on of the bounds that it asks for.
use Rattle.std.specs.Prelude.{◌≡◌, ℕ, List, ◌+◌, ◌≤◌, false}
use Rattle.std.specs.List.{AllByRecursion}
use Rattle.node_boxes.specs.declared.node_box.NodeBox.{NodeBox}
use Rattle.node_boxes.specs.Boxes.{IsIn, is_single}
use Rattle.node_boxes.specs.Children.{children_of}
use Rattle.node_boxes.specs.Grid.{GridSize}
use Rattle.node_boxes.specs.GridOrder.{place_of}
use Rattle.node_boxes.specs.Octree.{IsOctreeBox}

-- the bound of an octree box is no less than those of its children
abbrev pub BoundsFall : GridSize → List NodeBox → (NodeBox → ℕ) → Type 0
BoundsFall g roots bound = (a : NodeBox) → IsIn g a → IsOctreeBox roots a → is_single a ≡ false
    → AllByRecursion (λ child. bound child ≤ bound a) (children_of a)

-- the box of one node
abbrev pub node_box : GridSize → ℕ → NodeBox
node_box g node =
    let place = place_of g node in
    record { x0 = place.0; x1 = place.0 + 1; y0 = place.1; y1 = place.1 + 1; z0 = place.2; z1 = place.2 + 1 }

-- the score of a node, as the bound of its box
abbrev pub judged_score : GridSize → (NodeBox → ℕ) → ℕ → ℕ
judged_score g bound node = bound (node_box g node)
