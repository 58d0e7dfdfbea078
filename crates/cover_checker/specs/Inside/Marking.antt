-- Marks of nodes: 0, or the place, from 1, of the first box that holds the node.
use Rattle.std.specs.Prelude.{◌≡◌, ◌<◌, ◌+◌, ℕ, List, [], ◌∷◌, if◌then◌else◌, slice_index}
use Rattle.node_boxes.specs.declared.node_box.BoxBound.{BoxBound}
use Rattle.node_boxes.specs.Boxes.{holds}
use Rattle.node_boxes.specs.Grid.{GridSize, node_count}

-- the mark of a node by boxes whose places begin with a number
abbrev pub mark_from : ℕ → GridSize → List BoxBound → ℕ → ℕ
mark_from place g [] node = 0
mark_from place g (b ∷ boxes) node = if holds g b.area node then place else mark_from (place + 1) g boxes node

-- each node has its mark
abbrev pub IsMarked : GridSize → List BoxBound → List ℕ → Type 0
IsMarked g boxes marks = (node : ℕ) → node < node_count g → slice_index marks node ≡ mark_from 1 g boxes node
