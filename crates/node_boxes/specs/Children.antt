-- The children of a box: each axis of more than one node is cut in two.
use Rattle.std.specs.Prelude.{ℕ, List, [], ◌∷◌, ◌+◌, ◌-◌, ◌/◌, cond, nat_le}
use Rattle.node_boxes.specs.declared.node_box.NodeBox.{NodeBox}
use Rattle.node_boxes.specs.BoxLists.{boxes_of}

-- a range of one node, or its two halves, of which the first has the odd node
abbrev pub halves : ℕ → ℕ → List (ℕ × ℕ)
halves low high =
    let middle = low + (high - low + 1) / 2 in
    cond (nat_le (high - low) 1) ((low, high) ∷ []) ((low, middle) ∷ (middle, high) ∷ [])

-- the children of a box, in the order of the x parts, then y, then z
unfoldable pub children_of : NodeBox → List NodeBox
children_of a = boxes_of (halves a.x0 a.x1) (halves a.y0 a.y1) (halves a.z0 a.z1)
