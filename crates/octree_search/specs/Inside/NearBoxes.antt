-- The near nodes, as the boxes of a cover tell them.
use Rattle.std.specs.Prelude.{ℕ, ◌&&◌, nat_le, if◌then◌else◌, List, [], ◌∷◌}
use Rattle.std.specs.List.{flat_map}
use Rattle.node_boxes.specs.declared.node_box.BoxBound.{BoxBound}
use Rattle.node_boxes.specs.Grid.{GridSize}
use Rattle.node_boxes.specs.GridOrder.{node_number}
use Rattle.node_boxes.specs.Boxes.{is_single}

-- the node of a single box whose bound reaches the threshold, with its bound
abbrev pub near_of : GridSize → ℕ → BoxBound → List (ℕ × ℕ)
near_of g t b =
    if is_single b.area && nat_le t b.bound then (node_number g b.area.x0 b.area.y0 b.area.z0, b.bound) ∷ [] else []

-- those of all boxes of a cover, in its order
abbrev pub near_in : GridSize → ℕ → List BoxBound → List (ℕ × ℕ)
near_in g t boxes = flat_map (near_of g t) boxes
