-- Where the boxes of a cover lie, and what is wrong with that.
use Rattle.std.specs.Prelude.{ℕ, Bool, List, [], ◌∷◌, ◌&&◌, not, nat_le, nat_lt, take, Option, Some, None, option_map, if◌then◌else◌}
use Rattle.std.specs.List.{enumerate_from, find, list_any}
use Rattle.std.specs.Option.{option_or}
use Rattle.node_boxes.specs.declared.node_box.NodeBox.{NodeBox}
use Rattle.node_boxes.specs.declared.node_box.BoxBound.{BoxBound}
use Rattle.node_boxes.specs.Boxes.{holds}
use Rattle.node_boxes.specs.BoxNodes.{box_nodes}
use Rattle.node_boxes.specs.Grid.{GridSize, node_count}
use Rattle.node_boxes.specs.GridOrder.{all_nodes}
use Rattle.cover_checker.specs.declared.verdict.Verdict.{Verdict}
use Rattle.cover_checker.specs.declared.verdict.Verdict.TheVariants.{Outside, Twice, Uncovered}

-- the first answer that there is for an item of a list
abbrev pub first_of : {A B : Type 0} → (A → Option B) → List A → Option B
first_of answer [] = None
first_of answer (item ∷ items) = option_or (answer item) (first_of answer items)

-- each range of the box has a node and ends within the grid
abbrev pub is_in : GridSize → NodeBox → Bool
is_in g a =
    nat_lt a.x0 a.x1 && nat_le a.x1 g.x && nat_lt a.y0 a.y1 && nat_le a.y1 g.y && nat_lt a.z0 a.z1 && nat_le a.z1 g.z

-- some of the boxes holds the node
abbrev pub is_held : GridSize → List BoxBound → ℕ → Bool
is_held g boxes node = list_any (λ b. holds g b.area node) boxes

-- what is wrong with where the box at a place lies: it isn't in the grid, or else it holds a node of an earlier
-- box, of which the least is shown
abbrev pub placing_fault : GridSize → List BoxBound → ℕ × BoxBound → Option Verdict
placing_fault g boxes (place, b) =
    if is_in g b.area then option_map Twice (find (is_held g (take place boxes)) (box_nodes g b.area))
    else Some (Outside place)

-- what is wrong with the first box with which something is
unfoldable pub misplaced : GridSize → List BoxBound → Option Verdict
misplaced g boxes = first_of (placing_fault g boxes) (enumerate_from 0 boxes)

-- the least node that no box holds
unfoldable pub uncovered : GridSize → List BoxBound → Option Verdict
uncovered g boxes = option_map Uncovered (find (λ node. not (is_held g boxes node)) (all_nodes (node_count g)))
