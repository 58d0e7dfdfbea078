-- The least and the greatest time of the nodes of a box.
use Rattle.std.specs.Prelude.{ℕ, List, [], ◌∷◌, min, max, map, slice_index}
use Rattle.node_boxes.specs.declared.node_box.NodeBox.{NodeBox}
use Rattle.node_boxes.specs.Grid.{GridSize}
use Rattle.node_boxes.specs.BoxNodes.{box_nodes}

-- the least number of a list, and 0 where there is none
abbrev pub least : List ℕ → ℕ
least [] = 0
least (n ∷ []) = n
least (n ∷ (m ∷ ns)) = min n (least (m ∷ ns))

-- the greatest number of a list, and 0 where there is none
abbrev pub greatest : List ℕ → ℕ
greatest [] = 0
greatest (n ∷ ns) = max n (greatest ns)

-- the least and the greatest of the times to a list of nodes
abbrev pub span_over : (ℕ → ℕ) → List ℕ → ℕ × ℕ
span_over time nodes = (least (map time nodes), greatest (map time nodes))

-- the span of a box: that of its nodes
unfoldable pub span_of : GridSize → (ℕ → ℕ) → NodeBox → ℕ × ℕ
span_of g time a = span_over time (box_nodes g a)

-- the time to a node in a list of one time per node
abbrev pub time_in : List ℕ → ℕ → ℕ
time_in times node = slice_index times node
