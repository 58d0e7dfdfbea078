-- Least and greatest as folds, with which those of parts are joined.
use Rattle.std.specs.Prelude.{ℕ, List, [], ◌∷◌, min, max, map}
use Rattle.node_boxes.specs.declared.node_box.NodeBox.{NodeBox}
use Rattle.node_boxes.specs.Grid.{GridSize}
use Rattle.node_boxes.specs.BoxNodes.{box_nodes}

-- the numbers of a list joined by `op`, from `end` on
abbrev pub joined : (ℕ → ℕ → ℕ) → ℕ → List ℕ → ℕ
joined op end [] = end
joined op end (n ∷ ns) = op n (joined op end ns)

-- the least number of a list, and the greatest of 32 bits where there is none
abbrev pub lowest : List ℕ → ℕ
lowest ns = joined min 4294967295 ns

-- the greatest number of a list, and 0 where there is none
abbrev pub highest : List ℕ → ℕ
highest ns = joined max 0 ns

-- the lowest and the highest of the times to a list of nodes
abbrev pub reach_over : (ℕ → ℕ) → List ℕ → ℕ × ℕ
reach_over time nodes = (lowest (map time nodes), highest (map time nodes))

-- the lowest and the highest time of the nodes of a box
unfoldable pub lowest_of : GridSize → (ℕ → ℕ) → NodeBox → ℕ
lowest_of g time a = lowest (map time (box_nodes g a))

unfoldable pub highest_of : GridSize → (ℕ → ℕ) → NodeBox → ℕ
highest_of g time a = highest (map time (box_nodes g a))

-- both
abbrev pub reach_of : GridSize → (ℕ → ℕ) → NodeBox → ℕ × ℕ
reach_of g time a = (lowest_of g time a, highest_of g time a)
