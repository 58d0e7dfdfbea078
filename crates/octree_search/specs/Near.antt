-- The nodes whose scores are near the best one.
use Rattle.std.specs.Prelude.{ℕ, Bool, nat_le, List, map, filter}
use Rattle.node_boxes.specs.declared.node_box.NodeBox.{NodeBox}
use Rattle.node_boxes.specs.Grid.{GridSize, node_count}
use Rattle.node_boxes.specs.GridOrder.{all_nodes}
use Rattle.edt_score.specs.Best.{best_score}
use Rattle.edt_score.specs.Judging.{judged_score}

-- the best score of all nodes
abbrev pub best_of : GridSize → (NodeBox → ℕ) → ℕ
best_of g bound = best_score (node_count g) (judged_score g bound)

-- the score of a node reaches a threshold
abbrev pub is_near : GridSize → (NodeBox → ℕ) → ℕ → ℕ → Bool
is_near g bound t node = nat_le t (judged_score g bound node)

-- a node with its score
abbrev pub scored : GridSize → (NodeBox → ℕ) → ℕ → ℕ × ℕ
scored g bound node = (node, judged_score g bound node)

-- the nodes whose scores reach a threshold, in grid order, each with its score
unfoldable pub near_list : GridSize → (NodeBox → ℕ) → ℕ → List (ℕ × ℕ)
near_list g bound t = map (scored g bound) (filter (is_near g bound t) (all_nodes (node_count g)))
