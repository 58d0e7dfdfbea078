-- The best score of nodes and the first node that has it, whatever gives the scores.
use Rattle.std.specs.Prelude.{ℕ, Option, ◌≤◌, ◌<◌, ◌==◌, map}
use Rattle.std.specs.List.{find}
use Rattle.node_boxes.specs.GridOrder.{all_nodes}
use Rattle.minmax_pyramid.specs.Spans.{greatest}

-- the greatest of the scores of all of `n` nodes
unfoldable pub best_score : ℕ → (ℕ → ℕ) → ℕ
best_score n score = greatest (map score (all_nodes n))

-- the first of all of `n` nodes that has the best score
unfoldable pub first_best : ℕ → (ℕ → ℕ) → Option ℕ
first_best n score = find (λ node. score node == best_score n score) (all_nodes n)

-- a node that no node exceeds in score, and each node before it has less
pub record IsFirstBest (n : ℕ) (score : ℕ → ℕ) (node : ℕ) : Type 0 where
  pub inside : node < n
  pub best : (other : ℕ) → other < n → score other ≤ score node
  pub first : (other : ℕ) → other < node → score other < score node
