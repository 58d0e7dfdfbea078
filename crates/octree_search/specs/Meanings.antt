-- What an outcome says of the nodes and the boxes.
use Rattle.std.specs.Prelude.{◌≡◌, ◌<◌, ◌≤◌, ℕ, List, length}
use Rattle.node_boxes.specs.declared.node_box.NodeBox.{NodeBox}
use Rattle.node_boxes.specs.Grid.{GridSize, node_count}
use Rattle.edt_score.specs.Best.{IsFirstBest}
use Rattle.edt_score.specs.Judging.{judged_score}
use Rattle.octree_search.specs.Near.{best_of}
use Rattle.octree_search.specs.Outcomes.{LocatedValue, Outcome, IsLocated, FitsNowhere, PassesBudget, PassesNearLimit, event_met, event_near}

-- the event is at the first best node, whose score is above 0, at most 100,000 nodes are near, and there are no more boxes than nodes
pub record IsLocatedAtBest (g : GridSize) (bound : NodeBox → ℕ) (event : LocatedValue) : Type 0 where
  pub first : IsFirstBest (node_count g) (judged_score g bound) event.hyp
  pub score : event.score ≡ judged_score g bound event.hyp
  pub some : 1 ≤ event.score
  pub near : length event.near ≤ 100000
  pub boxes : length event.boxes ≤ node_count g

-- what each outcome says: that the event is at its best node; that every node scores 0; that the budget is passed; or that more than
-- 100,000 nodes are near
abbrev pub Says : GridSize → List NodeBox → (NodeBox → ℕ) → ℕ → ℕ → Outcome → Type 0
Says g roots bound margin budget (IsLocated event) = IsLocatedAtBest g bound event
Says g roots bound margin budget (FitsNowhere boxes met) = (best_of g bound ≡ 0) × (length boxes ≤ node_count g)
Says g roots bound margin budget PassesBudget = budget < event_met g roots bound margin
Says g roots bound margin budget PassesNearLimit = 100000 < length (event_near g bound margin)
