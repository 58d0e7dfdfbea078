-- What is true of an event whose certificate is proved: of all nodes, whatever the boxes.
use Rattle.std.specs.Prelude.{◌≡◌, ◌<◌, ℕ, List, map, filter, nat_le}
use Rattle.cover_certificate.specs.Blocks.{BlockValue, LocatedValue, IsLocated, FitsNowhere, HasFew, HasMany, PassesBudget, PassesNearLimit}
use Rattle.node_boxes.specs.GridOrder.{all_nodes}
use Rattle.edt_score.specs.Best.{IsFirstBest, best_score}
use Rattle.octree_search.specs.Cover.{threshold_of}
use Rattle.cover_checker.specs.Findings.{with_score}

-- of all of `n` nodes those that score at least a threshold, in grid order, each with its score
unfoldable pub near_nodes : ℕ → (ℕ → ℕ) → ℕ → List (ℕ × ℕ)
near_nodes n score least = map (with_score score) (filter (λ node. nat_le least (score node)) (all_nodes n))

-- the hypocentre is the first of all nodes that no node exceeds in score, its score is the printed one, and the
-- near list is that of all nodes whose scores are near the best one by the margin
pub record IsLocation (n : ℕ) (score : ℕ → ℕ) (margin : ℕ) (event : LocatedValue) : Type 0 where
  pub first : IsFirstBest n score event.hyp
  pub best : event.score ≡ best_score n score
  pub near : event.near ≡ near_nodes n score (threshold_of margin (best_score n score))

-- no node scores
abbrev pub NoneScores : ℕ → (ℕ → ℕ) → Type 0
NoneScores n score = (node : ℕ) → node < n → score node ≡ 0

-- what a certificate says of the scores of `n` nodes is true; one that claims nothing says nothing that could be
abbrev pub IsTrueOf : ℕ → (ℕ → ℕ) → ℕ → BlockValue → Type 0
IsTrueOf n score margin (IsLocated event) = IsLocation n score margin event
IsTrueOf n score margin (FitsNowhere boxes) = NoneScores n score
IsTrueOf n score margin HasFew = ⊥
IsTrueOf n score margin HasMany = ⊥
IsTrueOf n score margin PassesBudget = ⊥
IsTrueOf n score margin PassesNearLimit = ⊥
