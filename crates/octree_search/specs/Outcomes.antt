-- What a search finds.
use Rattle.std.specs.Prelude.{◌≡◌, ◌+◌, ◌≤◌, ℕ, ◌==◌, nat_lt, if◌then◌else◌, List, length, map, unwrap_or}
use Rattle.node_boxes.specs.declared.node_box.NodeBox.{NodeBox}
use Rattle.node_boxes.specs.declared.node_box.BoxBound.{BoxBound}
use Rattle.node_boxes.specs.Grid.{GridSize, node_count}
use Rattle.edt_score.specs.Best.{first_best}
use Rattle.edt_score.specs.Judging.{judged_score}
use Rattle.octree_search.specs.declared.found.Found.{Found}
use Rattle.octree_search.specs.declared.found.Found.TheVariants.{Located, NoFit, Budget, NearLimit}
use Rattle.octree_search.specs.Cover.{threshold_of, cover_of, boxes_met}
use Rattle.octree_search.specs.Near.{best_of, near_list}

-- a located event: the first best node, its score, the near nodes with their scores in grid order, the cover with its bounds, and how
-- many boxes are met
pub record LocatedValue : Type 0 where
  pub hyp : ℕ
  pub score : ℕ
  pub near : List (ℕ × ℕ)
  pub boxes : List BoxBound
  pub met : ℕ

-- what a search finds, with lists in place of vectors
pub data Outcome : Type 0 where
  IsLocated : LocatedValue → Outcome
  FitsNowhere : List BoxBound → ℕ → Outcome
  PassesBudget : Outcome
  PassesNearLimit : Outcome

-- the value of what was found
abbrev pub found_value : Found → Outcome
found_value (Located event) =
    IsLocated (record {
      hyp = event.hyp;
      score = event.score;
      near = event.near.items;
      boxes = event.cover.items;
      met = event.met;
    })
found_value (NoFit boxes met) = FitsNowhere boxes.items met
found_value Budget = PassesBudget
found_value NearLimit = PassesNearLimit

-- a box with its bound
abbrev pub bounded : (NodeBox → ℕ) → NodeBox → BoxBound
bounded bound a = record { area = a; bound = bound a }

-- the threshold of an event
abbrev pub event_threshold : GridSize → (NodeBox → ℕ) → ℕ → ℕ
event_threshold g bound margin = threshold_of margin (best_of g bound)

-- the cover of an event, each box with its bound
abbrev pub event_cover : GridSize → List NodeBox → (NodeBox → ℕ) → ℕ → List BoxBound
event_cover g roots bound margin = map (bounded bound) (cover_of bound (event_threshold g bound margin) roots)

-- how many boxes are met for an event
abbrev pub event_met : GridSize → List NodeBox → (NodeBox → ℕ) → ℕ → ℕ
event_met g roots bound margin = boxes_met bound (event_threshold g bound margin) roots

-- the near nodes of an event
abbrev pub event_near : GridSize → (NodeBox → ℕ) → ℕ → List (ℕ × ℕ)
event_near g bound margin = near_list g bound (event_threshold g bound margin)

-- the event, where it is located
abbrev pub located_value : GridSize → List NodeBox → (NodeBox → ℕ) → ℕ → LocatedValue
located_value g roots bound margin = record {
  hyp = unwrap_or (first_best (node_count g) (judged_score g bound)) 0;
  score = best_of g bound;
  near = event_near g bound margin;
  boxes = event_cover g roots bound margin;
  met = event_met g roots bound margin;
}

-- what is found within the budget: no node scores; or more than 100,000 nodes are near; or the event is located
unfoldable pub found_of : GridSize → List NodeBox → (NodeBox → ℕ) → ℕ → Outcome
found_of g roots bound margin =
    if best_of g bound == 0 then FitsNowhere (event_cover g roots bound margin) (event_met g roots bound margin)
    else if nat_lt 100000 (length (event_near g bound margin)) then PassesNearLimit
    else IsLocated (located_value g roots bound margin)

-- the outcome: more boxes are met than the budget allows, or what is found
unfoldable pub outcome_of : GridSize → List NodeBox → (NodeBox → ℕ) → ℕ → ℕ → Outcome
outcome_of g roots bound margin budget =
    if nat_lt budget (event_met g roots bound margin) then PassesBudget else found_of g roots bound margin

-- how often a judge is asked: as often as boxes are met, or at most as often as the budget allows where that is passed
abbrev pub Asks : ℕ → ℕ → ℕ → ℕ → Found → Type 0
Asks before after budget met (Located _) = after ≡ before + met
Asks before after budget met (NoFit _ _) = after ≡ before + met
Asks before after budget met Budget = after ≤ before + budget
Asks before after budget met NearLimit = after ≡ before + met
