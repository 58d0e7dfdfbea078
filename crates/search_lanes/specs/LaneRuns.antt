-- Runs of lanes: lists of events, each possible where it stands.
use Rattle.std.specs.Prelude.{◌≡◌, ℕ, nat_lt, Bool, true, false, List, [], ◌∷◌, length, filter, Some}
use Rattle.std.specs.List.Sorted.{IsPermutation}
use Rattle.node_boxes.specs.declared.node_box.NodeBox.{NodeBox}
use Rattle.node_boxes.specs.Grid.{GridSize}
use Rattle.octree_search.specs.Near.{best_of}
use Rattle.octree_search.specs.Outcomes.{event_cover, event_met}
use Rattle.search_lanes.specs.declared.lane_events.LaneEvent.{LaneEvent}
use Rattle.search_lanes.specs.declared.lane_events.LaneEvent.TheVariants.{Take, Done, Lost}
use Rattle.search_lanes.specs.Lanes.{LaneState, is_finished, start, step, upper_of}

-- the events are possible one after another from a state, and lead to another one
abbrev pub Run : (NodeBox → ℕ) → ℕ → ℕ → LaneState → List LaneEvent → LaneState → Type 0
Run bound margin budget s [] end = s ≡ end
Run bound margin budget s (event ∷ events) end =
    (next : LaneState) × (step bound margin budget s event ≡ Some next) × Run bound margin budget next events end

-- the events are a finished run of so many lanes
pub record IsFinishedRun (bound : NodeBox → ℕ) (margin budget lanes : ℕ) (roots : List NodeBox) (events : List LaneEvent)
    : Type 0 where
  pub end : LaneState
  pub run : Run bound margin budget (start bound budget lanes roots) events end
  pub finished : is_finished margin end ≡ true

-- a state is what every finished run leads to: the budget was passed exactly where the cover of the event meets more boxes, and else the
-- open boxes are those of the cover, each once, as many were met as the cover meets, and the greatest bound is the best score
pub record IsEndOf (g : GridSize) (roots : List NodeBox) (bound : NodeBox → ℕ) (margin budget : ℕ) (end : LaneState) : Type 0 where
  pub over : end.over ≡ nat_lt budget (event_met g roots bound margin)
  pub met : end.over ≡ false → end.met ≡ event_met g roots bound margin
  pub cover : end.over ≡ false → IsPermutation end.waiting (event_cover g roots bound margin)
  pub best : end.over ≡ false → upper_of end ≡ best_of g bound

-- an event loses a lane
abbrev pub is_loss : LaneEvent → Bool
is_loss (Take lane place) = false
is_loss (Done lane) = false
is_loss (Lost lane) = true

-- how many of the events lose a lane
unfoldable pub losses : List LaneEvent → ℕ
losses events = length (filter is_loss events)
