-- What each kind of event makes of a state.
use Rattle.std.specs.Prelude.{ℕ, Option, slice_get, option_and_then}
use Rattle.node_boxes.specs.declared.node_box.NodeBox.{NodeBox}
use Rattle.search_lanes.specs.Lanes.{Lane, LaneState, finish_box, lose_lane, take_box}

-- a lane takes the box at a place
abbrev pub taken : ℕ → LaneState → ℕ → ℕ → Option LaneState
taken margin s lane place =
    option_and_then (λ (l : Lane). option_and_then (take_box margin s lane place l) (slice_get s.waiting place)) (slice_get s.lanes lane)

-- a lane is done with its box
abbrev pub finished : (NodeBox → ℕ) → ℕ → LaneState → ℕ → Option LaneState
finished bound budget s lane = option_and_then (finish_box bound budget s lane) (slice_get s.lanes lane)

-- a lane is lost
abbrev pub lost : LaneState → ℕ → Option LaneState
lost s lane = option_and_then (lose_lane s lane) (slice_get s.lanes lane)
