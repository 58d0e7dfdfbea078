-- Several lanes over one frontier of boxes: what is known in the course of a search, and what an event does.
use Rattle.std.specs.Prelude.{ℕ, ◌+◌, ◌&&◌, ◌||◌, nat_lt, Bool, true, false, not, if◌then◌else◌, List, [], ◌∷◌, ◌++◌, length, map, set, replicate, Option, Some, None, slice_get, option_and_then}
use Rattle.std.specs.List.{flat_map, list_all, remove}
use Rattle.node_boxes.specs.declared.node_box.NodeBox.{NodeBox}
use Rattle.node_boxes.specs.declared.node_box.BoxBound.{BoxBound}
use Rattle.node_boxes.specs.Boxes.{is_single}
use Rattle.node_boxes.specs.Children.{children_of}
use Rattle.minmax_pyramid.specs.Spans.{greatest}
use Rattle.octree_search.specs.Cover.{threshold_of}
use Rattle.octree_search.specs.Outcomes.{bounded}
use Rattle.search_lanes.specs.declared.lane_events.LaneEvent.{LaneEvent}
use Rattle.search_lanes.specs.declared.lane_events.LaneEvent.TheVariants.{Take, Done, Lost}

-- a lane has no box, or holds one with its bound, or is gone for good
pub data Lane : Type 0 where
  Idle : Lane
  Held : BoxBound → Lane
  Gone : Lane

-- the open boxes with their bounds, in order; the lanes; how many boxes were met; and whether the budget was passed
pub record LaneState : Type 0 where
  pub waiting : List BoxBound
  pub lanes : List Lane
  pub met : ℕ
  pub over : Bool

-- the box that a lane holds
abbrev pub held_by : Lane → List BoxBound
held_by Idle = []
held_by (Held b) = b ∷ []
held_by Gone = []

-- the boxes that lanes hold, in the order of the lanes
abbrev pub held : List Lane → List BoxBound
held lanes = flat_map held_by lanes

-- a lane has no box, and can take one
abbrev pub is_idle : Lane → Bool
is_idle Idle = true
is_idle (Held b) = false
is_idle Gone = false

-- a lane isn't gone
abbrev pub is_live : Lane → Bool
is_live Idle = true
is_live (Held b) = true
is_live Gone = false

-- a lane holds no box
abbrev pub is_free : Lane → Bool
is_free Idle = true
is_free (Held b) = false
is_free Gone = true

-- the open boxes and those that lanes hold
abbrev pub boxes_of : LaneState → List BoxBound
boxes_of s = s.waiting ++ held s.lanes

-- the greatest bound of these, and 0 where there is no box
abbrev pub upper_of : LaneState → ℕ
upper_of s = greatest (map (λ (b : BoxBound). b.bound) (boxes_of s))

-- a box is ready to be taken: it isn't single, and its bound reaches the threshold of the greatest bound
abbrev pub is_ready : ℕ → LaneState → BoxBound → Bool
is_ready margin s b = not (is_single b.area || nat_lt b.bound (threshold_of margin (upper_of s)))

-- a lane that has no box takes the ready box at a place; the others keep their order
abbrev pub take_box : ℕ → LaneState → ℕ → ℕ → Lane → BoxBound → Option LaneState
take_box margin s lane place l b =
    if is_idle l && is_ready margin s b
    then Some (record s { waiting = remove s.waiting place; lanes = set s.lanes lane (Held b) })
    else None

-- a box was opened: its children go to the end of the open boxes, in order, and its lane has no box
abbrev pub opened : (NodeBox → ℕ) → LaneState → ℕ → BoxBound → LaneState
opened bound s lane b = record s {
  waiting = s.waiting ++ map (bounded bound) (children_of b.area);
  lanes = set s.lanes lane Idle;
  met = s.met + length (children_of b.area);
}

-- a lane is done with its box: where its children would pass the budget, that ends the run and all else stays, else the box was opened
abbrev pub finish_box : (NodeBox → ℕ) → ℕ → LaneState → ℕ → Lane → Option LaneState
finish_box bound budget s lane Idle = None
finish_box bound budget s lane (Held b) =
    if nat_lt budget (s.met + length (children_of b.area)) then Some (record s { over = true })
    else Some (opened bound s lane b)
finish_box bound budget s lane Gone = None

-- a lane that isn't gone is lost: a box that it held goes to the end of the open boxes
abbrev pub lose_lane : LaneState → ℕ → Lane → Option LaneState
lose_lane s lane l =
    if is_live l then Some (record s { waiting = s.waiting ++ held_by l; lanes = set s.lanes lane Gone }) else None

-- what an event makes of a state whose run isn't over, where it is possible there; no event is that names a lane or a place past the end
abbrev pub step_open : (NodeBox → ℕ) → ℕ → ℕ → LaneState → LaneEvent → Option LaneState
step_open bound margin budget s (Take lane place) =
    option_and_then (λ (l : Lane). option_and_then (take_box margin s lane place l) (slice_get s.waiting place)) (slice_get s.lanes lane)
step_open bound margin budget s (Done lane) = option_and_then (finish_box bound budget s lane) (slice_get s.lanes lane)
step_open bound margin budget s (Lost lane) = option_and_then (lose_lane s lane) (slice_get s.lanes lane)

-- what an event makes of a state, where it is possible there: none is once the budget was passed
abbrev pub step : (NodeBox → ℕ) → ℕ → ℕ → LaneState → LaneEvent → Option LaneState
step bound margin budget s event = if s.over then None else step_open bound margin budget s event

-- the state at the start: no lane has a box, and the roots are open; where there are more roots than the budget, the run is over at once
abbrev pub start : (NodeBox → ℕ) → ℕ → ℕ → List NodeBox → LaneState
start bound budget lanes roots =
    if nat_lt budget (length roots) then record { waiting = []; lanes = replicate lanes Idle; met = 0; over = true }
    else record { waiting = map (bounded bound) roots; lanes = replicate lanes Idle; met = length roots; over = false }

-- a run is finished: the budget was passed, or no lane holds a box and no open box is ready
abbrev pub is_finished : ℕ → LaneState → Bool
is_finished margin s = s.over || (list_all is_free s.lanes && list_all (λ b. not (is_ready margin s b)) s.waiting)
