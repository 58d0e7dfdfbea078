-- What the code keeps of boxes and lanes, and the state that this is.
use Rattle.std.specs.Prelude.{ℕ, Bool, true, false, ◌||◌, ◌+◌, nat_lt, List, [], ◌∷◌, map, Option, Some, None}
use Rattle.std.specs.List.{flat_map}
use Rattle.node_boxes.specs.declared.node_box.NodeBox.{NodeBox}
use Rattle.node_boxes.specs.declared.node_box.BoxBound.{BoxBound}
use Rattle.node_boxes.specs.Boxes.{is_single}
use Rattle.node_boxes.specs.Grid.{GridSize}
use Rattle.minmax_pyramid.specs.Spans.{greatest}
use Rattle.octree_search.specs.declared.queue.Waiting.{Waiting}
use Rattle.octree_search.specs.Arena.{waiting}
use Rattle.octree_search.specs.Cover.{threshold_of}
use Rattle.search_lanes.specs.declared.lane_slots.Slot.{Slot}
use Rattle.search_lanes.specs.declared.lane_slots.Slot.TheVariants.{Free, Busy, Dead}
use Rattle.search_lanes.specs.Lanes.{Lane, Idle, Held, Gone, LaneState}
use Rattle.search_lanes.specs.LaneViews.{LanesView}

-- a box that waits, without its place
abbrev pub boxed : Waiting → BoxBound
boxed w = record { area = w.area; bound = w.bound }

-- the lane of a slot
abbrev pub lane_of : Slot → Lane
lane_of Free = Idle
lane_of (Busy w) = Held (boxed w)
lane_of Dead = Gone

-- the box of a slot
abbrev pub busy_in : Slot → List Waiting
busy_in Free = []
busy_in (Busy w) = w ∷ []
busy_in Dead = []

-- the boxes of the slots, in order
abbrev pub busy : List Slot → List Waiting
busy slots = flat_map busy_in slots

-- the greatest bound of some boxes, and 0 where there is none
abbrev pub greatest_bound : List Waiting → ℕ
greatest_bound boxes = greatest (map (λ (w : Waiting). w.bound) boxes)

-- a box isn't ready: it is single, or its bound is below the threshold of the greatest bound
abbrev pub is_low : ℕ → ℕ → Waiting → Bool
is_low margin upper w = is_single w.area || nat_lt w.bound (threshold_of margin upper)

-- boxes that were met one after another, from a place on
abbrev pub waits_from : (NodeBox → ℕ) → ℕ → List NodeBox → List Waiting
waits_from bound from [] = []
waits_from bound from (a ∷ areas) = waiting bound from a ∷ waits_from bound (from + 1) areas

-- the state of these boxes and slots
abbrev pub state_of : List Waiting → List Slot → ℕ → Bool → LaneState
state_of boxes slots met over = record {
  waiting = map boxed boxes;
  lanes = map lane_of slots;
  met = met;
  over = over;
}

-- and what is seen of it
abbrev pub view_of : GridSize → List NodeBox → ℕ → ℕ → List Waiting → List Slot → ℕ → Bool → LanesView
view_of g roots margin budget boxes slots met over = record {
  state = state_of boxes slots met over;
  grid = g;
  roots = roots;
  margin = margin;
  budget = budget;
}

-- a slot takes boxes, where there is such a slot
abbrev pub is_free_slot : Option Slot → Bool
is_free_slot None = false
is_free_slot (Some Free) = true
is_free_slot (Some (Busy w)) = false
is_free_slot (Some Dead) = false

-- a slot isn't dead, where there is such a slot
abbrev pub is_live_slot : Option Slot → Bool
is_live_slot None = false
is_live_slot (Some Free) = true
is_live_slot (Some (Busy w)) = true
is_live_slot (Some Dead) = false

-- the box of a slot, where there is such a slot and it has one
abbrev pub held_slot : Option Slot → Option Waiting
held_slot None = None
held_slot (Some Free) = None
held_slot (Some (Busy w)) = Some w
held_slot (Some Dead) = None
