-- What the lanes can do next, by what the code keeps.
use Rattle.std.specs.Prelude.{ℕ, ◌+◌, ◌%◌, ◌&&◌, ◌||◌, ◌==◌, nat_lt, if◌then◌else◌, Bool, List, [], ◌∷◌, length, Option, Some, None, slice_index_or}
use Rattle.node_boxes.specs.Boxes.{is_single}
use Rattle.edt_score.specs.Demo.{draw, next_state}
use Rattle.octree_search.specs.declared.queue.Waiting.{Waiting}
use Rattle.search_lanes.specs.declared.lane_events.LaneEvent.{LaneEvent}
use Rattle.search_lanes.specs.declared.lane_events.LaneEvent.TheVariants.{Lost}
use Rattle.search_lanes.specs.Lanes.{Lane}
use Rattle.search_lanes.specs.Schedule.{choices_from, last_of, live_from}

-- the first place of a box that isn't single and whose bound reaches a threshold, where the first box has the place `place`
abbrev pub first_from : ℕ → ℕ → List Waiting → Option ℕ
first_from least place [] = None
first_from least place (w ∷ boxes) =
    if is_single w.area || nat_lt w.bound least then first_from least (place + 1) boxes else Some place

-- a lane is lost next
abbrev pub loses_one : List Lane → ℕ → Bool
loses_one lanes seed = (draw seed % 64 == 0) && nat_lt 1 (length (live_from 0 lanes))

-- the next event of these lanes, where the first ready box has this place
abbrev pub chosen_event : Option ℕ → List Lane → ℕ → LaneEvent
chosen_event ready lanes seed =
    if loses_one lanes seed then Lost (last_of (live_from 0 lanes))
    else slice_index_or (choices_from 0 ready lanes) (draw (next_state seed) % length (choices_from 0 ready lanes)) (Lost 0)

-- the state of the generator after the draws for it
abbrev pub chosen_after : List Lane → ℕ → ℕ
chosen_after lanes seed = if loses_one lanes seed then next_state seed else next_state (next_state seed)
