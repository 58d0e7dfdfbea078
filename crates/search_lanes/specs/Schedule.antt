-- The events that a seed gives: the draws of a generator choose among those that are possible.
use Rattle.std.specs.Prelude.{ℕ, ℤ, pos, negsuc, zero, suc, ◌+◌, ◌-◌, ◌*◌, ◌%◌, ◌^◌, ◌&&◌, ◌==◌, nat_lt, Bool, if◌then◌else◌, List, [], ◌∷◌, ◌++◌, length, Option, Some, None, slice_index_or, unwrap_or}
use Rattle.node_boxes.specs.declared.node_box.NodeBox.{NodeBox}
use Rattle.node_boxes.specs.declared.node_box.BoxBound.{BoxBound}
use Rattle.edt_score.specs.Demo.{draw, next_state}
use Rattle.search_lanes.specs.declared.lane_events.LaneEvent.{LaneEvent}
use Rattle.search_lanes.specs.declared.lane_events.LaneEvent.TheVariants.{Take, Done, Lost}
use Rattle.search_lanes.specs.Lanes.{Lane, Idle, Held, Gone, LaneState, is_finished, is_live, is_ready, start, step}

-- the numbers of the lanes that aren't gone, where the first one has the number `lane`
abbrev pub live_from : ℕ → List Lane → List ℕ
live_from lane [] = []
live_from lane (l ∷ lanes) = if is_live l then lane ∷ live_from (lane + 1) lanes else live_from (lane + 1) lanes

-- the last of some numbers, and 0 where there is none
abbrev pub last_of : List ℕ → ℕ
last_of [] = 0
last_of (n ∷ []) = n
last_of (n ∷ (m ∷ ns)) = last_of (m ∷ ns)

-- the first place of a ready box, where the first box has the place `place`
abbrev pub first_ready_from : ℕ → LaneState → ℕ → List BoxBound → Option ℕ
first_ready_from margin s place [] = None
first_ready_from margin s place (b ∷ boxes) =
    if is_ready margin s b then Some place else first_ready_from margin s (place + 1) boxes

-- the first place of a ready box, where there is one
abbrev pub first_ready : ℕ → LaneState → Option ℕ
first_ready margin s = first_ready_from margin s 0 s.waiting

-- what a lane that has no box can do: take the first ready box, where there is one
abbrev pub takes_from : ℕ → Option ℕ → List LaneEvent
takes_from lane None = []
takes_from lane (Some place) = Take lane place ∷ []

-- what a lane can do but be lost: with a box, be done with it
abbrev pub choices_of : ℕ → Option ℕ → Lane → List LaneEvent
choices_of lane ready Idle = takes_from lane ready
choices_of lane ready (Held b) = Done lane ∷ []
choices_of lane ready Gone = []

-- what the lanes can do, in their order, where the first one has the number `lane`
abbrev pub choices_from : ℕ → Option ℕ → List Lane → List LaneEvent
choices_from lane ready [] = []
choices_from lane ready (l ∷ lanes) = choices_of lane ready l ++ choices_from (lane + 1) ready lanes

-- what the lanes of a state can do
abbrev pub choices : ℕ → LaneState → List LaneEvent
choices margin s = choices_from 0 (first_ready margin s) s.lanes

-- a lane is lost next: the draw is 0 modulo 64, and more than one lane is left
abbrev pub loses : LaneState → ℕ → Bool
loses s seed = (draw seed % 64 == 0) && nat_lt 1 (length (live_from 0 s.lanes))

-- the next event: the greatest lane that isn't gone is lost, or a second draw chooses among what the lanes can do
abbrev pub next_event : ℕ → LaneState → ℕ → LaneEvent
next_event margin s seed =
    if loses s seed then Lost (last_of (live_from 0 s.lanes))
    else slice_index_or (choices margin s) (draw (next_state seed) % length (choices margin s)) (Lost 0)

-- the state of the generator after the draws for an event
abbrev pub seed_after : LaneState → ℕ → ℕ
seed_after s seed = if loses s seed then next_state seed else next_state (next_state seed)

-- the state with which the generator begins: the seed modulo 2^64
abbrev pub seed_state : ℤ → ℕ
seed_state (pos n) = n % 2 ^ 64
seed_state (negsuc n) = 2 ^ 64 - 1 - n % 2 ^ 64

-- the events from a state on until the run is finished, at most so many
unfoldable pub schedule_from : (NodeBox → ℕ) → ℕ → ℕ → ℕ → ℕ → LaneState → List LaneEvent
schedule_from bound margin budget zero seed s = []
schedule_from bound margin budget (suc left) seed s =
    if is_finished margin s then []
    else next_event margin s seed
    ∷ schedule_from bound margin budget left (seed_after s seed)
    (unwrap_or (step bound margin budget s (next_event margin s seed)) s)

-- the schedule of a seed: the events from the start on; a run is finished after `budget + 3 * lanes` events at the latest
unfoldable pub schedule : (NodeBox → ℕ) → ℕ → ℕ → ℕ → ℤ → List NodeBox → List LaneEvent
schedule bound margin budget lanes seed roots =
    schedule_from bound margin budget (budget + 3 * lanes) (seed_state seed) (start bound budget lanes roots)
