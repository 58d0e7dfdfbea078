-- The open boxes at the front that aren't ready.
use Rattle.std.specs.Prelude.{◌≡◌, ◌≤◌, ℕ, false, take, length}
use Rattle.std.specs.List.{AllByRecursion}
use Rattle.node_boxes.specs.declared.node_box.BoxBound.{BoxBound}
use Rattle.search_lanes.specs.Lanes.{LaneState, is_ready}

-- none of the first so many open boxes is ready
pub record IsPassed (margin : ℕ) (s : LaneState) (count : ℕ) : Type 0 where
  pub few : count ≤ length s.waiting
  pub low : AllByRecursion (λ (b : BoxBound). is_ready margin s b ≡ false) (take count s.waiting)
