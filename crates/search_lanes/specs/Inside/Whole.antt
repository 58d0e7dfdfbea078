-- What always holds of lanes, whoever judges their boxes.
use Rattle.std.specs.Prelude.{◌≡◌, ◌<◌, ◌≤◌, ℕ, ◌+◌, ◌++◌, Bool, true, false, List, length, All, Contains}
use Rattle.node_boxes.specs.declared.node_box.NodeBox.{NodeBox}
use Rattle.node_boxes.specs.Children.{children_of}
use Rattle.node_boxes.specs.Grid.{GridSize}
use Rattle.node_boxes.specs.Roots.{AreRoots}
use Rattle.octree_search.specs.declared.arena.Met.{Met}
use Rattle.octree_search.specs.declared.queue.Waiting.{Waiting}
use Rattle.search_lanes.specs.declared.lane_slots.Slot.{Slot}
use Rattle.search_lanes.specs.Inside.Bags.{IsBagOf}
use Rattle.search_lanes.specs.Inside.Slots.{busy, greatest_bound, is_low}

-- the budget was passed: by the roots, or by the children of a box that a lane holds
pub data IsPast (budget : ℕ) (roots : List NodeBox) (met : List Met) (slots : List Slot) : Type 0 where
  ByRoots : budget < length roots → IsPast budget roots met slots
  ByBox : (w : Waiting) → Contains (busy slots) w → budget < length met + length (children_of w.area)
      → IsPast budget roots met slots

-- the open boxes and those of the lanes are those that weren't opened; their greatest bound is kept; boxes of lanes were ready
pub record IsWhole (g : GridSize) (roots : List NodeBox) (margin budget : ℕ) (met : List Met) (boxes : List Waiting)
    (slots : List Slot) (upper : ℕ) (over : Bool) : Type 0 where
  pub are : AreRoots g roots
  pub margin_is : margin ≤ 999
  pub bag : IsBagOf g roots budget met (boxes ++ busy slots)
  pub upper_is : upper ≡ greatest_bound (boxes ++ busy slots)
  pub started : over ≡ false → 0 < length met
  pub ready : All (λ w. is_low margin upper w ≡ false) (busy slots)
  pub past : over ≡ true → IsPast budget roots met slots
