-- The boxes that were met and those of them that weren't opened, whatever their order, and whoever judges them.
use Rattle.std.specs.Prelude.{◌≡◌, ◌<◌, ◌≤◌, ℕ, ◌+◌, cond, false, List, length, take, sum_by, All, Contains, MatchOption, slice_index_or}
use Rattle.node_boxes.specs.declared.node_box.NodeBox.{NodeBox}
use Rattle.node_boxes.specs.Boxes.{contains, is_single}
use Rattle.node_boxes.specs.Children.{children_of}
use Rattle.node_boxes.specs.Grid.{GridSize}
use Rattle.node_boxes.specs.GridOrder.{IsInside}
use Rattle.node_boxes.specs.Octree.{IsOctreeBox}
use Rattle.octree_search.specs.declared.arena.Met.{Met}
use Rattle.octree_search.specs.declared.queue.Waiting.{Waiting}
use Rattle.octree_search.specs.Arena.{IsLinked, areas_met}
use Rattle.octree_search.specs.Cover.{below, boxes_met, stops}

-- a box that was met, with its place
abbrev pub entry_of : ℕ → Met → Waiting
entry_of place m = record { bound = m.bound; place = place; area = m.area }

-- a box that was met is one of those that weren't opened, or stands before its children
pub record IsSeen (roots : List NodeBox) (areas : List NodeBox) (boxes : List Waiting) (place : ℕ) (m : Met) : Type 0 where
  pub tree : IsOctreeBox roots m.area
  pub state : MatchOption m.first_child (Contains boxes (entry_of place m))
      (λ first. (is_single m.area ≡ false) × (1 ≤ length (children_of m.area)) × IsLinked areas m.area first)

-- a box that wasn't opened stands at its place among those that were met
pub record IsPlaced (roots : List NodeBox) (areas : List NodeBox) (w : Waiting) : Type 0 where
  pub tree : IsOctreeBox roots w.area
  pub within : w.place < length areas
  pub there : (d : NodeBox) → slice_index_or areas w.place d ≡ w.area

-- every box that was met is one, and so is every box that wasn't opened
pub record IsArena (roots : List NodeBox) (met : List Met) (boxes : List Waiting) : Type 0 where
  pub entries : (place : ℕ) (d : Met) → place < length met
      → IsSeen roots (areas_met met) boxes place (slice_index_or met place d)
  pub queued : All (IsPlaced roots (areas_met met)) boxes

-- what holds of each box that was opened
abbrev pub AllOpened : (NodeBox → Type 0) → List Met → Type 0
AllOpened P met = (place : ℕ) (d : Met) → place < length met
    → MatchOption (slice_index_or met place d).first_child (Unit {0}) (λ _. P (slice_index_or met place d).area)

-- whether a box holds a place, as a number
abbrev pub holds_place : ℕ → ℕ → ℕ → Waiting → ℕ
holds_place ix iy iz w = cond (contains w.area ix iy iz) 1 0

-- how many boxes the rule meets below a box
abbrev pub left_below : (NodeBox → ℕ) → ℕ → Waiting → ℕ
left_below bound t w = below bound t w.area

-- the boxes that weren't opened hold each node of the grid once; the roots were met first; and a judge whose rule opens every box that was
-- opened meets as many boxes as were met and as are left below those that weren't opened
pub record IsBagOf (g : GridSize) (roots : List NodeBox) (budget : ℕ) (met : List Met) (boxes : List Waiting) : Type 0 where
  pub within : length met ≤ budget
  pub arena : IsArena roots met boxes
  pub once : (ix iy iz : ℕ) → IsInside g ix iy iz → 0 < length met → sum_by (holds_place ix iy iz) boxes ≡ 1
  pub first : 0 < length met → take (length roots) (areas_met met) ≡ roots
  pub count : (bound : NodeBox → ℕ) (t : ℕ) → 0 < length met → AllOpened (λ a. stops bound t a ≡ false) met
      → length met + sum_by (left_below bound t) boxes ≡ boxes_met bound t roots
