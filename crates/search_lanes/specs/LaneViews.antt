-- What is seen of lanes, which judges fit it, and what a step does to it.
use Rattle.std.specs.Prelude.{◌≡◌, ◌<◌, ◌≤◌, ℕ, List, Contains, Option, Some, None, Result, Ok, Err}
use Rattle.std.specs.List.{AllByRecursion}
use Rattle.node_boxes.specs.declared.node_box.NodeBox.{NodeBox}
use Rattle.node_boxes.specs.declared.node_box.BoxBound.{BoxBound}
use Rattle.node_boxes.specs.Boxes.{IsPartOf, node_count_of}
use Rattle.node_boxes.specs.Grid.{GridSize}
use Rattle.node_boxes.specs.Octree.{IsOctreeBox}
use Rattle.octree_search.specs.Cover.{threshold_of}
use Rattle.search_lanes.specs.declared.lane_events.StepFault.{StepFault}
use Rattle.search_lanes.specs.declared.lane_events.StepFault.TheVariants.{Impossible, Memory}
use Rattle.search_lanes.specs.Lanes.{LaneState, boxes_of, upper_of}

-- the state of lanes, with what it is that they search
pub record LanesView : Type 0 where
  pub state : LaneState
  pub grid : GridSize
  pub roots : List NodeBox
  pub margin : ℕ
  pub budget : ℕ

-- a box was opened: it is an octree box that contains an open or held box and isn't that box
pub record IsOpenedBox (v : LanesView) (a : NodeBox) : Type 0 where
  pub tree : IsOctreeBox v.roots a
  pub leaf : BoxBound
  pub there : Contains (boxes_of v.state) leaf
  pub part : IsPartOf a leaf.area
  pub smaller : node_count_of leaf.area < node_count_of a

-- a judge of the same grid and roots fits lanes: open and held boxes carry its bounds, and its bound of every box that was opened reaches
-- the threshold of the greatest bound
pub record Fits (g : GridSize) (roots : List NodeBox) (bound : NodeBox → ℕ) (v : LanesView) : Type 0 where
  pub same_grid : g ≡ v.grid
  pub same_roots : roots ≡ v.roots
  pub bounds : AllByRecursion (λ (b : BoxBound). b.bound ≡ bound b.area) (boxes_of v.state)
  pub opened : (a : NodeBox) → IsOpenedBox v a → threshold_of v.margin (upper_of v.state) ≤ bound a

-- what a step answers, where the event leads to a state or is impossible: the lanes are in that state, or nothing has changed
abbrev pub Steps : {T : Type 0} → Option LaneState → LanesView → LanesView → Result T StepFault → Type 0
Steps next old new (Ok _) = (next ≡ Some new.state) × (new ≡ record old { state = new.state })
Steps next old new (Err Impossible) = (next ≡ None) × (new ≡ old)
Steps next old new (Err Memory) = ((state : LaneState) × (next ≡ Some state)) × (new ≡ old)
