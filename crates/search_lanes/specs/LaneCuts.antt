-- How the boxes of lanes divide the roots.
use Rattle.std.specs.Prelude.{◌≡◌, ℕ, ◌+◌, false, List, [], ◌∷◌, ◌++◌, map}
use Rattle.std.specs.List.Sorted.{IsPermutation}
use Rattle.node_boxes.specs.declared.node_box.NodeBox.{NodeBox}
use Rattle.node_boxes.specs.Children.{children_of}
use Rattle.node_boxes.specs.Grid.{GridSize}
use Rattle.octree_search.specs.Cover.{stops}
use Rattle.octree_search.specs.Outcomes.{bounded, event_threshold}
use Rattle.search_lanes.specs.Lanes.{LaneState, boxes_of}

-- the leaves of one cut per box, in order, and how many boxes the cuts have: each box stays whole, or the rule of the cover opens it and
-- its children are cut in its place
pub data IsCutBy (bound : NodeBox → ℕ) (t : ℕ) : List NodeBox → List NodeBox → ℕ → Type 0 where
  Done : IsCutBy bound t [] [] 0
  Keep : (a : NodeBox) (boxes leaves : List NodeBox) (count : ℕ) → IsCutBy bound t boxes leaves count
      → IsCutBy bound t (a ∷ boxes) (a ∷ leaves) (1 + count)
  Open : (a : NodeBox) (boxes leaves : List NodeBox) (count : ℕ) → stops bound t a ≡ false
      → IsCutBy bound t (children_of a ++ boxes) leaves count → IsCutBy bound t (a ∷ boxes) leaves (1 + count)

-- the open and held boxes of a state, with their bounds, are the leaves of one cut per root, each once; the rule of the cover opens every
-- box that these cuts split; and as many boxes were met as the cuts have
pub record IsDivided (g : GridSize) (roots : List NodeBox) (bound : NodeBox → ℕ) (margin : ℕ) (s : LaneState) : Type 0 where
  pub leaves : List NodeBox
  pub cut : IsCutBy bound (event_threshold g bound margin) roots leaves s.met
  pub boxes : IsPermutation (map (bounded bound) leaves) (boxes_of s)
