-- The boxes of the octree below a box.
use Rattle.std.specs.Prelude.{◌≡◌, ℕ, List, Some, true, false, Contains, ◌<◌, length, slice_get, slice_index_or}
use Rattle.node_boxes.specs.declared.node_box.NodeBox.{NodeBox}
use Rattle.node_boxes.specs.Boxes.{contains, is_single}
use Rattle.node_boxes.specs.Children.{children_of}

-- the box itself, or a box below one of its children
pub data IsBelow (b : NodeBox) : NodeBox → Type 0 where
  Here : IsBelow b b
  Down : (a c : NodeBox) → is_single a ≡ false → Contains (children_of a) c → IsBelow b c → IsBelow b a

-- the box that stands at the place holds the first node of the target
pub record IsHolderAt (boxes : List NodeBox) (target : NodeBox) (place : ℕ) (found : NodeBox) : Type 0 where
  pub at : slice_get boxes place ≡ Some found
  pub held : contains found target.x0 target.y0 target.z0 ≡ true

-- a box stands at the place, and it holds the first node of the target
pub record IsHolderPlace (boxes : List NodeBox) (target : NodeBox) (place : ℕ) : Type 0 where
  pub below : place < length boxes
  pub held : (d : NodeBox) → contains (slice_index_or boxes place d) target.x0 target.y0 target.z0 ≡ true
