-- Octree boxes and octree covers.
use Rattle.std.specs.Prelude.{◌≡◌, List, [], ◌∷◌, ◌++◌, false, Contains}
use Rattle.node_boxes.specs.declared.node_box.NodeBox.{NodeBox}
use Rattle.node_boxes.specs.Boxes.{is_single}
use Rattle.node_boxes.specs.Children.{children_of}

-- a root, or a child of an octree box
pub data IsOctreeBox (roots : List NodeBox) : NodeBox → Type 0 where
  Root : (a : NodeBox) → Contains roots a → IsOctreeBox roots a
  Child : (a b : NodeBox) → IsOctreeBox roots a → is_single a ≡ false → Contains (children_of a) b
      → IsOctreeBox roots b

-- the leaves of one cut per box, in order: each box stays whole, or its children are cut in its place
pub data IsOctreeCover : List NodeBox → List NodeBox → Type 0 where
  Done : IsOctreeCover [] []
  Keep : (a : NodeBox) (boxes leaves : List NodeBox) → IsOctreeCover boxes leaves
      → IsOctreeCover (a ∷ boxes) (a ∷ leaves)
  Open : (a : NodeBox) (boxes leaves : List NodeBox) → is_single a ≡ false
      → IsOctreeCover (children_of a ++ boxes) leaves → IsOctreeCover (a ∷ boxes) leaves
