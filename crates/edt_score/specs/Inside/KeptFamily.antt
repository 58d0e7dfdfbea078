-- The bounds of the children of one box, kept for the next calls.
use Rattle.std.specs.Prelude.{◌≡◌, ℕ, List, Option, Some, slice_get}
use Rattle.node_boxes.specs.declared.node_box.NodeBox.{NodeBox}
use Rattle.minmax_pyramid.specs.Families.{FamilyWay, IsChildAt}

-- the bounds of all children of a box, each at its place
abbrev pub AreBounds : (NodeBox → ℕ) → NodeBox → List ℕ → Type 0
AreBounds bound parent bounds = (place : ℕ) (child : NodeBox) → IsChildAt parent place child
    → slice_get bounds place ≡ Some (bound child)

-- the kept bounds are those of the kept family
abbrev pub HasBounds : (NodeBox → ℕ) → Option FamilyWay → List ℕ → Type 0
HasBounds bound kept bounds = (family : FamilyWay) → kept ≡ Some family → AreBounds bound family.parent bounds
