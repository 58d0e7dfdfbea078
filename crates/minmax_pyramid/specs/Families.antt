-- The families of an octree: the children of one box, and the way down to them.
use Rattle.std.specs.Prelude.{◌≡◌, ℕ, List, [], ◌∷◌, ◌<◌, Some, length, slice_get, slice_index_or}
use Rattle.node_boxes.specs.declared.node_box.NodeBox.{NodeBox}
use Rattle.node_boxes.specs.Grid.{GridSize}
use Rattle.node_boxes.specs.Boxes.{IsSplittable}
use Rattle.node_boxes.specs.Children.{children_of}
use Rattle.minmax_pyramid.specs.Spans.{span_of}

-- the places of children that lead down from one box to another
abbrev pub IsWay : NodeBox → List ℕ → NodeBox → Type 0
IsWay a [] b = a ≡ b
IsWay a (place ∷ places) b =
    (c : NodeBox) × IsSplittable a × (slice_get (children_of a) place ≡ Some c) × IsWay c places b

-- a root by its number, the way down from it, and the box whose children the family is
pub record FamilyWay : Type 0 where
  pub root : ℕ
  pub places : List ℕ
  pub parent : NodeBox

-- the way leads down from the root to the parent, which can be split
pub record IsFamilyOf (roots : List NodeBox) (family : FamilyWay) : Type 0 where
  pub below : family.root < length roots
  pub down : (d : NodeBox) → IsWay (slice_index_or roots family.root d) family.places family.parent
  pub split : IsSplittable family.parent

-- the box stands at a place among the children of another
abbrev pub IsChildAt : NodeBox → ℕ → NodeBox → Type 0
IsChildAt parent place area = slice_get (children_of parent) place ≡ Some area

-- the spans of all children of a box, each at its place
abbrev pub AreSpans : GridSize → (ℕ → ℕ) → NodeBox → List (ℕ × ℕ) → Type 0
AreSpans g time parent spans = (place : ℕ) (child : NodeBox) → IsChildAt parent place child
    → slice_get spans place ≡ Some (span_of g time child)
