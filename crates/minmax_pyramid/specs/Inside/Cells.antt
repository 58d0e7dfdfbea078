-- The cells of the octree of a row of times.
use Rattle.std.specs.Prelude.{◌≡◌, ℕ, Bool, true, false, List, [], ◌∷◌, ◌-◌, ◌&&◌, nat_le}
use Rattle.node_boxes.specs.declared.node_box.NodeBox.{NodeBox}
use Rattle.node_boxes.specs.Grid.{GridSize}
use Rattle.node_boxes.specs.Children.{children_of}
use Rattle.minmax_pyramid.specs.declared.cell.Cell.{Cell, One, Split', Row_of-Cell, end_of-Cell, more_of-Cell}
use Rattle.minmax_pyramid.specs.Inside.Joins.{reach_of}

-- a box of at most four nodes on each axis
abbrev pub is_small : NodeBox → Bool
is_small a = nat_le (a.x1 - a.x0) 4 && nat_le (a.y1 - a.y0) 4 && nat_le (a.z1 - a.z0) 4

abbrev mutual
  -- the least and the greatest time of the box, and for a box that isn't small the cells of its children
  pub IsCell : GridSize → (ℕ → ℕ) → NodeBox → Cell → Type 0
  IsCell g time a (One least greatest) = (is_small a ≡ true) × ((least, greatest) ≡ reach_of g time a)
  IsCell g time a (Split' least greatest shape kids) =
      (is_small a ≡ false) × ((least, greatest) ≡ reach_of g time a) × AreCells g time (children_of a) kids

  -- one cell for each box
  pub AreCells : {m : _} → GridSize → (ℕ → ℕ) → List NodeBox → Row_of-Cell m → Type 0
  AreCells g time [] end_of-Cell = Unit {0}
  AreCells g time (a ∷ areas) (more_of-Cell kid rest) = IsCell g time a kid × AreCells g time areas rest
  AreCells g time [] (more_of-Cell kid rest) = ⊥
  AreCells g time (a ∷ areas) end_of-Cell = ⊥

-- where a way down to the box ends: at the cell of a small box above it, or at its own
abbrev pub IsReached : GridSize → (ℕ → ℕ) → NodeBox → Cell → Type 0
IsReached g time a (One least greatest) = is_small a ≡ true
IsReached g time a (Split' least greatest shape kids) = IsCell g time a (Split' least greatest shape kids)
