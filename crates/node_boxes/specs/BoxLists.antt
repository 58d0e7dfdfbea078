-- The boxes that ranges on the three axes make.
use Rattle.std.specs.Prelude.{ℕ, List, map}
use Rattle.std.specs.List.{flat_map}
use Rattle.node_boxes.specs.declared.node_box.NodeBox.{NodeBox}

-- the box of one range on each axis
abbrev pub box_of : ℕ × ℕ → ℕ × ℕ → ℕ × ℕ → NodeBox
box_of x y z = record { x0 = x.0; x1 = x.1; y0 = y.0; y1 = y.1; z0 = z.0; z1 = z.1 }

-- the boxes of each choice of ranges, in the order of the x ranges, then y, then z
abbrev pub boxes_of : List (ℕ × ℕ) → List (ℕ × ℕ) → List (ℕ × ℕ) → List NodeBox
boxes_of xs ys zs = flat_map (λ x. flat_map (λ y. map (box_of x y) zs) ys) xs
