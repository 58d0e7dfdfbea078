-- The roots of an octree: each axis of the grid is cut into parts.
use Rattle.std.specs.Prelude.{◌≡◌, ℕ, List, ◌+◌, ◌*◌, ◌/◌, cond, min, max, map, sum_by}
use Rattle.std.specs.List.{AllByRecursion, range_with_len}
use Rattle.node_boxes.specs.declared.node_box.NodeBox.{NodeBox}
use Rattle.node_boxes.specs.Grid.{GridSize, node_count}
use Rattle.node_boxes.specs.GridOrder.{IsInside}
use Rattle.node_boxes.specs.Boxes.{IsIn, contains, node_count_of}
use Rattle.node_boxes.specs.BoxLists.{boxes_of}

-- the range of part `k` of `n` on an axis of `nodes`
abbrev pub part : ℕ → ℕ → ℕ → ℕ × ℕ
part nodes n k = (k * nodes / n, (k + 1) * nodes / n)

-- the ranges of all parts
abbrev pub parts : ℕ → ℕ → List (ℕ × ℕ)
parts nodes n = map (part nodes n) (range_with_len 0 n)

-- a count brought into the range from 1 to the nodes of the axis
abbrev pub count_within : ℕ → ℕ → ℕ
count_within n nodes = max 1 (min n nodes)

-- the roots of a grid for these counts of parts, in the order of the x parts, then y, then z
unfoldable pub roots_of : GridSize → ℕ → ℕ → ℕ → List NodeBox
roots_of g nx ny nz = boxes_of
    (parts g.x (count_within nx g.x))
    (parts g.y (count_within ny g.y))
    (parts g.z (count_within nz g.z))

-- how many of the boxes hold the place
abbrev pub holders : ℕ → ℕ → ℕ → List NodeBox → ℕ
holders ix iy iz boxes = sum_by (λ a. cond (contains a ix iy iz) 1 0) boxes

-- boxes in the grid of which exactly one holds each node
pub record AreRoots (g : GridSize) (roots : List NodeBox) : Type 0 where
  pub inside : AllByRecursion (IsIn g) roots
  pub once : (ix iy iz : ℕ) → IsInside g ix iy iz → holders ix iy iz roots ≡ 1
  pub nodes : sum_by node_count_of roots ≡ node_count g
