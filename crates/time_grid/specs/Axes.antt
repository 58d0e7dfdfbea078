-- One axis of a time grid and of a search grid.
use Rattle.std.specs.Prelude.{ℕ, Bool, Option, is_some, position, ℤ, pos, ◌+ℤ◌, ◌*ℤ◌}
use Rattle.std.specs.List.{list_all, range_with_len}
use Rattle.std.specs.Ordering.{int_eq}
use Rattle.time_grid.specs.declared.axes.AxisPair.{AxisPair}

-- the coordinate of a node of an axis
abbrev pub coordinate : ℤ → ℤ → ℕ → ℤ
coordinate origin spacing i = origin +ℤ pos i *ℤ spacing

-- search node i of an axis has the coordinate of node j of the time grid
abbrev pub is_same : AxisPair → ℕ → ℕ → Bool
is_same a i j = int_eq (coordinate a.time_origin a.time_spacing j) (coordinate a.origin a.spacing i)

-- the first node of the time grid with the coordinate of search node i, or none
unfoldable pub axis_place : AxisPair → ℕ → Option ℕ
axis_place a i = position (is_same a i) (range_with_len 0 a.time_nodes)

-- each search node of the axis has the coordinate of a node of the time grid
unfoldable pub is_aligned : AxisPair → Bool
is_aligned a = list_all (λ i. is_some (axis_place a i)) (range_with_len 0 a.nodes)
