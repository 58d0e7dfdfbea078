-- Search nodes among the nodes of a time grid, and their times.
use Rattle.std.specs.Prelude.{◌≡◌, ℕ, ◌<◌, not, List, [], ◌∷◌, map, find, Option, unwrap_or, slice_index}
use Rattle.grid_header.specs.declared.header.Header.{Header}
use Rattle.node_boxes.specs.declared.frame.Frame.{Frame}
use Rattle.node_boxes.specs.Grid.{GridSize, grid_size, node_count}
use Rattle.node_boxes.specs.GridOrder.{all_nodes, node_number, place_of}
use Rattle.time_grid.specs.declared.faults.Axis.{Axis}
use Rattle.time_grid.specs.declared.faults.Axis.TheVariants.{X, Y, Z}
use Rattle.time_grid.specs.declared.axes.AxisPair.{AxisPair}
use Rattle.time_grid.specs.Axes.{axis_place, coordinate, is_aligned}

-- the size of the time grid of a header
abbrev pub time_grid_size : Header → GridSize
time_grid_size header = grid_size header.x header.y header.z

-- one axis of the time grid of a header and of the search grid of a frame
abbrev pub axis_of : Header → Frame → Axis → AxisPair
axis_of header frame X = record {
  time_origin = header.ox;
  time_spacing = header.dx;
  time_nodes = header.x;
  origin = frame.ox;
  spacing = frame.dx;
  nodes = frame.grid.x;
}
axis_of header frame Y = record {
  time_origin = header.oy;
  time_spacing = header.dy;
  time_nodes = header.y;
  origin = frame.oy;
  spacing = frame.dy;
  nodes = frame.grid.y;
}
axis_of header frame Z = record {
  time_origin = header.oz;
  time_spacing = header.dz;
  time_nodes = header.z;
  origin = frame.oz;
  spacing = frame.dz;
  nodes = frame.grid.z;
}

-- the first axis on which some search node has the coordinate of no node of the time grid, or none
unfoldable pub first_unaligned_axis : Header → Frame → Option Axis
first_unaligned_axis header frame = find (λ axis. not (is_aligned (axis_of header frame axis))) (X ∷ Y ∷ Z ∷ [])

-- the node of the time grid with the coordinates of a search node, where the grids are aligned
unfoldable pub time_node : Header → Frame → ℕ → ℕ
time_node header frame node =
    let place = place_of frame.grid node in
    node_number (time_grid_size header)
    (unwrap_or (axis_place (axis_of header frame X) place.0) 0)
    (unwrap_or (axis_place (axis_of header frame Y) place.1) 0)
    (unwrap_or (axis_place (axis_of header frame Z) place.2) 0)

-- the time at a search node: the body's number at the node of the time grid with the same coordinates
unfoldable pub time_at : Header → Frame → List ℕ → ℕ → ℕ
time_at header frame times node = slice_index times (time_node header frame node)

-- the times of all search nodes, in grid order
unfoldable pub search_times : Header → Frame → List ℕ → List ℕ
search_times header frame times = map (time_at header frame times) (all_nodes (node_count frame.grid))

-- node m of the time grid has the coordinates of a search node
pub record HasSameCoordinates (header : Header) (frame : Frame) (node m : ℕ) : Type 0 where
  pub inside : m < node_count (time_grid_size header)
  pub x : coordinate header.ox header.dx (place_of (time_grid_size header) m).0 ≡ coordinate frame.ox frame.dx (place_of frame.grid node).0
  pub y : coordinate header.oy header.dy (place_of (time_grid_size header) m).1 ≡ coordinate frame.oy frame.dy (place_of frame.grid node).1
  pub z : coordinate header.oz header.dz (place_of (time_grid_size header) m).2 ≡ coordinate frame.oz frame.dz (place_of frame.grid node).2
