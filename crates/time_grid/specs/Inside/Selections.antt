-- Nodes of a time grid that are taken.
use Rattle.std.specs.Prelude.{◌≡◌, ℕ, ◌+◌, ◌*◌, ◌^◌, ◌<◌, ◌≤◌, List, slice_index}
use Rattle.node_boxes.specs.Grid.{GridSize, grid_size, node_count}
use Rattle.node_boxes.specs.GridOrder.{IsInside, place_of}
use Rattle.time_grid.specs.Numbers.{number_at}
use Rattle.time_grid.specs.declared.numbers.ByteOrder.{ByteOrder}
use Rattle.time_grid.specs.declared.selections.Selection.{Selection}

-- the grid of the places that have a node
abbrev pub selection_size : Selection → GridSize
selection_size s = grid_size s.x s.y s.z

-- the node of a place
abbrev pub selected_at : Selection → ℕ → ℕ → ℕ → ℕ
selected_at s ix iy iz = s.start + ix * s.x_step + iy * s.y_step + iz * s.z_step

-- the node of the place with a number
unfoldable pub selected_node : Selection → ℕ → ℕ
selected_node s k = let place = place_of (selection_size s) k in selected_at s place.0 place.1 place.2

-- every node of the selection is one of the grid's, and their numbers rise in grid order
pub record IsSelection (nodes : ℕ) (s : Selection) : Type 0 where
  pub y : 1 ≤ s.y
  pub z : 1 ≤ s.z
  pub count : node_count (selection_size s) ≤ 16000000
  pub x_step : s.x_step ≤ 2 ^ 60
  pub y_step : s.y_step ≤ 2 ^ 60
  pub z_step : s.z_step ≤ 2 ^ 60
  pub within : (ix iy iz : ℕ) → IsInside (selection_size s) ix iy iz → selected_at s ix iy iz < nodes
  pub z_rises : 1 < s.z → 1 ≤ s.z_step
  pub y_rises : 1 < s.y → s.z * s.z_step < s.y_step + s.z_step
  pub x_rises : 1 < s.x → s.y * s.y_step + s.z * s.z_step < s.x_step + s.y_step + s.z_step

-- the times of the selected nodes, in grid order
abbrev pub AreSelected : List ℕ → Selection → List ℕ → Type 0
AreSelected times s taken = (k : ℕ) → k < node_count (selection_size s) → slice_index taken k ≡ slice_index times (selected_node s k)

-- the times of the selected nodes of a body, in grid order
abbrev pub AreTaken : ByteOrder → Selection → List ℕ → List ℕ → Type 0
AreTaken order s bytes times = (k : ℕ) → k < node_count (selection_size s) → slice_index times k ≡ number_at order bytes (selected_node s k)
