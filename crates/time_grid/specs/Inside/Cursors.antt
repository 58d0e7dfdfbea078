-- A walk over the nodes that are taken.
use Rattle.std.specs.Prelude.{◌≡◌, ℕ, ◌+◌, ◌-◌, ◌*◌, ◌/◌, ◌<◌, ◌≤◌, List, length}
use Rattle.node_boxes.specs.Grid.{node_count}
use Rattle.node_boxes.specs.GridOrder.{node_number}
use Rattle.time_grid.specs.declared.cursors.Cursor.{Cursor}
use Rattle.time_grid.specs.declared.numbers.ByteOrder.{ByteOrder}
use Rattle.time_grid.specs.Numbers.{number_at}
use Rattle.time_grid.specs.Inside.Selections.{IsSelection, selection_size}

-- the cursor is at a place of its selection or after the last one, and its numbers are those of the place
pub record IsCursor (nodes : ℕ) (c : Cursor) : Type 0 where
  pub selection : IsSelection nodes c.selection
  pub ix : c.ix ≤ c.selection.x
  pub iy : c.iy < c.selection.y
  pub iz : c.iz < c.selection.z
  pub done : c.done ≡ node_number (selection_size c.selection) c.ix c.iy c.iz
  pub plane : c.plane ≡ c.selection.start + c.ix * c.selection.x_step
  pub row : c.row ≡ c.plane + c.iy * c.selection.y_step
  pub node : c.node ≡ c.row + c.iz * c.selection.z_step

-- no node of a place that is left comes before the next number
abbrev pub IsAhead : ℕ → Cursor → Type 0
IsAhead first c = c.done < node_count (selection_size c.selection) → first ≤ c.node

-- a number is that of a node that is in a piece
pub record IsTaken (order : ByteOrder) (first : ℕ) (piece : List ℕ) (node time : ℕ) : Type 0 where
  pub from : first ≤ node
  pub to : node < first + length piece / 4
  pub value : time ≡ number_at order piece (node - first)
