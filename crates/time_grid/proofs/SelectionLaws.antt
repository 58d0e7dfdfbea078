-- The nodes at the places of three axes.
use Rattle.std.proofs.Common.{◌≡◌, ℕ, ◌+◌, ◌*◌, ◌-◌, ◌/◌, ◌%◌, ◌^◌, ◌<◌, ◌≤◌, suc, arith, refl, sym, ap, ◌∙◌, inl, inr}
use Rattle.std.proofs.lemmas.Nat.{div-mul-add, mod-mul-add, mul-le}
use Rattle.std.proofs.lemmas.Bool.{cases_lt}
use Rattle.std.proofs.Math.Nat.{mul-le-mul_right}
use Rattle.grid_header.specs.declared.header.Header.{Header}
use Rattle.grid_header.specs.Reading.{IsValidHeader}
use Rattle.node_boxes.specs.declared.frame.Frame.{Frame}
use Rattle.node_boxes.specs.Grid.{GridSize, IsGrid, grid_size, node_count}
use Rattle.node_boxes.specs.GridOrder.{IsInside, place_of}
use Rattle.node_boxes.proofs.Order.{node_number-below, place_of-inside, number-place_of}
use Rattle.time_grid.specs.declared.axes.AxisPair.{AxisPair}
use Rattle.time_grid.specs.declared.axes.Places.{Places}
use Rattle.time_grid.specs.declared.selections.Selection.{Selection}
use Rattle.time_grid.specs.declared.cursors.Cursor.{Cursor}
use Rattle.time_grid.specs.declared.faults.Axis.TheVariants.{X, Y, Z}
use Rattle.time_grid.specs.Alignment.{axis_of, time_grid_size, time_node}
use Rattle.time_grid.specs.Inside.Steps.{ArePlaces}
use Rattle.time_grid.specs.Inside.Selections.{IsSelection, selected_at, selected_node, selection_size}
use Rattle.time_grid.specs.Inside.Cursors.{IsCursor}

-- the place of a number that is made of a place
pub place_of_done : (x y z ix iy iz : ℕ) → iy < y → iz < z → place_of (grid_size x y z) ((ix * y + iy) * z + iz) ≡ (ix, iy, iz)
place_of_done x y z ix iy iz wide deep =
    rw (div-mul-add (ix * y + iy) z iz deep, mod-mul-add (ix * y + iy) z iz deep, div-mul-add ix y iy wide, mod-mul-add ix y iy wide) refl

-- the node of a cursor
pub cursor_node : (nodes : ℕ) (c : Cursor) → IsCursor nodes c → c.node ≡ selected_node c.selection c.done
unfolding selected_node
cursor_node nodes c cursor =
    let s = c.selection in
    let at : place_of (selection_size s) c.done ≡ (c.ix, c.iy, c.iz) =
    rw cursor.done (place_of_done s.x s.y s.z c.ix c.iy c.iz cursor.iy cursor.iz) in
    let node : c.node ≡ selected_at s c.ix c.iy c.iz = omega (arith, cursor.node, cursor.row, cursor.plane) in
    node ∙ sym (ap (λ (p : ℕ × ℕ × ℕ). selected_at s p.0 p.1 p.2) at)

-- a cursor that is not after the last place
pub cursor_inside : (nodes : ℕ) (c : Cursor) → IsCursor nodes c → c.done < node_count (selection_size c.selection) → c.ix < c.selection.x
cursor_inside nodes c cursor left =
    let s = c.selection in
    elim (cases_lt c.ix s.x) [
      | inl inside ↦ inside
      | inr behind ↦
          let rows : s.x * s.y ≤ c.ix * s.y = mul-le-mul_right s.y behind in
          let all : s.x * s.y * s.z ≤ c.ix * s.y * s.z = mul-le-mul_right s.z rows in
          let more : c.ix * s.y * s.z ≤ (c.ix * s.y + c.iy) * s.z = mul-le-mul_right s.z (omega arith) in
          let done = cursor.done in
          absurd (omega arith)
    ]

-- every node, in grid order
spread : (a b d y z : ℕ) → 0 + a * (y * z) + b * z + d * 1 ≡ (a * y + b) * z + d
spread a b d y z = grind arith

pub whole_node : (x y z k : ℕ) → selected_node (record { x = x; y = y; z = z; start = 0; x_step = y * z; y_step = z; z_step = 1 }) k ≡ k
unfolding selected_node
whole_node x y z k = spread (k / z / y) (k / z % y) (k % z) y z ∙ number-place_of (grid_size x y z) k

-- the steps from one place to the next
pub row_step : (m sz sy tz : ℕ) → m * sz < tz → 1 ≤ sy → suc m * sz < sy * tz + sz
row_step m sz sy tz deep some =
    let row : 1 * tz ≤ sy * tz = mul-le-mul_right tz some in
    grind arith

pub plane_step : (k m sy sz sx ty tz : ℕ) → k * sy < ty → m * sz < tz → 1 ≤ sx
    → suc k * (sy * tz) + suc m * sz < sx * (ty * tz) + sy * tz + sz
plane_step k m sy sz sx ty tz wide deep some =
    let rows : suc (k * sy) * tz ≤ ty * tz = mul-le-mul_right tz wide in
    let plane : 1 * (ty * tz) ≤ sx * (ty * tz) = mul-le-mul_right (ty * tz) some in
    let same : k * (sy * tz) ≡ k * sy * tz = grind arith in
    grind arith

-- the node of a place by its axes
pub node_of_places : (fx fy fz sx sy sz ty tz ix iy iz : ℕ)
    → fx * (ty * tz) + fy * tz + fz + ix * (sx * (ty * tz)) + iy * (sy * tz) + iz * sz
    ≡ ((fx + ix * sx) * ty + (fy + iy * sy)) * tz + (fz + iz * sz)
node_of_places fx fy fz sx sy sz ty tz ix iy iz = grind arith

-- places and their distances are small
pub place_small : (a : AxisPair) (p : Places) → 1 ≤ a.nodes → a.time_nodes ≤ 4096 → ArePlaces a p → (p.first ≤ 4096) × (p.stride ≤ 4096)
place_small a p some few places =
    let first = places.within 0 some in
    elim (cases_lt 1 a.nodes) [
      | inl many ↦ let second = places.within 1 many in (omega arith, omega arith)
      | inr one ↦ let none = places.stays (omega arith) in (omega arith, omega arith)
    ]

pub product_small : (a b d : ℕ) → a ≤ 4096 → b ≤ 4096 → d ≤ 4096 → a * (b * d) ≤ 2 ^ 36
product_small a b d a_few b_few d_few = mul-le a (b * d) 4096 (4096 * 4096) a_few (mul-le b d 4096 4096 b_few d_few)

-- the selection of the places on three axes
abbrev pub selection_of : Header → GridSize → Places → Places → Places → Selection
selection_of h g x y z = record {
  x = g.x;
  y = g.y;
  z = g.z;
  start = x.first * (h.y * h.z) + y.first * h.z + z.first;
  x_step = x.stride * (h.y * h.z);
  y_step = y.stride * h.z;
  z_step = z.stride;
}

-- the steps of an axis with several nodes end before the last node of the time grid
last_step : (a : AxisPair) (p : Places) (n : ℕ) → a.nodes ≡ suc n → ArePlaces a p → n * p.stride < a.time_nodes
last_step a p n e places = let last = places.within n (omega arith) in omega arith

pred_of : (n : ℕ) → 1 ≤ n → n ≡ suc (n - 1)
pred_of n some = omega arith

pub selection_is : (h : Header) (f : Frame) (x y z : Places) → IsValidHeader h → IsGrid f.grid
    → ArePlaces (axis_of h f X) x → ArePlaces (axis_of h f Y) y → ArePlaces (axis_of h f Z) z
    → IsSelection (node_count (time_grid_size h)) (selection_of h f.grid x y z)
selection_is h f x y z valid grid at_x at_y at_z =
    let g = f.grid in
    let x_few = place_small (axis_of h f X) x grid.x_from valid.x.1 at_x in
    let y_few = place_small (axis_of h f Y) y grid.y_from valid.y.1 at_y in
    let z_few = place_small (axis_of h f Z) z grid.z_from valid.z.1 at_z in
    let x_small = product_small x.stride h.y h.z x_few.1 valid.y.1 valid.z.1 in
    let y_small = mul-le y.stride h.z 4096 4096 y_few.1 valid.z.1 in
    let z_last = last_step (axis_of h f Z) z (g.z - 1) (pred_of g.z grid.z_from) at_z in
    let y_last = last_step (axis_of h f Y) y (g.y - 1) (pred_of g.y grid.y_from) at_y in
    record {
      y = grid.y_from;
      z = grid.z_from;
      count = let few = grid.nodes in omega arith;
      x_step = omega arith;
      y_step = omega arith;
      z_step = omega arith;
      within = λ ix iy iz inside.
          let there : IsInside (time_grid_size h) (x.first + ix * x.stride) (y.first + iy * y.stride) (z.first + iz * z.stride) =
          record { x = at_x.within ix inside.x; y = at_y.within iy inside.y; z = at_z.within iz inside.z } in
          let below = node_number-below (time_grid_size h) _ _ _ there in
          rw (node_of_places x.first y.first z.first x.stride y.stride z.stride h.y h.z ix iy iz) below;
      z_rises = at_z.rises;
      y_rises = λ many.
          let step = row_step (g.z - 1) z.stride y.stride h.z z_last (at_y.rises many) in
          rw (sym (pred_of g.z grid.z_from)) at step;
      x_rises = λ many.
          let step = plane_step (g.y - 1) (g.z - 1) y.stride z.stride x.stride h.y h.z y_last z_last (at_x.rises many) in
          rw (sym (pred_of g.y grid.y_from), sym (pred_of g.z grid.z_from)) at step;
    }

pub selection_node : (h : Header) (f : Frame) (x y z : Places)
    → ArePlaces (axis_of h f X) x → ArePlaces (axis_of h f Y) y → ArePlaces (axis_of h f Z) z
    → (k : ℕ) → k < node_count f.grid → selected_node (selection_of h f.grid x y z) k ≡ time_node h f k
unfolding selected_node time_node
selection_node h f x y z at_x at_y at_z k below =
    let g = f.grid in
    let inside = place_of-inside g k below in
    let ix = k / g.z / g.y in
    let iy = k / g.z % g.y in
    let iz = k % g.z in
    rw (at_x.place ix inside.x, at_y.place iy inside.y, at_z.place iz inside.z)
    (node_of_places x.first y.first z.first x.stride y.stride z.stride h.y h.z ix iy iz)
