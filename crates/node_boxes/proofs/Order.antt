-- Number and place of a node undo each other.
use Rattle.std.proofs.Common.{◌≡◌, ℕ, Some, ◌+◌, ◌*◌, ◌/◌, ◌%◌, ◌<◌, zero, suc, arith, length, slice_get, ap, ◌∙◌, zero-add}
use Rattle.std.proofs.lemmas.Option.{slice_get-get_or}
use Rattle.std.proofs.lemmas.Nat.{div-mul-add, mod-mul-add, mul-add-lt, div_below, mod_below, div-add-mod'}
use Rattle.std.proofs.lemmas.List.FromFn.{length-range_with_len, get_or-range_with_len}
use Rattle.node_boxes.specs.Grid.{GridSize, node_count}
use Rattle.node_boxes.specs.GridOrder.{IsInside, all_nodes, node_number, place_of}

pub node_number-below : (g : GridSize) (ix iy iz : ℕ) → IsInside g ix iy iz → node_number g ix iy iz < node_count g
node_number-below g ix iy iz inside =
    let row : ix * g.y + iy < g.x * g.y = omega (arith, mul-add-lt ix g.y iy g.x inside.x inside.y) in
    omega (arith, mul-add-lt (ix * g.y + iy) g.z iz (g.x * g.y) row inside.z)

pub place_of-number : (g : GridSize) (ix iy iz : ℕ) → IsInside g ix iy iz → place_of g (node_number g ix iy iz) ≡ (ix, iy, iz)
place_of-number g ix iy iz inside =
    rw (
      div-mul-add (ix * g.y + iy) g.z iz inside.z,
      mod-mul-add (ix * g.y + iy) g.z iz inside.z,
      div-mul-add ix g.y iy inside.y,
      mod-mul-add ix g.y iy inside.y,
    )

-- the second factor of a product that is above a number isn't 0
positive : (a b n : ℕ) → n < a * b → 0 < b
positive a zero n below = omega arith
positive a (suc b) n below = omega arith

pub place_of-inside : (g : GridSize) (node : ℕ) → node < node_count g
    → IsInside g (node / g.z / g.y) (node / g.z % g.y) (node % g.z)
place_of-inside g node below =
    let deep = positive (g.x * g.y) g.z node below in
    let row : node / g.z < g.x * g.y = div_below node g.z (g.x * g.y) deep below in
    let wide = positive g.x g.y (node / g.z) row in
    record {
      x = div_below (node / g.z) g.y g.x wide row;
      y = mod_below (node / g.z) g.y wide;
      z = mod_below node g.z deep;
    }

pub number-place_of : (g : GridSize) (node : ℕ)
    → node_number g (node / g.z / g.y) (node / g.z % g.y) (node % g.z) ≡ node
number-place_of g node = rw (div-add-mod' (node / g.z) g.y) (div-add-mod' node g.z)

pub slice_get-all_nodes : (n k : ℕ) → k < n → slice_get (all_nodes n) k ≡ Some k
slice_get-all_nodes n k below =
    let within : k < length (all_nodes n) = rw length-range_with_len below in
    slice_get-get_or (all_nodes n) k 0 within ∙ ap Some (get_or-range_with_len 0 n k 0 below ∙ zero-add k)
