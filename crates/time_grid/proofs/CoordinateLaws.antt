-- The node of the time grid at the coordinates of a search node.
use Rattle.std.proofs.Common.{◌≡◌, ℕ, ◌/◌, ◌%◌, ◌<◌, Bool, true, false, not, cond, get_or, Option, Some, None, is_some, unwrap_or, refl, ap, ◌∙◌, zero-add, arith, subst}
use Rattle.std.specs.List.{range_with_len}
use Rattle.std.proofs.lemmas.Bool.Decides.{Decides-int_eq}
use Rattle.std.proofs.lemmas.List.FromFn.{length-range_with_len, get_or-range_with_len}
use Rattle.std.proofs.lemmas.List.Quantifiers.{position-Some}
use Rattle.std.proofs.lemmas.List.Sums.{AllPass-from_list_all}
use Rattle.grid_header.specs.declared.header.Header.{Header}
use Rattle.node_boxes.specs.declared.frame.Frame.{Frame}
use Rattle.node_boxes.specs.Grid.{node_count}
use Rattle.node_boxes.specs.GridOrder.{IsInside}
use Rattle.node_boxes.proofs.Order.{node_number-below, place_of-inside, place_of-number}
use Rattle.time_grid.specs.declared.axes.AxisPair.{AxisPair}
use Rattle.time_grid.specs.declared.faults.Axis.TheVariants.{X, Y, Z}
use Rattle.time_grid.specs.Alignment.{HasSameCoordinates, axis_of, first_unaligned_axis, time_grid_size, time_node}
use Rattle.time_grid.specs.Axes.{axis_place, coordinate, is_aligned, is_same}

-- the three axes are aligned
no_axis : (x y z : Bool) → cond (not x) (Some X) (cond (not y) (Some Y) (cond (not z) (Some Z) None)) ≡ None → (x ≡ true) × (y ≡ true) × (z ≡ true)
no_axis true true true e = (refl, refl, refl)
no_axis true true false e = absurd (cc)
no_axis true false z e = absurd (cc)
no_axis false y z e = absurd (cc)

all_aligned : (header : Header) (frame : Frame) → first_unaligned_axis header frame ≡ None
    → (is_aligned (axis_of header frame X) ≡ true) × (is_aligned (axis_of header frame Y) ≡ true) × (is_aligned (axis_of header frame Z) ≡ true)
unfolding first_unaligned_axis
all_aligned header frame e = no_axis (is_aligned (axis_of header frame X)) (is_aligned (axis_of header frame Y)) (is_aligned (axis_of header frame Z)) e

-- a place of an axis that was found has the coordinate
found_place : (a : AxisPair) (i j : ℕ) → axis_place a i ≡ Some j → (j < a.time_nodes) × (coordinate a.time_origin a.time_spacing j ≡ coordinate a.origin a.spacing i)
unfolding axis_place
found_place a i j e =
    let found = position-Some (is_same a i) (range_with_len 0 a.time_nodes) j 0 e in
    let long = length-range_with_len 0 a.time_nodes in
    let inside : j < a.time_nodes = omega (arith, found.0) in
    let at : get_or (range_with_len 0 a.time_nodes) j 0 ≡ j = get_or-range_with_len 0 a.time_nodes j 0 inside ∙ zero-add j in
    let same : is_same a i j ≡ true = subst (λ k. is_same a i k ≡ true) at found.1 in
    (inside, (Decides-int_eq (coordinate a.time_origin a.time_spacing j) (coordinate a.origin a.spacing i)).0 same)

-- each search node of an aligned axis has a place
aligned_place : (a : AxisPair) (i : ℕ) → is_aligned a ≡ true → i < a.nodes
    → (unwrap_or (axis_place a i) 0 < a.time_nodes) × (coordinate a.time_origin a.time_spacing (unwrap_or (axis_place a i) 0) ≡ coordinate a.origin a.spacing i)
unfolding is_aligned
aligned_place a i every below =
    let long = length-range_with_len 0 a.nodes in
    let at : get_or (range_with_len 0 a.nodes) i 0 ≡ i = get_or-range_with_len 0 a.nodes i 0 below ∙ zero-add i in
    let some = AllPass-from_list_all (λ i. is_some (axis_place a i)) (range_with_len 0 a.nodes) every i 0 (omega arith) in
    go (axis_place a i) refl (subst (λ k. is_some (axis_place a k) ≡ true) at some)
  where
    go : (place : Option ℕ) → axis_place a i ≡ place → is_some place ≡ true
        → (unwrap_or place 0 < a.time_nodes) × (coordinate a.time_origin a.time_spacing (unwrap_or place 0) ≡ coordinate a.origin a.spacing i)
    go None e some = absurd (cc)
    go (Some j) e some = found_place a i j e

pub same_coordinates_is : (header : Header) (frame : Frame) (node : ℕ) → first_unaligned_axis header frame ≡ None → node < node_count frame.grid
    → HasSameCoordinates header frame node (time_node header frame node)
unfolding time_node
same_coordinates_is header frame node none below =
    let g = frame.grid in
    let t = time_grid_size header in
    let every = all_aligned header frame none in
    let place = place_of-inside g node below in
    let x = aligned_place (axis_of header frame X) (node / g.z / g.y) every.0 place.x in
    let y = aligned_place (axis_of header frame Y) (node / g.z % g.y) every.1 place.y in
    let z = aligned_place (axis_of header frame Z) (node % g.z) every.2 place.z in
    let inside : IsInside t _ _ _ = record { x = x.0; y = y.0; z = z.0 } in
    let at = place_of-number t _ _ _ inside in
    record {
      inside = node_number-below t _ _ _ inside;
      x = ap (λ (p : ℕ × ℕ × ℕ). coordinate header.ox header.dx p.0) at ∙ x.1;
      y = ap (λ (p : ℕ × ℕ × ℕ). coordinate header.oy header.dy p.1) at ∙ y.1;
      z = ap (λ (p : ℕ × ℕ × ℕ). coordinate header.oz header.dz p.2) at ∙ z.1;
    }
