use Rattle.std.proofs.lemmas.List.FromFn.{length-range_with_len}
use Rattle.node_boxes.proofs.Order.{node_number-below, place_of-number, place_of-inside, number-place_of, slice_get-all_nodes}
use Rattle.node_boxes.proofs.laws.grid_order_law.Goals as goal

pub returns-clause-number : goal.returns-clause-number
returns-clause-number c g ix iy iz inside =
    (node_number-below g ix iy iz inside, place_of-number g ix iy iz inside)

pub returns-clause-place : goal.returns-clause-place
returns-clause-place c g node below = (place_of-inside g node below, number-place_of g node)

pub returns-clause-nodes : goal.returns-clause-nodes
returns-clause-nodes c n k = (length-range_with_len 0 n, slice_get-all_nodes n k)
