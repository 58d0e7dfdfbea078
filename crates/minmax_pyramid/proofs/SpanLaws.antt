-- The span of a box is what was joined of its times; it encloses that of each part.
use Rattle.std.proofs.Common.{◌≡◌, ap, refl, ℕ, ◌<◌, ◌^◌, min, max, arith, List, [], ◌∷◌, length, map}
use Rattle.node_boxes.specs.declared.node_box.NodeBox.{NodeBox}
use Rattle.node_boxes.specs.Grid.{GridSize}
use Rattle.node_boxes.specs.Boxes.{IsIn}
use Rattle.node_boxes.specs.BoxNodes.{box_nodes}
use Rattle.node_boxes.proofs.Nodes.{box_nodes-length}
use Rattle.node_boxes.proofs.ChildBoxes.{node_count-some}
use Rattle.node_boxes.proofs.OctreeBoxes.{in_nonempty}
use Rattle.minmax_pyramid.specs.Spans.{least, greatest, span_of}
use Rattle.minmax_pyramid.specs.Inside.Joins.{lowest, highest, lowest_of, highest_of, reach_of}

lowest-least : (time : ℕ → ℕ) → ((node : ℕ) → time node < 2 ^ 32) → (nodes : List ℕ) → 0 < length nodes
    → lowest (map time nodes) ≡ least (map time nodes)
lowest-least time fits [] some = absurd (omega arith)
lowest-least time fits (n ∷ []) some = omega (arith, fits n)
lowest-least time fits (n ∷ (m ∷ nodes)) some =
    ap (min (time n)) (lowest-least time fits (m ∷ nodes) (omega arith))

highest-greatest : (ns : List ℕ) → highest ns ≡ greatest ns
highest-greatest [] = refl
highest-greatest (n ∷ ns) = ap (max n) (highest-greatest ns)

pub reach-span : (g : GridSize) (time : ℕ → ℕ) (a : NodeBox) → IsIn g a → ((node : ℕ) → time node < 2 ^ 32)
    → reach_of g time a ≡ span_of g time a
unfolding lowest_of highest_of span_of
reach-span g time a inside fits =
    let some : 0 < length (box_nodes g a) =
    omega (arith, box_nodes-length g a inside, node_count-some a (in_nonempty g a inside)) in
    rw (lowest-least time fits (box_nodes g a) some, highest-greatest (map time (box_nodes g a))) refl
