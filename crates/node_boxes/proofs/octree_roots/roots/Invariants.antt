use Rattle.std.proofs.Common.{◌≡◌, map}
use Rattle.std.specs.List.{flat_map, range_with_len}
use Rattle.node_boxes.specs.BoxLists.{box_of}
use Rattle.node_boxes.specs.Roots.{part, parts}
use Rattle.node_boxes.proofs.octree_roots.roots.Given as goal

abbrev pub invariant-loop-i : goal.invariant-loop-i
invariant-loop-i l =
    l.roots.items
    ≡ flat_map (λ x. flat_map (λ y. map (box_of x y) (parts l.z.nodes l.z.count)) (parts l.y.nodes l.y.count))
    (map (part l.x.nodes l.x.count) (range_with_len 0 l.i))
