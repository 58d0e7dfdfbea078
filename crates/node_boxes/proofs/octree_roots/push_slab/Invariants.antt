use Rattle.std.proofs.Common.{◌≡◌, ◌++◌, map}
use Rattle.std.specs.List.{flat_map, range_with_len}
use Rattle.node_boxes.specs.BoxLists.{box_of}
use Rattle.node_boxes.specs.Roots.{part, parts}
use Rattle.node_boxes.proofs.octree_roots.push_slab.Given as goal

abbrev pub invariant-loop-j : goal.invariant-loop-j
invariant-loop-j l =
    l.roots.items ≡ l.initial.roots.items
    ++ flat_map (λ y. map (box_of l.x y) (parts l.z.nodes l.z.count))
    (map (part l.y.nodes l.y.count) (range_with_len 0 l.j))
