use Rattle.std.proofs.Common.{◌≡◌, ◌++◌, map}
use Rattle.std.specs.List.{range_with_len}
use Rattle.node_boxes.specs.BoxLists.{box_of}
use Rattle.node_boxes.specs.Roots.{part}
use Rattle.node_boxes.proofs.octree_roots.push_row.Given as goal

abbrev pub invariant-loop-k : goal.invariant-loop-k
invariant-loop-k l =
    l.roots.items ≡ l.initial.roots.items
    ++ map (box_of l.x l.y) (map (part l.z.nodes l.z.count) (range_with_len 0 l.k))
