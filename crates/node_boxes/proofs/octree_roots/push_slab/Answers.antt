use Rattle.std.proofs.Common.{◌∙◌, ap, ℕ, ◌++◌, map}
use Rattle.node_boxes.specs.BoxLists.{box_of}
use Rattle.node_boxes.specs.Roots.{part, parts}
use Rattle.node_boxes.proofs.BoxPlaces.{part_more}
use Rattle.node_boxes.proofs.octree_roots.push_slab.Goals as goal

pub loop-j-preserved : goal.loop-j-preserved
loop-j-preserved c =
    let rows = λ (y : ℕ × ℕ). map (box_of c.args.x y) (parts c.args.z.nodes c.args.z.count) in
    c.in_ok-push_row.ensures
    ∙ ap (λ (y : ℕ × ℕ). c.loop-j.roots.items ++ rows y) c.axis_part.ensures
    ∙ part_more rows (part c.args.y.nodes c.args.y.count) c.loop-j.j
    c.args.roots.now.items c.loop-j.roots.items c.loop-j.invariant
