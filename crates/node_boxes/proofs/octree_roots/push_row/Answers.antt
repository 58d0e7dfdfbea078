use Rattle.std.proofs.Common.{◌∙◌, ap, ℕ, [], ◌∷◌, ◌++◌}
use Rattle.node_boxes.specs.BoxLists.{box_of}
use Rattle.node_boxes.specs.Roots.{part}
use Rattle.node_boxes.proofs.BoxPlaces.{row_more}
use Rattle.node_boxes.proofs.octree_roots.push_row.Goals as goal

pub loop-k-preserved : goal.loop-k-preserved
loop-k-preserved c =
    c.in_ok-push.ensures.items
    ∙ ap (λ (z : ℕ × ℕ). c.loop-k.roots.items ++ box_of c.args.x c.args.y z ∷ []) c.axis_part-z0.ensures
    ∙ row_more (box_of c.args.x c.args.y) (part c.args.z.nodes c.args.z.count) c.loop-k.k
    c.args.roots.now.items c.loop-k.roots.items c.loop-k.invariant
