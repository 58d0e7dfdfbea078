use Rattle.std.proofs.Common.{◌∙◌, ap, ℕ, [], ◌++◌, map, arith}
use Rattle.std.specs.List.{flat_map}
use Rattle.node_boxes.specs.BoxLists.{box_of}
use Rattle.node_boxes.specs.Roots.{part, parts}
use Rattle.node_boxes.proofs.BoxPlaces.{part_more}
use Rattle.node_boxes.proofs.RootBoxes.{roots_whole, are_roots}
use Rattle.node_boxes.proofs.octree_roots.roots.Goals as goal

pub loop-i-preserved : goal.loop-i-preserved
loop-i-preserved c =
    let y = c.axis_parts-y.result in
    let z = c.axis_parts-z.result in
    let slabs = λ (x : ℕ × ℕ). flat_map (λ y'. map (box_of x y') (parts z.nodes z.count)) (parts y.nodes y.count) in
    c.in_ok-push_slab.ensures
    ∙ ap (λ (x : ℕ × ℕ). c.loop-i.roots.items ++ slabs x) c.axis_part.ensures
    ∙ part_more slabs (part c.axis_parts-x.result.nodes c.axis_parts-x.result.count) c.loop-i.i
    [] c.loop-i.roots.items c.loop-i.invariant

pub returns-clause-value : goal.returns-clause-value
returns-clause-value c =
    let x = c.axis_parts-x.result in
    let y = c.axis_parts-y.result in
    let z = c.axis_parts-z.result in
    roots_whole c.args.grid.now c.args.nx c.args.ny c.args.nz
    c.x.result c.y.result c.z.result x.nodes y.nodes z.nodes x.count y.count z.count c.loop-i.i
    c.x.ensures.value c.y.ensures.value c.z.ensures.value
    c.axis_parts-x.ensures.nodes c.axis_parts-y.ensures.nodes c.axis_parts-z.ensures.nodes
    c.axis_parts-x.ensures.count c.axis_parts-y.ensures.count c.axis_parts-z.ensures.count
    (omega arith) c.loop-i.roots.items c.loop-i.invariant

pub returns-clause-roots : goal.returns-clause-roots
returns-clause-roots c =
    are_roots c.args.grid.now c.args.nx c.args.ny c.args.nz c.loop-i.roots.items
    c.x.ensures.grid (returns-clause-value c)
