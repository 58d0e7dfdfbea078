use Rattle.std.proofs.Common.{◌∙◌, ap, length, arith}
use Rattle.node_boxes.specs.Children.{children_of, halves}
use Rattle.node_boxes.proofs.BoxPlaces.{length-boxes_of}
use Rattle.node_boxes.proofs.children.Children.len.Goals as goal

pub returns-clause-value : goal.returns-clause-value
unfolding children_of
returns-clause-value c =
    let area = c.self.inside.area in
    let x = c.half_count.ensures.value in
    let y = c.half_count-2.ensures.value in
    let z = c.half_count-3.ensures.value in
    rw (x, y, z)
    (grind (arith, length-boxes_of (halves area.x0 area.x1) (halves area.y0 area.y1) (halves area.z0 area.z1)))
    ∙ ap length c.self.view_is
