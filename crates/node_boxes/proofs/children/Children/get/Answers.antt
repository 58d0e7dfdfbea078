use Rattle.std.proofs.Common.{◌∙◌, ap, sym, arith, List, slice_get}
use Rattle.node_boxes.specs.declared.node_box.NodeBox.{NodeBox}
use Rattle.node_boxes.specs.Children.{children_of, halves}
use Rattle.node_boxes.proofs.BoxPlaces.{at_some, at_none}
use Rattle.node_boxes.proofs.children.Children.get.Goals as goal

pub returns-in_err-x0 : goal.returns-in_err-x0
unfolding children_of
returns-in_err-x0 c =
    let area = c.self.inside.area in
    c.from_residual.ensures
    ∙ at_none (halves area.x0 area.x1) (halves area.y0 area.y1) (halves area.z0 area.z1)
    c.half_count-ny.result c.half_count-nz.result c.args.place
    c.half_count-ny.ensures.value c.half_count-nz.ensures.value (omega arith) (omega arith)
    (sym c.in_err-x0.was ∙ c.half.ensures)
    ∙ ap (λ (v : List NodeBox). slice_get v c.args.place) c.self.view_is

pub returns : goal.returns
unfolding children_of
returns c =
    let area = c.self.inside.area in
    at_some (halves area.x0 area.x1) (halves area.y0 area.y1) (halves area.z0 area.z1)
    c.half_count-ny.result c.half_count-nz.result c.args.place
    (c.in_ok-x0.x0, c.in_ok-x0.x1) (c.in_ok-y0.y0, c.in_ok-y0.y1) (c.in_ok-z0.z0, c.in_ok-z0.z1)
    c.half_count-ny.ensures.value c.half_count-nz.ensures.value (omega arith) (omega arith)
    (sym c.in_ok-x0.was ∙ c.half.ensures)
    (sym c.in_ok-y0.was ∙ c.half-2.ensures)
    (sym c.in_ok-z0.was ∙ c.half-3.ensures)
    ∙ ap (λ (v : List NodeBox). slice_get v c.args.place) c.self.view_is
