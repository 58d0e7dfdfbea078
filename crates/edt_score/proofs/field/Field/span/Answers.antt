use Rattle.std.proofs.Common.{ap, sym, subst, ◌∙◌}
use Rattle.node_boxes.specs.Octree.{IsOctreeBox}
use Rattle.minmax_pyramid.specs.Rows.{row_times}
use Rattle.minmax_pyramid.specs.Spans.{span_of}
use Rattle.edt_score.specs.BoxBound.{box_spans}
use Rattle.edt_score.specs.Field.{FieldTimes}
use Rattle.edt_score.proofs.RowSpans.{span_of-box, unwrapped}
use Rattle.edt_score.proofs.field.Field.span.Goals as goal

pub returns : goal.returns
returns c =
    let field = c.self.inside.pyramids in
    let area = c.args.area.now in
    let tree = subst (λ (f : FieldTimes). IsOctreeBox f.roots area) (sym c.self.view_is) c.requires.tree in
    c.unwrap_or.ensures
    ∙ unwrapped c.span.result (0, 4294967295) (span_of field.grid (row_times field c.args.row) area) (c.span.ensures.some.1 tree) c.span.ensures.span
    ∙ span_of-box field area c.args.row ∙ ap (λ (f : FieldTimes). box_spans f area c.args.row) c.self.view_is
