use Rattle.std.proofs.Common.{ap, ◌∙◌}
use Rattle.minmax_pyramid.specs.Spans.{span_of, span_over}
use Rattle.node_boxes.specs.BoxNodes.{box_nodes}
use Rattle.edt_score.specs.Field.{FieldTimes, time_at}
use Rattle.edt_score.proofs.field.Field.span_in.Goals as goal

pub returns : goal.returns
unfolding span_of
returns c =
    c.span_in.ensures
    ∙ ap (λ (f : FieldTimes). span_over (time_at f c.args.row) (box_nodes c.args.grid.now c.args.area.now)) c.self.view_is
