use Rattle.std.proofs.Common.{◌∙◌, arith}
use Rattle.minmax_pyramid.specs.Spans.{time_in}
use Rattle.minmax_pyramid.proofs.SpanLaws.{reach-span}
use Rattle.minmax_pyramid.proofs.cell.span_by_nodes.Goals as goal

pub returns : goal.returns
returns c =
    c.box_span.ensures
    ∙ reach-span c.args.grid.now (time_in c.args.times.now) c.args.area.now c.requires.inside
    (λ node. let fits = c.type_inv.times node in omega arith)
