use Rattle.std.proofs.Common.{arith}
use Rattle.node_boxes.specs.Inside.BoxWalks.{runs_from}
use Rattle.minmax_pyramid.specs.Spans.{time_in}
use Rattle.minmax_pyramid.proofs.RunSteps.{parts_more, box_joined}
use Rattle.minmax_pyramid.proofs.cell.box_span.Goals as goal

pub loop-ix-preserved : goal.loop-ix-preserved
loop-ix-preserved c =
    let area = c.args.area.now in
    parts_more (time_in c.args.times.now) (λ i. runs_from c.args.grid.now area i area.y0) area.x0 c.loop-ix.ix
    c.layer_span-low.result.0 c.layer_span-low.result.1 c.loop-ix.least c.loop-ix.greatest c.min-least.result
    c.max-greatest.result c.loop-ix.auto.ix c.layer_span-low.ensures c.min-least.ensures c.max-greatest.ensures
    c.loop-ix.invariant

pub returns : goal.returns
returns c =
    let area = c.args.area.now in
    let inside = c.requires.inside in
    box_joined c.args.grid.now (time_in c.args.times.now) area c.loop-ix.ix c.loop-ix.least c.loop-ix.greatest inside
    (omega (arith, inside.x)) c.loop-ix.invariant
