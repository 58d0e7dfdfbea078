use Rattle.std.proofs.Common.{◌∙◌, ◌+◌, ◌-◌, ◌≤◌, ap, refl, ℕ, List, length, arith}
use Rattle.std.specs.List.{range_with_len}
use Rattle.node_boxes.specs.Inside.BoxWalks.{run_of}
use Rattle.minmax_pyramid.specs.Spans.{time_in}
use Rattle.minmax_pyramid.specs.Inside.Joins.{lowest, highest, reach_over}
use Rattle.minmax_pyramid.proofs.RunSteps.{parts_more, run_read, run_fits}
use Rattle.minmax_pyramid.proofs.cell.layer_span.Goals as goal

pub loop-iy-preserved : goal.loop-iy-preserved
loop-iy-preserved c =
    let area = c.args.area.now in
    let times = c.args.times.now in
    let start = c.node_number-start.result in
    let n = area.z1 - area.z0 in
    let fits : start + n ≤ length times =
    omega (
      arith,
      run_fits c.args.grid.now area c.args.ix c.loop-iy.iy c.requires.inside c.requires.to c.loop-iy-test.true,
      c.node_number-start.ensures.value,
    ) in
    let read = run_read times start (start + n) n fits refl in
    let is = c.run_span-low.ensures
    ∙ ap (λ (xs : List ℕ). (lowest xs, highest xs)) read
    ∙ ap (λ (s : ℕ). reach_over (time_in times) (range_with_len s n)) c.node_number-start.ensures.value in
    parts_more (time_in times) (run_of c.args.grid.now area c.args.ix) area.y0 c.loop-iy.iy
    c.run_span-low.result.0 c.run_span-low.result.1 c.loop-iy.least c.loop-iy.greatest c.min-least.result
    c.max-greatest.result c.loop-iy.auto.iy is c.min-least.ensures c.max-greatest.ensures c.loop-iy.invariant
