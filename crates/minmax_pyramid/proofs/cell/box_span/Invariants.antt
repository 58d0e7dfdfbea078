use Rattle.std.proofs.Common.{◌-◌, map}
use Rattle.std.specs.List.{flat_map, range_with_len}
use Rattle.node_boxes.specs.Inside.BoxWalks.{runs_from}
use Rattle.minmax_pyramid.specs.Spans.{time_in}
use Rattle.minmax_pyramid.proofs.RunSteps.{IsJoined}
use Rattle.minmax_pyramid.proofs.cell.box_span.Given as goal

abbrev pub invariant-loop-ix : goal.invariant-loop-ix
invariant-loop-ix l =
    IsJoined
    (map (time_in l.times)
    (flat_map (λ i. runs_from l.grid l.area i l.area.y0) (range_with_len l.area.x0 (l.ix - l.area.x0))))
    l.least l.greatest
