use Rattle.std.proofs.Common.{◌-◌, map}
use Rattle.std.specs.List.{flat_map, range_with_len}
use Rattle.node_boxes.specs.Inside.BoxWalks.{run_of}
use Rattle.minmax_pyramid.specs.Spans.{time_in}
use Rattle.minmax_pyramid.proofs.RunSteps.{IsJoined}
use Rattle.minmax_pyramid.proofs.cell.layer_span.Given as goal

abbrev pub invariant-loop-iy : goal.invariant-loop-iy
invariant-loop-iy l =
    IsJoined
    (map (time_in l.times) (flat_map (run_of l.grid l.area l.ix) (range_with_len l.area.y0 (l.iy - l.area.y0))))
    l.least l.greatest
