use Rattle.node_boxes.specs.Boxes.{node_count_of}
use Rattle.minmax_pyramid.specs.Spans.{time_in}
use Rattle.minmax_pyramid.proofs.CellSteps.{IsBuilding}
use Rattle.minmax_pyramid.proofs.cell.+build_cell.Given as goal

abbrev pub decreases-build_cell : goal.decreases-build_cell
decreases-build_cell l = node_count_of l.area.now

abbrev pub invariant-loop-place : goal.invariant-loop-place
invariant-loop-place l =
    IsBuilding l.grid (time_in l.times) l.children l.place l.least l.greatest l.kids.items
