use Rattle.std.proofs.Common.{take}
use Rattle.std.specs.List.{AllZip}
use Rattle.minmax_pyramid.specs.Spans.{time_in}
use Rattle.minmax_pyramid.specs.Inside.Cells.{IsCell}
use Rattle.minmax_pyramid.proofs.pyramid_rows.build_cells.Given as goal

abbrev pub invariant-loop-root : goal.invariant-loop-root
invariant-loop-root l = AllZip (IsCell l.grid (time_in l.times)) (take l.root-index l.roots) l.cells.items
