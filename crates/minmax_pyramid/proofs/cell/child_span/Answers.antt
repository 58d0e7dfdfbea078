use Rattle.minmax_pyramid.specs.Spans.{time_in}
use Rattle.minmax_pyramid.specs.Inside.Cells.{IsCell}
use Rattle.minmax_pyramid.proofs.CellSteps.{split_kid}
use Rattle.minmax_pyramid.proofs.cell.child_span.Goals as goal

pub returns-then-place-len : goal.returns-then-place-len
returns-then-place-len c = λ a at here.
    let split = c.in-Split in
    let g = c.args.grid.now in
    let time = time_in c.args.times.now in
    let kid = split_kid g time a c.args.child.now c.args.place c.args.cell.now split.least split.greatest split.kids c.index.result.now split.is at here in
    let own : IsCell g time c.args.child.now c.index.result.now = rw c.index.ensures kid.1 in
    c.own_span.ensures g time c.args.child.now own
