use Rattle.std.proofs.Common.{◌≡◌, ◌+◌, arith, take, get_or, [], ◌∷◌, ◌++◌}
use Rattle.std.proofs.lemmas.List.{take_more}
use Rattle.minmax_pyramid.specs.Spans.{time_in}
use Rattle.minmax_pyramid.specs.Inside.Cells.{IsCell}
use Rattle.minmax_pyramid.proofs.CellRows.{zip_push}
use Rattle.minmax_pyramid.proofs.FamilySteps.{no_box}
use Rattle.minmax_pyramid.proofs.pyramid_rows.build_cells.Goals as goal

pub loop-root-preserved : goal.loop-root-preserved
loop-root-preserved c =
    let roots = c.args.roots.now in
    let i = c.loop-root.root-index in
    let more : take (i + 1) roots ≡ take i roots ++ get_or roots i no_box ∷ [] =
    take_more roots i no_box (omega arith) in
    rw (more, c.in_ok-push.ensures.items)
    (zip_push (IsCell c.args.grid.now (time_in c.args.times.now)) (take i roots) c.loop-root.cells.items
    (get_or roots i no_box) c.in_ok-build_cell.field-0 c.loop-root.invariant c.in_ok-build_cell.ensures)
