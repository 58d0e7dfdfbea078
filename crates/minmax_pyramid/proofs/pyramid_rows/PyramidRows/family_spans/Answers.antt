use Rattle.std.proofs.Common.{◌≡◌, ap, sym, subst, arith, List, length, get_or}
use Rattle.std.proofs.lemmas.List.{get_or_default}
use Rattle.node_boxes.specs.declared.node_box.NodeBox.{NodeBox}
use Rattle.node_boxes.specs.Boxes.{IsIn}
use Rattle.minmax_pyramid.specs.Spans.{time_in}
use Rattle.minmax_pyramid.specs.Families.{IsFamilyOf, IsWay}
use Rattle.minmax_pyramid.specs.Rows.{RowTimes}
use Rattle.minmax_pyramid.specs.Inside.Cells.{IsCell}
use Rattle.minmax_pyramid.proofs.CellRows.{zip_length}
use Rattle.minmax_pyramid.proofs.CellSteps.{cell_reached}
use Rattle.minmax_pyramid.proofs.FamilySteps.{no_box, way_inside}
use Rattle.minmax_pyramid.proofs.RowSteps.{all_read, row_read, cell_read}
use Rattle.minmax_pyramid.proofs.pyramid_rows.PyramidRows.family_spans.Goals as goal

pub index-requires : goal.index-requires
index-requires c =
    let row = c.index-row.result.now in
    let roots = c.self.inside.roots.items in
    let rows = ap (λ (v : RowTimes). length v.rows) c.self.view_is in
    let view = ap (λ (v : RowTimes). length v.roots) c.self.view_is in
    let is = row_read c.self.inside.grid roots c.self.inside.rows.items c.args.row row c.self.invariant
    (omega (arith, rows)) c.index-row.ensures in
    let ok = row.cells.ok in
    omega (
      arith,
      view,
      c.root.ensures,
      c.requires.family.below,
      zip_length (IsCell c.self.inside.grid (time_in row.times.items)) roots row.cells.items is.cells,
    )

pub fill_spans-requires-clause-inside : goal.fill_spans-requires-clause-inside
fill_spans-requires-clause-inside c =
    let roots = c.self.inside.roots.items in
    let view : roots ≡ c.args.self.now.roots = ap (λ (v : RowTimes). v.roots) c.self.view_is in
    let family = c.args.family.now in
    let P : List NodeBox → Type 0 = λ xs. IsFamilyOf xs family in
    let is = subst P (sym view) c.requires.family in
    let root = get_or roots family.root no_box in
    let inside = all_read (IsIn c.self.inside.grid) roots family.root root
    c.self.invariant.roots_are.inside is.below (sym (get_or_default roots family.root root no_box is.below)) in
    subst (IsIn c.self.inside.grid) (sym c.parent.ensures.value)
    (way_inside c.self.inside.grid root family.places family.parent inside (is.down no_box))

pub fill_spans-requires-clause-cell : goal.fill_spans-requires-clause-cell
fill_spans-requires-clause-cell c =
    let g = c.self.inside.grid in
    let roots = c.self.inside.roots.items in
    let row = c.index-row.result.now in
    let time = time_in row.times.items in
    let rows = ap (λ (v : RowTimes). length v.rows) c.self.view_is in
    let view : roots ≡ c.args.self.now.roots = ap (λ (v : RowTimes). v.roots) c.self.view_is in
    let family = c.args.family.now in
    let P : List NodeBox → Type 0 = λ xs. IsFamilyOf xs family in
    let is = subst P (sym view) c.requires.family in
    let root = get_or roots family.root no_box in
    let row_is = row_read g roots c.self.inside.rows.items c.args.row row c.self.invariant
    (omega (arith, rows)) c.index-row.ensures in
    let cell = cell_read g roots row family.root root c.index.result.now row_is is.below
    (sym (get_or_default roots family.root root no_box is.below)) in
    let top : IsCell g time root c.index.result.now = rw (c.index.ensures, c.root.ensures) cell.1 in
    let way : IsWay root c.places.result.now family.parent = rw c.places.ensures (is.down no_box) in
    rw (c.deref.ensures.value, c.parent.ensures.value) (c.go_down-cell.ensures g time root family.parent way (cell_reached g time root c.index.result.now top))
