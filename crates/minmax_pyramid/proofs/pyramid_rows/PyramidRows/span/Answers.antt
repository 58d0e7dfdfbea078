use Rattle.std.proofs.Common.{◌≡◌, ◌∙◌, ap, sym, subst, arith, ◌<◌, List, length, get_or, Contains, true}
use Rattle.std.proofs.lemmas.List.Elements.{Contains-get_or}
use Rattle.node_boxes.specs.declared.node_box.NodeBox.{NodeBox}
use Rattle.node_boxes.specs.Boxes.{IsIn, contains}
use Rattle.node_boxes.specs.Roots.{holders}
use Rattle.node_boxes.specs.Octree.{IsOctreeBox, Root}
use Rattle.minmax_pyramid.specs.Spans.{time_in}
use Rattle.minmax_pyramid.specs.Rows.{RowTimes}
use Rattle.minmax_pyramid.specs.Inside.Cells.{IsCell}
use Rattle.minmax_pyramid.proofs.BelowSteps.{none_empty, unrooted, below_octree, below_root}
use Rattle.minmax_pyramid.proofs.CellRows.{zip_length}
use Rattle.minmax_pyramid.proofs.CellSteps.{cell_reached}
use Rattle.minmax_pyramid.proofs.RowSteps.{all_read, row_read, cell_read}
use Rattle.minmax_pyramid.proofs.pyramid_rows.PyramidRows.span.Goals as goal

pub returns-in_err-place-clause-some : goal.returns-in_err-place-clause-some
returns-in_err-place-clause-some c =
    let roots = c.self.inside.roots.items in
    let area = c.args.area.now in
    let view : roots ≡ c.args.self.now.roots = ap (λ (v : RowTimes). v.roots) c.self.view_is in
    let none : holders area.x0 area.y0 area.z0 roots ≡ 0 =
    ap (holders area.x0 area.y0 area.z0) (sym c.deref.ensures.value) ∙ c.in_err-place.ensures in
    let P : List NodeBox → Type 0 = λ xs. IsOctreeBox xs area in (
      λ yes. absurd (none_empty c.from_residual.result c.from_residual.ensures yes),
      λ tree. absurd (unrooted c.self.inside.grid roots area c.self.invariant.roots_are none (subst P (sym view) tree)),
    )

pub index-requires : goal.index-requires
index-requires c = omega (arith, c.in_ok-place.ensures.below, c.deref.ensures.len)

pub index-requires-2 : goal.index-requires-2
index-requires-2 c =
    let row = c.index-row.result.now in
    let roots = c.self.inside.roots.items in
    let rows = ap (λ (v : RowTimes). length v.rows) c.self.view_is in
    let below : c.in_ok-place.place < length roots =
    omega (arith, c.in_ok-place.ensures.below, ap length c.deref.ensures.value) in
    let is = row_read c.self.inside.grid roots c.self.inside.rows.items c.args.row row c.self.invariant
    (omega (arith, rows)) c.index-row.ensures in
    let ok = row.cells.ok in
    omega (arith, zip_length (IsCell c.self.inside.grid (time_in row.times.items)) roots row.cells.items is.cells)

pub span_below-requires-clause-inside : goal.span_below-requires-clause-inside
span_below-requires-clause-inside c =
    let roots = c.self.inside.roots.items in
    let below : c.in_ok-place.place < length roots =
    omega (arith, c.in_ok-place.ensures.below, ap length c.deref.ensures.value) in
    all_read (IsIn c.self.inside.grid) roots c.in_ok-place.place c.index.result.now
    c.self.invariant.roots_are.inside below c.index.ensures

pub span_below-requires-clause-cell : goal.span_below-requires-clause-cell
span_below-requires-clause-cell c =
    let row = c.index-row.result.now in
    let roots = c.self.inside.roots.items in
    let rows = ap (λ (v : RowTimes). length v.rows) c.self.view_is in
    let below : c.in_ok-place.place < length roots =
    omega (arith, c.in_ok-place.ensures.below, ap length c.deref.ensures.value) in
    let is = row_read c.self.inside.grid roots c.self.inside.rows.items c.args.row row c.self.invariant
    (omega (arith, rows)) c.index-row.ensures in
    let cell = cell_read c.self.inside.grid roots row c.in_ok-place.place c.index.result.now c.index-2.result.now is below c.index.ensures in
    let reached = cell_reached c.self.inside.grid (time_in row.times.items) c.index.result.now
    (get_or row.cells.items c.in_ok-place.place c.index-2.result.now) cell.1 in
    rw (c.deref-2.ensures.value, c.index-2.ensures) reached

pub returns-clause-some : goal.returns-clause-some
returns-clause-some c =
    let roots = c.self.inside.roots.items in
    let area = c.args.area.now in
    let root = c.index.result.now in
    let view : roots ≡ c.args.self.now.roots = ap (λ (v : RowTimes). v.roots) c.self.view_is in
    let below : c.in_ok-place.place < length roots =
    omega (arith, c.in_ok-place.ensures.below, ap length c.deref.ensures.value) in
    let P : List NodeBox → Type 0 = λ xs. IsOctreeBox xs area in
    let Q : NodeBox → Type 0 = λ r. Contains roots r in
    let R : List NodeBox → Type 0 = λ xs. contains (get_or xs c.in_ok-place.place root) area.x0 area.y0 area.z0 ≡ true in
    let S : NodeBox → Type 0 = λ r. contains r area.x0 area.y0 area.z0 ≡ true in
    let at : Contains roots root = subst Q (sym c.index.ensures) (Contains-get_or roots c.in_ok-place.place root below) in
    let held : contains root area.x0 area.y0 area.z0 ≡ true =
    subst S (sym c.index.ensures) (subst R c.deref.ensures.value (c.in_ok-place.ensures.held root)) in (
      λ yes. subst P view (below_octree roots area root (Root root at) (c.span_below.ensures.some.0 yes)),
      λ tree. c.span_below.ensures.some.1
          (below_root c.self.inside.grid roots area root c.self.invariant.roots_are at held (subst P (sym view) tree)),
    )
