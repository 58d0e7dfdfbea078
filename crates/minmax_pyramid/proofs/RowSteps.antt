-- The rows of a pyramid, read at a place.
use Rattle.std.proofs.Common.{◌≡◌, sym, refl, subst, ℕ, ◌<◌, arith, List, length, get_or}
use Rattle.std.specs.List.{AllByRecursion}
use Rattle.std.proofs.lemmas.List.{length-map}
use Rattle.std.proofs.lemmas.List.Elements.{All-from_recursion}
use Rattle.std.proofs.lemmas.Option.{slice_get_read}
use Rattle.node_boxes.specs.declared.node_box.NodeBox.{NodeBox}
use Rattle.node_boxes.specs.Grid.{GridSize}
use Rattle.minmax_pyramid.specs.declared.cell.Cell.{Cell}
use Rattle.minmax_pyramid.specs.declared.pyramid_rows.Row.{Row}
use Rattle.minmax_pyramid.specs.Spans.{time_in}
use Rattle.minmax_pyramid.specs.Inside.Cells.{IsCell}
use Rattle.minmax_pyramid.specs.Inside.RowCells.{AreRows, IsRow, times_of}
use Rattle.minmax_pyramid.proofs.CellRows.{zip_at}

-- what holds of each element holds of the one that was read
pub all_read : {X : Type 0} (P : X → Type 0) (xs : List X) (k : ℕ) (x : X) → AllByRecursion P xs → k < length xs
    → x ≡ get_or xs k x → P x
all_read P xs k x all below is = subst P (sym is) (All-from_recursion P xs all k x below)

pub row_read : (g : GridSize) (roots : List NodeBox) (rows : List Row) (k : ℕ) (row : Row) → AreRows g roots rows
    → k < length (times_of rows) → row ≡ get_or rows k row → IsRow g roots row
row_read g roots rows k row are below is =
    all_read (IsRow g roots) rows k row are.each
    (omega (arith, length-map rows (λ (r : Row). r.times.items))) is

-- the cell that stands at the place of a root is that of the root
pub cell_read : (g : GridSize) (roots : List NodeBox) (row : Row) (k : ℕ) (root : NodeBox) (d : Cell) → IsRow g roots row
    → k < length roots → root ≡ get_or roots k root
    → (k < length row.cells.items) × IsCell g (time_in row.times.items) root (get_or row.cells.items k d)
cell_read g roots row k root d is below read =
    zip_at (IsCell g (time_in row.times.items)) roots row.cells.items k root d is.cells
    (slice_get_read roots (length roots) k root refl below read)
