-- The cells of the vector in a cell: one by one beside the boxes.
use Rattle.std.proofs.Common.{◌≡◌, ℕ, zero, suc, ◌<◌, arith, List, [], ◌∷◌, ◌++◌, length, get_or, slice_get, Some, subst, refl, ap}
use Rattle.std.specs.List.{AllZip}
use Rattle.std.specs.declared.alloc.Global.{Global}
use Rattle.std.specs.declared.vec.Vec.{Vec}
use Rattle.std.proofs.lemmas.Option.{same_Some}
use Rattle.node_boxes.specs.declared.node_box.NodeBox.{NodeBox}
use Rattle.node_boxes.specs.Grid.{GridSize}
use Rattle.minmax_pyramid.specs.declared.cell.Cell.{Cell, Row_of-Cell, end_of-Cell, more_of-Cell}
use Rattle.minmax_pyramid.specs.declared.cell.Cell.TheBlock.{items-the_row-Cell, items_hidden-the_row-Cell-0, hidden-the_row-Cell-0}
use Rattle.minmax_pyramid.specs.Inside.Cells.{IsCell, AreCells}

-- each box with its cell
abbrev pub ZipCells : GridSize → (ℕ → ℕ) → List NodeBox → List Cell → Type 0
ZipCells g time areas kids = AllZip (IsCell g time) areas kids

to_row : {n : _} (g : GridSize) (time : ℕ → ℕ) (areas : List NodeBox) (row : Row_of-Cell n)
    → ZipCells g time areas (items-the_row-Cell n row) → AreCells g time areas row
to_row g time [] end_of-Cell zip = tt
to_row g time [] (more_of-Cell kid rest) zip = zip
to_row g time (a ∷ areas) end_of-Cell zip = zip
to_row g time (a ∷ areas) (more_of-Cell kid rest) (here, zip) =
    (here, to_row g time areas rest zip)

of_row : {n : _} (g : GridSize) (time : ℕ → ℕ) (areas : List NodeBox) (row : Row_of-Cell n)
    → AreCells g time areas row → ZipCells g time areas (items-the_row-Cell n row)
of_row g time [] end_of-Cell cells = tt
of_row g time [] (more_of-Cell kid rest) cells = cells
of_row g time (a ∷ areas) end_of-Cell cells = cells
of_row g time (a ∷ areas) (more_of-Cell kid rest) (here, cells) =
    (here, of_row g time areas rest cells)

pub to_cells : (g : GridSize) (time : ℕ → ℕ) (areas : List NodeBox) (kids : Vec Cell Global)
    → ZipCells g time areas kids.items → AreCells g time areas (hidden-the_row-Cell-0 kids)
to_cells g time areas kids zip =
    to_row g time areas (hidden-the_row-Cell-0 kids)
    (rw (items_hidden-the_row-Cell-0 kids) zip)

pub of_cells : (g : GridSize) (time : ℕ → ℕ) (areas : List NodeBox) (kids : Vec Cell Global)
    → AreCells g time areas (hidden-the_row-Cell-0 kids) → ZipCells g time areas kids.items
of_cells g time areas kids cells =
    rw (items_hidden-the_row-Cell-0 kids) at
    (of_row g time areas (hidden-the_row-Cell-0 kids) cells)

-- one more box with its cell
pub zip_push : {A B : Type 0} (R : A → B → Type 0) (xs : List A) (ys : List B) (x : A) (y : B) → AllZip R xs ys
    → R x y → AllZip R (xs ++ x ∷ []) (ys ++ y ∷ [])
zip_push R [] [] x y zip here = (here, tt)
zip_push R [] (b ∷ ys) x y zip here = absurd zip
zip_push R (a ∷ xs) [] x y zip here = absurd zip
zip_push R (a ∷ xs) (b ∷ ys) x y (first, zip) here = (first, zip_push R xs ys x y zip here)

-- the fact of a box that stands at a place, and that its cell stands there
pub zip_at : {A B : Type 0} (R : A → B → Type 0) (xs : List A) (ys : List B) (k : ℕ) (x : A) (d : B) → AllZip R xs ys
    → slice_get xs k ≡ Some x → (k < length ys) × R x (get_or ys k d)
zip_at R [] ys k x d zip at = absurd (cc)
zip_at R (a ∷ xs) [] k x d zip at = absurd zip
zip_at R (a ∷ xs) (b ∷ ys) zero x d (first, zip) at =
    (omega arith, let P = λ (v : _). R v b in subst P (same_Some a x at) first)
zip_at R (a ∷ xs) (b ∷ ys) (suc k) x d (first, zip) at =
    let rest = zip_at R xs ys k x d zip at in
    (omega (arith, rest.0), rest.1)

pub zip_length : {A B : Type 0} (R : A → B → Type 0) (xs : List A) (ys : List B) → AllZip R xs ys → length xs ≡ length ys
zip_length R [] [] zip = refl
zip_length R [] (y ∷ ys) zip = absurd zip
zip_length R (x ∷ xs) [] zip = absurd zip
zip_length R (x ∷ xs) (y ∷ ys) (here, zip) = ap suc (zip_length R xs ys zip)
