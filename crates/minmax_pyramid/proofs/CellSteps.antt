-- Cells and the cells of their children.
use Rattle.std.proofs.Common.{◌≡◌, ◌∙◌, ap, refl, ℕ, ◌+◌, ◌<◌, ◌≤◌, min, max, arith, false, List, [], ◌∷◌, ◌++◌, length, get_or, map, take, slice_get, Some, subst, sym}
use Rattle.std.proofs.lemmas.List.{map_more, take_more, take_all}
use Rattle.std.proofs.lemmas.Option.{slice_get_within, get_or_from_slice_get}
use Rattle.std.specs.declared.alloc.Global.{Global}
use Rattle.std.specs.declared.vec.Vec.{Vec}
use Rattle.node_boxes.specs.declared.node_box.NodeBox.{NodeBox}
use Rattle.node_boxes.specs.Grid.{GridSize}
use Rattle.node_boxes.specs.Boxes.{IsNonempty}
use Rattle.node_boxes.specs.Children.{children_of}
use Rattle.minmax_pyramid.specs.declared.cell.Cell.{Cell, Split'}
use Rattle.minmax_pyramid.specs.declared.cell.Cell.TheVariants.{One, Split}
use Rattle.minmax_pyramid.specs.declared.cell.Cell.TheBlock.{hidden-the_row-Cell-0}
use Rattle.minmax_pyramid.specs.Inside.Cells.{IsCell, IsReached, AreCells, is_small}
use Rattle.minmax_pyramid.specs.Inside.Joins.{joined, lowest, highest, lowest_of, highest_of, reach_of}
use Rattle.minmax_pyramid.proofs.CellRows.{ZipCells, to_cells, of_cells, zip_at, zip_length, zip_push}
use Rattle.minmax_pyramid.proofs.JoinSteps.{Joins, min-joins, max-joins, joined_push, lowest-children, highest-children}
use Rattle.minmax_pyramid.proofs.SmallBoxes.{small_part, part_at}

-- what a split cell keeps
pub record IsSplit (g : GridSize) (time : ℕ → ℕ) (a : NodeBox) (least greatest : ℕ) (kids : Vec Cell Global) : Type 0 where
  pub large : is_small a ≡ false
  pub span : (least, greatest) ≡ reach_of g time a
  pub cells : ZipCells g time (children_of a) kids.items

pub split_of : (g : GridSize) (time : ℕ → ℕ) (a : NodeBox) (cell : Cell) (least greatest : ℕ) (kids : Vec Cell Global)
    → cell ≡ Split least greatest kids → IsCell g time a cell → IsSplit g time a least greatest kids
split_of g time a cell least greatest kids is here =
    let split : (is_small a ≡ false) × ((least, greatest) ≡ reach_of g time a)
    × AreCells g time (children_of a) (hidden-the_row-Cell-0 kids) =
    subst (IsCell g time a) is here in
    record { large = split.0; span = split.1; cells = of_cells g time (children_of a) kids split.2 }

pub of_split : (g : GridSize) (time : ℕ → ℕ) (a : NodeBox) (least greatest : ℕ) (kids : Vec Cell Global)
    → IsSplit g time a least greatest kids → IsCell g time a (Split least greatest kids)
of_split g time a least greatest kids split =
    (split.large, split.span, to_cells g time (children_of a) kids split.cells)

-- a way down to a box may end at its own cell
pub cell_reached : (g : GridSize) (time : ℕ → ℕ) (a : NodeBox) (cell : Cell) → IsCell g time a cell → IsReached g time a cell
cell_reached g time a (One least greatest) here = here.0
cell_reached g time a (Split' least greatest shape kids) here = here

-- the cell of a small box is where the ways to its children end too
pub one_kid : (g : GridSize) (time : ℕ → ℕ) (a c : NodeBox) (k : ℕ) (cell : Cell) (least greatest : ℕ)
    → cell ≡ One least greatest → IsNonempty a → slice_get (children_of a) k ≡ Some c → IsReached g time a cell
    → IsReached g time c cell
one_kid g time a c k cell least greatest is some at here =
    let small : IsReached g time a (One least greatest) = subst (IsReached g time a) is here in
    subst (IsReached g time c) (sym is) (small_part a c (part_at a c k some at) small)

reached_split : (g : GridSize) (time : ℕ → ℕ) (a : NodeBox) (cell : Cell) (least greatest : ℕ)
    (kids : Vec Cell Global) → cell ≡ Split least greatest kids → IsReached g time a cell
    → IsSplit g time a least greatest kids
reached_split g time a cell least greatest kids is here =
    let split : IsCell g time a (Split least greatest kids) = subst (IsReached g time a) is here in
    split_of g time a (Split least greatest kids) least greatest kids refl split

pub split_kid : (g : GridSize) (time : ℕ → ℕ) (a c : NodeBox) (k : ℕ) (cell : Cell) (least greatest : ℕ)
    (kids : Vec Cell Global) (d : Cell) → cell ≡ Split least greatest kids
    → slice_get (children_of a) k ≡ Some c → IsReached g time a cell
    → (k < length kids.items) × IsCell g time c (get_or kids.items k d)
split_kid g time a c k cell least greatest kids d is at here =
    zip_at (IsCell g time) (children_of a) kids.items k c d
    (reached_split g time a cell least greatest kids is here).cells at

pub split_within : (g : GridSize) (time : ℕ → ℕ) (a c : NodeBox) (k : ℕ) (cell : Cell) (least greatest : ℕ)
    (kids : Vec Cell Global) → cell ≡ Split least greatest kids
    → slice_get (children_of a) k ≡ Some c → IsReached g time a cell → k < length kids.items
split_within g time a c k cell least greatest kids is at here =
    let zip = (reached_split g time a cell least greatest kids is here).cells in
    omega (
      arith,
      slice_get_within (children_of a) k c at,
      zip_length (IsCell g time) (children_of a) kids.items zip,
    )

-- the cells of the first children of a box are made, and their times joined
pub record IsBuilding (g : GridSize) (time : ℕ → ℕ) (children : List NodeBox) (place least greatest : ℕ)
    (kids : List Cell) : Type 0 where
  pub low : least ≡ lowest (map (lowest_of g time) (take place children))
  pub high : greatest ≡ highest (map (highest_of g time) (take place children))
  pub cells : ZipCells g time (take place children) kids

one_more : (op : ℕ → ℕ → ℕ) (end : ℕ) → Joins op end → (f : NodeBox → ℕ) (xs : List NodeBox) (k : ℕ) (c : NodeBox)
    → slice_get xs k ≡ Some c
    → joined op end (map f (take (k + 1) xs)) ≡ op (joined op end (map f (take k xs))) (f c)
one_more op end joins f xs k c at =
    let within = slice_get_within xs k c at in
    let is : get_or xs k c ≡ c = get_or_from_slice_get xs k c c at in
    ap (joined op end) (map_more f xs k c within ∙ ap (λ n. map f (take k xs) ++ f n ∷ []) is)
    ∙ joined_push op end joins (map f (take k xs)) (f c)

pub building_more : (g : GridSize) (time : ℕ → ℕ) (children : List NodeBox) (place least greatest : ℕ)
    (kids : List Cell) (c : NodeBox) (kid : Cell) (least' greatest' low high : ℕ)
    (kids' : List Cell) → slice_get children place ≡ Some c → IsCell g time c kid
    → low ≡ lowest_of g time c → high ≡ highest_of g time c → least' ≡ min least low → greatest' ≡ max greatest high
    → kids' ≡ kids ++ kid ∷ [] → IsBuilding g time children place least greatest kids
    → IsBuilding g time children (place + 1) least' greatest' kids'
building_more g time children place least greatest kids c kid least' greatest' low high kids' at cell low_is high_is least_is greatest_is kids_is building =
    let within = slice_get_within children place c at in
    let is : get_or children place c ≡ c = get_or_from_slice_get children place c c at in
    let more : take (place + 1) children ≡ take place children ++ c ∷ [] =
    take_more children place c within ∙ ap (λ n. take place children ++ n ∷ []) is in
    record {
      low = least_is ∙ ap (λ n. min n low) building.low ∙ ap (min (lowest (map (lowest_of g time) (take place children)))) low_is
          ∙ sym (one_more min 4294967295 min-joins (lowest_of g time) children place c at);
      high = greatest_is ∙ ap (λ n. max n high) building.high ∙ ap (max (highest (map (highest_of g time) (take place children)))) high_is
          ∙ sym (one_more max 0 max-joins (highest_of g time) children place c at);
      cells = rw (more, kids_is)
          (zip_push (IsCell g time) (take place children) kids c kid building.cells cell);
    }

pub building_end : (g : GridSize) (time : ℕ → ℕ) (a : NodeBox) (place least greatest : ℕ)
    (kids : Vec Cell Global) → IsNonempty a → is_small a ≡ false → length (children_of a) ≤ place
    → IsBuilding g time (children_of a) place least greatest kids.items → IsCell g time a (Split least greatest kids)
building_end g time a place least greatest kids some large end building =
    let all : take place (children_of a) ≡ children_of a = take_all place (children_of a) end in
    let low : least ≡ lowest_of g time a = building.low
    ∙ ap (λ xs. lowest (map (lowest_of g time) xs)) all ∙ sym (lowest-children g time a some) in
    let high : greatest ≡ highest_of g time a = building.high
    ∙ ap (λ xs. highest (map (highest_of g time) xs)) all ∙ sym (highest-children g time a some) in
    of_split g time a least greatest kids (record {
      large = large;
      span = rw (low, high) refl;
      cells = rw all at building.cells;
    })
