-- The sums over the ends of a family's lanes are the bounds of its boxes.
use Rattle.std.proofs.Common.{◌≡◌, ℕ, ℤ, List, [], ◌∷◌, ◌++◌, ◌<◌, All, zero, suc, arith, refl, ap, sym, ◌∙◌, get_or, length, map, take, slice_index}
use Rattle.std.proofs.lemmas.List.{get_or-map, length-map}
use Rattle.std.proofs.lemmas.List.Elements.{All-map}
use Rattle.kernel_table.specs.declared.kernels.Shape.{Shape}
use Rattle.node_boxes.specs.declared.node_box.NodeBox.{NodeBox}
use Rattle.node_boxes.specs.Boxes.{IsIn}
use Rattle.node_boxes.specs.BoxNodes.{box_nodes}
use Rattle.minmax_pyramid.specs.Families.{IsChildAt}
use Rattle.node_boxes.specs.Grid.{node_count}
use Rattle.node_boxes.proofs.ChildBoxes.{node_count-some}
use Rattle.node_boxes.proofs.Nodes.{box_nodes-below, box_nodes-length}
use Rattle.node_boxes.proofs.OctreeBoxes.{in_nonempty}
use Rattle.edt_score.specs.declared.problem.ProblemPick.{ProblemPick}
use Rattle.edt_score.specs.declared.ends.Ends.{Ends}
use Rattle.minmax_pyramid.specs.Spans.{span_over}
use Rattle.edt_score.specs.BoxBound.{box_bound, box_spans}
use Rattle.edt_score.specs.Field.{FieldTimes, IsField, time_at}
use Rattle.edt_score.specs.Inside.Domination.{greatest-found, least-below}
use Rattle.edt_score.specs.Bound.{IsTimeSpan}
use Rattle.edt_score.specs.Inside.Ends.{IsNear, ends_of, ends_within, table_total}
use Rattle.edt_score.specs.Inside.Families.{AreEnds, AreFamilyEnds, AreRowSpans, no_pick}
use Rattle.edt_score.specs.Inside.Lanes.{lane}
use Rattle.edt_score.specs.Inside.Pairs.{IsReadable}
use Rattle.edt_score.specs.PairTerms.{pairs_of}
use Rattle.edt_score.specs.Inside.UsedRows.{AreRowsOf, rows_of}
use Rattle.edt_score.proofs.EndTotals.{table_total-bound}
use Rattle.edt_score.proofs.Readable.{time_at-limit}

-- the span of a row over a box in the grid is in order and within its limit
pub box_span-time : (field : FieldTimes) (row : ℕ) (c : NodeBox) → IsField field → IsIn field.grid c → row < length field.rows
    → IsTimeSpan (span_over (time_at field row) (box_nodes field.grid c))
box_span-time field row c kept inside in_rows =
    let nodes = box_nodes field.grid c in
    let long = box_nodes-length field.grid c inside in
    let several = node_count-some c (in_nonempty field.grid c inside) in
    let some : 0 < length nodes = omega arith in
    let high = greatest-found (time_at field row) nodes some in
    let low = least-below (time_at field row) nodes high.0 high.1 in
    let at : get_or nodes high.1.0 high.0 ≡ high.0 = high.1.2 in
    let within : get_or nodes high.1.0 high.0 < node_count field.grid = box_nodes-below field.grid c high.1.0 high.0 high.1.1 in
    let limit = time_at-limit field row high.0 kept in_rows (rw at at within) in
    record { order = omega (arith, high.2); limit = omega (arith, high.2) }

-- so each readable pick is near with such a span
pub IsNear-box : (field : FieldTimes) (start : ℤ) (c : NodeBox) (picks : List ProblemPick) → IsField field → IsIn field.grid c
    → All (IsReadable field start) picks → All (IsNear start (box_spans field c)) picks
IsNear-box field start c picks kept inside readable k d below =
    let pick = readable k d below in
    record { close = pick.near; span = box_span-time field (get_or picks k d).row c kept inside pick.row }

-- lists that agree place by place after a map
map-pointwise : {X Y Z : Type 0} (f : X → Z) (g : Y → Z) (xs : List X) (ys : List Y) (dx : X) (dy : Y) → length xs ≡ length ys
    → ((i : ℕ) → i < length ys → f (get_or xs i dx) ≡ g (get_or ys i dy)) → map f xs ≡ map g ys
map-pointwise f g [] [] dx dy same each = refl
map-pointwise f g [] (y ∷ ys) dx dy same each = absurd (omega arith)
map-pointwise f g (x ∷ xs) [] dx dy same each = absurd (omega arith)
map-pointwise f g (x ∷ xs) (y ∷ ys) dx dy same each =
    let first : f x ≡ g y = each 0 (omega arith) in
    let rest = map-pointwise f g xs ys dx dy (omega arith) (λ i below. each (suc i) (omega arith)) in
    rw (first, rest) refl

-- the row at the place of a pick is the pick's
place-row : (picks : List ProblemPick) (rows places : List ℕ) → AreRowsOf picks rows places → (i : ℕ) → i < length picks
    → (get_or places i 0 < length rows) × (get_or rows (get_or places i 0) 0 ≡ (get_or picks i no_pick).row)
place-row picks rows places are i below =
    let row_of : ProblemPick → ℕ = λ pick. pick.row in
    let placed : length (map (slice_index rows) places) ≡ length (rows_of picks) = ap length are.placed in
    let long : length places ≡ length picks = omega (arith, placed, length-map places (slice_index rows), length-map picks row_of) in
    let within : i < length places = omega arith in
    let left = get_or-map (slice_index rows) places i 0 0 within in
    let right = get_or-map row_of picks i no_pick 0 below in
    (are.within i 0 within, sym left ∙ ap (λ xs. get_or xs i 0) are.placed ∙ right)

-- a lane has the ends of the picks over its box
pub lane-ends : (field : FieldTimes) (start : ℤ) (picks : List ProblemPick) (rows places : List ℕ) (spans : List (List (ℕ × ℕ))) (ends : List (List Ends))
    (parent c : NodeBox) (k : ℕ) → k < 8 → AreRowsOf picks rows places → AreRowSpans (length rows) field rows parent spans → IsChildAt parent k c
    → length ends ≡ length picks → AreEnds (length picks) start picks places spans ends
    → map (lane k) ends ≡ map (ends_of start (box_spans field c)) picks
lane-ends field start picks rows places spans ends parent c k in_eight are filled at long each =
    let span = box_spans field c in
    map-pointwise (lane k) (ends_of start span) ends picks [] no_pick long (λ i below.
    let place = place-row picks rows places are i below in
    each i k below in_eight
    ∙ ap (ends_within start (get_or picks i no_pick).time) (filled (get_or places i 0) k c place.0 at ∙ ap span place.1))

-- so its sum is the bound of its box
pub lane-bound : (shape : Shape) (field : FieldTimes) (start : ℤ) (picks : List ProblemPick) (ends : List (List Ends)) (parent c : NodeBox) (k : ℕ)
    → IsField field → IsIn field.grid c → All (IsReadable field start) picks → AreFamilyEnds field start picks parent ends → IsChildAt parent k c
    → table_total shape (map (lane k) ends) (pairs_of picks) ≡ box_bound shape field picks c
lane-bound shape field start picks ends parent c k kept inside readable are at =
    ap (λ es. table_total shape es (pairs_of picks)) (are k c at)
    ∙ table_total-bound shape start (box_spans field c) picks (IsNear-box field start c picks kept inside readable)

-- the rows of readable picks are rows of the field
pub rows_in_field : (field : FieldTimes) (start : ℤ) (picks : List ProblemPick) → All (IsReadable field start) picks → All (λ row. row < length field.rows) (rows_of picks)
rows_in_field field start picks readable =
    All-map (λ row. row < length field.rows) (λ (pick : ProblemPick). pick.row) picks (λ k d below. (readable k d below).row)

-- a list that was written whole has what was written
pub written : {X : Type 0} (n : ℕ) (new rest : List X) → n ≡ length new → take n (new ++ rest) ≡ new
written zero [] rest same = refl
written zero (x ∷ new) rest same = absurd (omega arith)
written (suc n) [] rest same = absurd (omega arith)
written (suc n) (x ∷ new) rest same = ap (λ xs. x ∷ xs) (written n new rest (omega arith))
