-- The times of the runs of a box, joined one after another.
use Rattle.std.proofs.Common.{◌≡◌, ◌∙◌, ap, sym, refl, ℕ, zero, suc, ◌+◌, ◌-◌, ◌<◌, ◌≤◌, min, max, arith, List, [], ◌∷◌, ◌++◌, length, get_or, map, take, drop, add-zero}
use Rattle.std.specs.List.{flat_map, range_with_len, slice_range}
use Rattle.std.proofs.lemmas.List.{map-append, take_more, drop_more, append-nil}
use Rattle.std.proofs.lemmas.List.Concat.{flat_map-append}
use Rattle.node_boxes.specs.declared.node_box.NodeBox.{NodeBox}
use Rattle.node_boxes.specs.Grid.{GridSize, node_count}
use Rattle.node_boxes.specs.GridOrder.{node_number}
use Rattle.node_boxes.specs.Boxes.{IsIn}
use Rattle.node_boxes.specs.Inside.BoxWalks.{runs_from, layers_from}
use Rattle.node_boxes.proofs.Order.{node_number-below}
use Rattle.node_boxes.proofs.Walks.{box_nodes-layers}
use Rattle.minmax_pyramid.specs.Spans.{time_in}
use Rattle.minmax_pyramid.specs.Inside.Joins.{joined, lowest, highest, lowest_of, highest_of, reach_of, reach_over}
use Rattle.minmax_pyramid.proofs.JoinSteps.{Joins, min-joins, max-joins, joined_push}

-- the numbers are the lowest and the highest of the list
pub record IsJoined (ns : List ℕ) (least greatest : ℕ) : Type 0 where
  pub low : least ≡ lowest ns
  pub high : greatest ≡ highest ns

joined-end : (op : ℕ → ℕ → ℕ) (end : ℕ) → Joins op end → (ns : List ℕ) → op end (joined op end ns) ≡ joined op end ns
joined-end op end is [] = is.none
joined-end op end is (n ∷ ns) = is.second n end (joined op end ns) ∙ ap (op n) (joined-end op end is ns)

joined-append : (op : ℕ → ℕ → ℕ) (end : ℕ) → Joins op end → (ms ns : List ℕ)
    → joined op end (ms ++ ns) ≡ op (joined op end ms) (joined op end ns)
joined-append op end is [] ns = sym (joined-end op end is ns)
joined-append op end is (m ∷ ms) ns =
    ap (op m) (joined-append op end is ms ns) ∙ sym (is.first m (joined op end ms) (joined op end ns))

-- one more number
pub joined_more : (ns : List ℕ) (i n least greatest least' greatest' : ℕ) → i < length ns → n ≡ get_or ns i 0
    → least' ≡ min least n → greatest' ≡ max greatest n → IsJoined (take i ns) least greatest
    → IsJoined (take (i + 1) ns) least' greatest'
joined_more ns i n least greatest least' greatest' below is low high joined' =
    let more : take (i + 1) ns ≡ take i ns ++ n ∷ [] =
    take_more ns i 0 below ∙ ap (λ m. take i ns ++ m ∷ []) (sym is) in
    record {
      low = low ∙ ap (λ m. min m n) joined'.low
          ∙ sym (ap lowest more ∙ joined_push min 4294967295 min-joins (take i ns) n);
      high = high ∙ ap (λ m. max m n) joined'.high
          ∙ sym (ap highest more ∙ joined_push max 0 max-joins (take i ns) n);
    }

range-more : (a n : ℕ) → range_with_len a (suc n) ≡ range_with_len a n ++ (a + n) ∷ []
range-more a zero = ap (λ m. m ∷ []) (sym (add-zero a))
range-more a (suc n) =
    let along : (a + 1) + n ≡ a + suc n = omega arith in
    ap (λ xs. a ∷ xs) (range-more (a + 1) n) ∙ ap (λ m. a ∷ (range_with_len (a + 1) n ++ m ∷ [])) along

-- one more list of nodes of a range of them
pub parts_more : (time : ℕ → ℕ) (f : ℕ → List ℕ) (from k low high least greatest least' greatest' : ℕ) → from ≤ k
    → (low, high) ≡ reach_over time (f k) → least' ≡ min least low → greatest' ≡ max greatest high
    → IsJoined (map time (flat_map f (range_with_len from (k - from)))) least greatest
    → IsJoined (map time (flat_map f (range_with_len from (k + 1 - from)))) least' greatest'
parts_more time f from k low high least greatest least' greatest' order is low_is high_is joined' =
    let front = flat_map f (range_with_len from (k - from)) in
    let step : k + 1 - from ≡ suc (k - from) = omega arith in
    let last : from + (k - from) ≡ k = omega arith in
    let range : range_with_len from (k + 1 - from) ≡ range_with_len from (k - from) ++ k ∷ [] =
    ap (range_with_len from) step ∙ range-more from (k - from)
    ∙ ap (λ n. range_with_len from (k - from) ++ n ∷ []) last in
    let nodes : flat_map f (range_with_len from (k + 1 - from)) ≡ front ++ f k =
    ap (flat_map f) range ∙ flat_map-append f (range_with_len from (k - from)) (k ∷ [])
    ∙ ap (λ xs. front ++ xs) (append-nil (f k)) in
    let times : map time (flat_map f (range_with_len from (k + 1 - from))) ≡ map time front ++ map time (f k) =
    ap (map time) nodes ∙ map-append time front (f k) in
    record {
      low = low_is ∙ ap (λ m. min m low) joined'.low ∙ ap (min (lowest (map time front))) (ap (λ (s : ℕ × ℕ). s.0) is)
          ∙ sym (ap lowest times ∙ joined-append min 4294967295 min-joins (map time front) (map time (f k)));
      high = high_is ∙ ap (λ m. max m high) joined'.high ∙ ap (max (highest (map time front))) (ap (λ (s : ℕ × ℕ). s.1) is)
          ∙ sym (ap highest times ∙ joined-append max 0 max-joins (map time front) (map time (f k)));
    }

-- the times from a node on are a run of the list
run-times : (times : List ℕ) (start n : ℕ) → start + n ≤ length times
    → take n (drop start times) ≡ map (time_in times) (range_with_len start n)
run-times times start zero fits = refl
run-times times start (suc n) fits =
    let here : start < length times = omega arith in
    ap (take (suc n)) (drop_more times start 0 here)
    ∙ ap (λ xs. get_or times start 0 ∷ xs) (run-times times (start + 1) n (omega arith))

pub run_read : (times : List ℕ) (start end n : ℕ) → start + n ≤ length times → end ≡ start + n
    → slice_range times start end ≡ map (time_in times) (range_with_len start n)
run_read times start end n fits is =
    let long : end - start ≡ n = omega arith in
    ap (λ m. take m (drop start times)) long ∙ run-times times start n fits

-- a run of a box ends within the nodes of the grid
pub run_fits : (g : GridSize) (a : NodeBox) (ix iy : ℕ) → IsIn g a → ix < a.x1 → iy < a.y1
    → node_number g ix iy a.z0 + (a.z1 - a.z0) ≤ node_count g
run_fits g a ix iy inside to_x to_y =
    let last = node_number-below g ix iy (a.z1 - 1) (record {
      x = omega (arith, inside.x_end);
      y = omega (arith, inside.y_end);
      z = omega (arith, inside.z, inside.z_end);
    }) in
    omega (arith, inside.z, last)

pub box_joined : (g : GridSize) (time : ℕ → ℕ) (a : NodeBox) (ix least greatest : ℕ) → IsIn g a → ix ≡ a.x1
    → IsJoined (map time (flat_map (λ i. runs_from g a i a.y0) (range_with_len a.x0 (ix - a.x0)))) least greatest
    → (least, greatest) ≡ reach_of g time a
unfolding lowest_of highest_of
box_joined g time a ix least greatest inside is joined' =
    let nodes = box_nodes-layers g a inside in
    let low : least ≡ lowest (map time (layers_from g a a.x0)) = rw is at joined'.low in
    let high : greatest ≡ highest (map time (layers_from g a a.x0)) = rw is at joined'.high in
    rw (nodes, low, high) refl
