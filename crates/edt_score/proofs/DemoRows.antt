-- The travel times of a station, looked up by the square of a distance.
use Rattle.std.proofs.Common.{◌≡◌, ◌∙◌, ℕ, ◌+◌, ◌*◌, ◌%◌, ◌<◌, ◌≤◌, ap, sym, arith, List, [], ◌∷◌, ◌++◌, map, length}
use Rattle.std.specs.List.{slice_index_or, range_with_len}
use Rattle.std.proofs.lemmas.List.FromFn.{get_or-map-range_with_len, length-map-range_with_len, map-range_with_len_more}
use Rattle.node_boxes.specs.declared.node_box.NodeBox.{NodeBox}
use Rattle.node_boxes.specs.Grid.{GridSize, node_count}
use Rattle.node_boxes.specs.GridOrder.{all_nodes}
use Rattle.edt_score.specs.Field.{FieldTimes}
use Rattle.edt_score.specs.Demo.{cube, draw_at, station_row, time_over}
use Rattle.edt_score.specs.Inside.DemoParts.{greatest_square, time_from, times_over}

-- a time stands where its square says
pub looked_up : (side square : ℕ) (times : List ℕ) (d : ℕ) → times ≡ times_over side → square ≤ greatest_square side → slice_index_or times square d ≡ time_over square
looked_up side square times d all within =
    ap (λ ts. slice_index_or ts square d) all ∙ get_or-map-range_with_len time_over 0 (greatest_square side + 1) square square d (omega arith) (omega arith)

-- each square has its time
pub room_for : (side square : ℕ) (times : List ℕ) → times ≡ times_over side → square ≤ greatest_square side → square < length times
room_for side square times all within =
    let long : length times ≡ greatest_square side + 1 = ap length all ∙ length-map-range_with_len time_over 0 (greatest_square side + 1) in
    omega (arith, long)

-- the row of a place that two draws give is that of the station
pub row_is : (seed side station x y : ℕ) (grid : GridSize) (row : List ℕ) → grid ≡ cube side
    → x ≡ draw_at seed (2 * station) % side → y ≡ draw_at seed (2 * station + 1) % side
    → row ≡ map (time_from grid (x, y, 0)) (all_nodes (node_count grid)) → row ≡ station_row seed side station
row_is seed side station x y grid row same x_is y_is is =
    is ∙ (ap (λ (g : GridSize). map (time_from g (x, y, 0)) (all_nodes (node_count g))) same
    ∙ (ap (λ (a : ℕ). map (time_from (cube side) (a, y, 0)) (all_nodes (node_count (cube side)))) x_is
    ∙ ap (λ (b : ℕ). map (time_from (cube side) (draw_at seed (2 * station) % side, b, 0)) (all_nodes (node_count (cube side)))) y_is))

-- one more row
pub one_more_row : (seed side station : ℕ) (grid : GridSize) (roots : List NodeBox) (field more : FieldTimes) (row : List ℕ)
    → field ≡ record { grid = grid; roots = roots; rows = map (station_row seed side) (range_with_len 0 station) }
    → more ≡ record field { rows = field.rows ++ row ∷ [] } → row ≡ station_row seed side station
    → more ≡ record { grid = grid; roots = roots; rows = map (station_row seed side) (range_with_len 0 (station + 1)) }
one_more_row seed side station grid roots field more row all pushed is =
    pushed ∙ (ap (λ (f : FieldTimes). record f { rows = f.rows ++ row ∷ [] }) all
    ∙ (ap (λ t. record { grid = grid; roots = roots; rows = map (station_row seed side) (range_with_len 0 station) ++ t ∷ [] }) is
    ∙ ap (λ rows. record { grid = grid; roots = roots; rows = rows }) (sym (map-range_with_len_more (station_row seed side) 0 station station (omega arith)))))
