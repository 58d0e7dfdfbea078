-- The picks that are drawn: each is that of its station, and they make a valid problem.
use Rattle.std.proofs.Common.{◌≡◌, ◌∙◌, ℤ, ℕ, ◌+◌, ◌*◌, ◌-◌, ◌%◌, ◌<◌, ◌≤◌, pos, All, ap, subst, arith, List, [], map, length}
use Rattle.std.specs.List.{slice_index_or, range_with_len}
use Rattle.std.proofs.lemmas.Int.{ints}
use Rattle.std.proofs.lemmas.List.FromFn.{fill_by_all, get_or-map-range_with_len, length-map-range_with_len}
use Rattle.node_boxes.specs.declared.limits.TheConstants.{GREATEST_TIME}
use Rattle.node_boxes.specs.declared.node_box.NodeBox.{NodeBox}
use Rattle.node_boxes.specs.Grid.{GridSize, node_count}
use Rattle.node_boxes.specs.GridOrder.{node_number}
use Rattle.node_boxes.specs.Roots.{roots_of}
use Rattle.edt_score.specs.declared.problem.ProblemPick.{ProblemPick}
use Rattle.edt_score.specs.declared.problem.Problem.{Problem}
use Rattle.edt_score.specs.Field.{FieldTimes, time_at}
use Rattle.edt_score.specs.Problem.{IsValidProblem, AreNear}
use Rattle.edt_score.specs.Demo.{cube, demo_field, demo_picks, demo_source, draw_at, state_after, station_pick, station_row, stations, travel_time}
use Rattle.edt_score.specs.Inside.DemoParts.{IsEarlyPick, pick_from, place_drawn}
use Rattle.edt_score.proofs.DemoDraws.{draws_add}

-- a pick with a time that is a sum
pub pick_is : (field : FieldTimes) (source side state row : ℕ) (sum : ℤ) (time noise : ℕ) → sum ≡ pos (time + noise)
    → time ≡ time_at field row source → noise ≡ draw_at state row % (1000 * (side - 1) + 1)
    → record { time = sum; weight = 1000; variance = 20000000000; row = row } ≡ pick_from field source side state row
pick_is field source side state row sum time noise is time_is noise_is =
    ap (λ t. record { time = t; weight = 1000; variance = 20000000000; row = row })
    (is ∙ (ap (λ t. pos (t + noise)) time_is ∙ ap (λ n. pos (time_at field row source + n)) noise_is))

-- it is valid, and early
pub pick_early : (field : FieldTimes) (row : ℕ) (sum : ℤ) (time noise : ℕ) → sum ≡ pos (time + noise) → time ≤ GREATEST_TIME → noise ≤ 63000 → row < length field.rows
    → IsEarlyPick field (record { time = sum; weight = 1000; variance = 20000000000; row = row })
pick_early field row sum time noise is early quiet within = record {
  valid = record { some_weight = omega arith; weight = omega arith; variance = omega arith; row = within };
  from = omega (arith, ints, is);
  to = omega (arith, ints, is);
}

-- the time of a station's row at a node is its travel time
time_is : (seed side station node : ℕ) → station < 12 → node < node_count (cube side) → time_at (demo_field seed side) station node ≡ travel_time seed side station node
unfolding demo_field stations
time_is seed side station node one within =
    ap (λ row. slice_index_or row node 0) (get_or-map-range_with_len (station_row seed side) 0 12 station station [] one (omega arith))
    ∙ get_or-map-range_with_len (travel_time seed side station) 0 (node_count (cube side)) node node 0 within (omega arith)

-- the picks that are drawn after the source are those of the stations
pub picks_are : (seed side : ℕ) → demo_source seed side < node_count (cube side)
    → map (pick_from (demo_field seed side) (demo_source seed side) side (state_after seed 27)) stations ≡ demo_picks seed side
unfolding demo_picks stations
picks_are seed side within =
    let drawn : ℕ → ProblemPick = pick_from (demo_field seed side) (demo_source seed side) side (state_after seed 27) in
    let none : ProblemPick = drawn 0 in
    fill_by_all (station_pick seed side) (map drawn (range_with_len 0 12)) 12 none (length-map-range_with_len drawn 0 12)
    (λ k lt. get_or-map-range_with_len drawn 0 12 k k none lt (omega arith) ∙ same k lt)
  where
    same : (k : ℕ) → k < 12 → pick_from (demo_field seed side) (demo_source seed side) side (state_after seed 27) k ≡ station_pick seed side k
    same k lt =
        ap (λ t. record { time = pos (t + draw_at (state_after seed 27) k % (1000 * (side - 1) + 1)); weight = 1000; variance = 20000000000; row = k })
        (time_is seed side k (demo_source seed side) lt within)
        ∙ ap (λ d. record { time = pos (travel_time seed side k (demo_source seed side) + d % (1000 * (side - 1) + 1)); weight = 1000; variance = 20000000000; row = k })
        (draws_add seed 27 k)

-- early picks are near each other
near : (field : FieldTimes) (a b : ProblemPick) → IsEarlyPick field a → IsEarlyPick field b → AreNear a b
near field a b first other = omega (arith, ints, first.from, first.to, other.from, other.to)

-- twelve early picks make a valid problem
pub early_valid : (field : FieldTimes) (problem : Problem) → length problem.picks.items ≡ 12 → All (IsEarlyPick field) problem.picks.items → IsValidProblem field problem
early_valid field problem twelve early = record {
  two = omega (arith, twelve);
  few = omega (arith, twelve);
  picks = λ k d lt. (early k d lt).valid;
  times = λ i j d before within. near field _ _ (early i d (omega arith)) (early j d within);
}

-- the field that is made
pub field_is : (seed side : ℕ) (grid : GridSize) (roots : List NodeBox) (empty field : FieldTimes) → grid ≡ cube side → roots ≡ roots_of grid 1 1 1
    → empty ≡ record { grid = grid; roots = roots; rows = [] } → field ≡ record empty { rows = map (station_row seed side) stations } → field ≡ demo_field seed side
unfolding demo_field
field_is seed side grid roots empty field same roots_are made filled =
    filled ∙ (ap (λ (f : FieldTimes). record f { rows = map (station_row seed side) stations }) made
    ∙ (ap (λ bs. record { grid = grid; roots = bs; rows = map (station_row seed side) stations }) roots_are
    ∙ ap (λ (g : GridSize). record { grid = g; roots = roots_of g 1 1 1; rows = map (station_row seed side) stations }) same))

-- the node that is drawn after the stations is that of the source
pub source_is : (seed side : ℕ) (grid : GridSize) (state source : ℕ) → grid ≡ cube side → state ≡ state_after seed 24
    → source ≡ node_number grid (place_drawn grid state).0 (place_drawn grid state).1 (place_drawn grid state).2 → source ≡ demo_source seed side
unfolding demo_source
source_is seed side grid state source same at is =
    is ∙ (ap (λ (g : GridSize). node_number g (place_drawn g state).0 (place_drawn g state).1 (place_drawn g state).2) same
    ∙ (ap (λ s. node_number (cube side) (place_drawn (cube side) s).0 (place_drawn (cube side) s).1 (place_drawn (cube side) s).2) at
    ∙ (ap (λ d. node_number (cube side) (d % side) (draw_at (state_after seed 24) 1 % side) (draw_at (state_after seed 24) 2 % side)) (draws_add seed 24 0)
    ∙ (ap (λ d. node_number (cube side) (draw_at seed 24 % side) (d % side) (draw_at (state_after seed 24) 2 % side)) (draws_add seed 24 1)
    ∙ ap (λ d. node_number (cube side) (draw_at seed 24 % side) (draw_at seed 25 % side) (d % side)) (draws_add seed 24 2)))))

-- the picks that are drawn from a field, a source and a state that are so
pub picks_from : (seed side : ℕ) (field : FieldTimes) (source state : ℕ) (picks : List ProblemPick) → field ≡ demo_field seed side → source ≡ demo_source seed side
    → state ≡ state_after seed 27 → source < node_count (cube side) → picks ≡ map (pick_from field source side state) stations → picks ≡ demo_picks seed side
picks_from seed side field source state picks field_same source_same at within is =
    is ∙ (ap (λ (f : FieldTimes). map (pick_from f source side state) stations) field_same
    ∙ (ap (λ n. map (pick_from (demo_field seed side) n side state) stations) source_same
    ∙ (ap (λ s. map (pick_from (demo_field seed side) (demo_source seed side) side s) stations) at
    ∙ picks_are seed side (subst (λ n. n < node_count (cube side)) source_same within))))

-- there are twelve of them
pub twelve_picks : (field : FieldTimes) (source side state : ℕ) (picks : List ProblemPick) → picks ≡ map (pick_from field source side state) stations → length picks ≡ 12
unfolding stations
twelve_picks field source side state picks is = ap length is ∙ length-map-range_with_len (pick_from field source side state) 0 12

-- and of the rows
pub twelve_rows : (seed side : ℕ) (empty field : FieldTimes) → field ≡ record empty { rows = map (station_row seed side) stations } → length field.rows ≡ 12
unfolding stations
twelve_rows seed side empty field is = ap (λ (f : FieldTimes). length f.rows) is ∙ length-map-range_with_len (station_row seed side) 0 12
