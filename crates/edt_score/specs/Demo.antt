-- A problem made from a number: stations at the surface of a cube, a source in it, and one pick a station with a noise.
use Rattle.std.specs.Prelude.{ℕ, ◌+◌, ◌*◌, ◌-◌, ◌/◌, ◌%◌, ◌^◌, zero, suc, nat_le, pos, List, map}
use Rattle.std.specs.Int.{abs_diff}
use Rattle.std.specs.List.{range_with_len}
use Rattle.node_boxes.specs.Grid.{GridSize, grid_size, node_count}
use Rattle.node_boxes.specs.GridOrder.{all_nodes, node_number, place_of}
use Rattle.node_boxes.specs.Roots.{roots_of}
use Rattle.pair_weights.specs.Scale.{first_from}
use Rattle.edt_score.specs.declared.problem.ProblemPick.{ProblemPick}
use Rattle.edt_score.specs.Field.{FieldTimes}

-- the state of the generator after a draw
unfoldable pub next_state : ℕ → ℕ
next_state state = (state * 6364136223846793005 + 1442695040888963407) % 2 ^ 64

-- what a draw answers, from the state before it: the upper half of the state after it
abbrev pub draw : ℕ → ℕ
draw state = next_state state / 2 ^ 32

-- the state after so many draws
unfoldable pub state_after : ℕ → ℕ → ℕ
state_after seed zero = seed
state_after seed (suc draws) = next_state (state_after seed draws)

-- what the draw of a number answers, the first one being draw 0
abbrev pub draw_at : ℕ → ℕ → ℕ
draw_at seed k = draw (state_after seed k)

-- a place in nodes on the three axes
abbrev pub Place : Type 0
Place = ℕ × ℕ × ℕ

-- the place of a station, at the surface: two draws for each station
abbrev pub station_place : ℕ → ℕ → ℕ → Place
station_place seed side station = (draw_at seed (2 * station) % side, draw_at seed (2 * station + 1) % side, 0)

-- the place of the source: the three draws after those of the twelve stations
abbrev pub source_place : ℕ → ℕ → Place
source_place seed side = (draw_at seed 24 % side, draw_at seed 25 % side, draw_at seed 26 % side)

-- how much later than its travel time says a station's pick is: one draw for each station, in microseconds
abbrev pub noise_of : ℕ → ℕ → ℕ → ℕ
noise_of seed side station = draw_at seed (27 + station) % (1000 * (side - 1) + 1)

-- the square of the distance of two places, in nodes
abbrev pub squared_distance : Place → Place → ℕ
squared_distance (ax, ay, az) (bx, by, bz) =
    abs_diff ax bx * abs_diff ax bx + abs_diff ay by * abs_diff ay by + abs_diff az bz * abs_diff az bz

-- the least number whose square is at least `n`
unfoldable pub least_root : ℕ → ℕ
least_root n = first_from (λ root. nat_le n (root * root)) n 0

-- the travel time over a distance, given by its square: 170,000 microseconds from a node to the next, rounded up
abbrev pub time_over : ℕ → ℕ
time_over square = least_root (28900000000 * square)

-- the grid with as many nodes on each axis
abbrev pub cube : ℕ → GridSize
cube side = grid_size side side side

-- the travel time of a station at a node
abbrev pub travel_time : ℕ → ℕ → ℕ → ℕ → ℕ
travel_time seed side station node = time_over (squared_distance (station_place seed side station) (place_of (cube side) node))

-- the travel times of a station at all nodes, in grid order
abbrev pub station_row : ℕ → ℕ → ℕ → List ℕ
station_row seed side station = map (travel_time seed side station) (all_nodes (node_count (cube side)))

-- the numbers of the twelve stations
unfoldable pub stations : List ℕ
stations = range_with_len 0 12

-- the field: the cube under one root, with a row for each station
unfoldable pub demo_field : ℕ → ℕ → FieldTimes
demo_field seed side = record { grid = cube side; roots = roots_of (cube side) 1 1 1; rows = map (station_row seed side) stations }

-- the node of the source
unfoldable pub demo_source : ℕ → ℕ → ℕ
demo_source seed side = let place = source_place seed side in node_number (cube side) place.0 place.1 place.2

-- the pick of a station: the time of a wave from the source, which starts at 0, and the noise
abbrev pub station_pick : ℕ → ℕ → ℕ → ProblemPick
station_pick seed side station = record {
  time = pos (travel_time seed side station (demo_source seed side) + noise_of seed side station);
  weight = 1000;
  variance = 20000000000;
  row = station;
}

-- the picks, one of each station
unfoldable pub demo_picks : ℕ → ℕ → List ProblemPick
demo_picks seed side = map (station_pick seed side) stations
