-- What the parts of a made problem are made from.
use Rattle.std.specs.Prelude.{ℕ, ◌+◌, ◌*◌, ◌-◌, ◌%◌, ◌≤ℤ◌, pos, List, map}
use Rattle.std.specs.List.{range_with_len}
use Rattle.node_boxes.specs.Grid.{GridSize}
use Rattle.node_boxes.specs.GridOrder.{place_of}
use Rattle.edt_score.specs.declared.problem.ProblemPick.{ProblemPick}
use Rattle.edt_score.specs.Field.{FieldTimes, time_at}
use Rattle.edt_score.specs.Problem.{IsValidPick}
use Rattle.edt_score.specs.Demo.{Place, draw_at, squared_distance, time_over}

-- the square of the greatest distance in a cube, in nodes
abbrev pub greatest_square : ℕ → ℕ
greatest_square side = 3 * ((side - 1) * (side - 1))

-- the travel times over all distances in a cube, by their squares
abbrev pub times_over : ℕ → List ℕ
times_over side = map time_over (range_with_len 0 (greatest_square side + 1))

-- the travel time from a place to a node
abbrev pub time_from : GridSize → Place → ℕ → ℕ
time_from grid place node = time_over (squared_distance place (place_of grid node))

-- a place in a grid that three draws give
abbrev pub place_drawn : GridSize → ℕ → Place
place_drawn grid state = (draw_at state 0 % grid.x, draw_at state 1 % grid.y, draw_at state 2 % grid.z)

-- a pick of a row: its time at the node of the source, and the noise of one draw
abbrev pub pick_from : FieldTimes → ℕ → ℕ → ℕ → ℕ → ProblemPick
pick_from field source side state row = record {
  time = pos (time_at field row source + draw_at state row % (1000 * (side - 1) + 1));
  weight = 1000;
  variance = 20000000000;
  row = row;
}

-- a valid pick with a time from 0 to 2,100,000,000
pub record IsEarlyPick (field : FieldTimes) (pick : ProblemPick) : Type 0 where
  pub valid : IsValidPick field pick
  pub from : pos 0 ≤ℤ pick.time
  pub to : pick.time ≤ℤ pos 2100000000
