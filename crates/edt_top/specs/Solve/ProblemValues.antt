-- What the words of a problem file make: a grid, its picks, and a row of travel times for each pick.
use Rattle.std.specs.Prelude.{ℕ, ◌+◌, ◌*◌, List, map}
use Rattle.std.specs.List.{range_with_len}
use Rattle.node_boxes.specs.Grid.{GridSize, grid_size}
use Rattle.node_boxes.specs.Roots.{roots_of}
use Rattle.edt_score.specs.Field.{FieldTimes}
use Rattle.edt_score.specs.declared.problem.ProblemPick.{ProblemPick}
use Rattle.edt_top.specs.Solve.ProblemFile.{Words, number_at, signed_at, nodes_in, picks_in, first_time}

-- the travel time of a pick at a node
abbrev pub time_in : Words → ℕ → ℕ → ℕ
time_in words row node = number_at words (first_time words + row * nodes_in words + node)

-- the travel times of a pick at all nodes, in grid order
abbrev pub row_in : Words → ℕ → List ℕ
row_in words row = map (time_in words row) (range_with_len 0 (nodes_in words))

-- the travel times of all picks, a row a pick
abbrev pub rows_in : Words → List (List ℕ)
rows_in words = map (row_in words) (range_with_len 0 (picks_in words))

-- a pick, whose travel times stand in the row of its number
abbrev pub pick_in : Words → ℕ → ProblemPick
pick_in words row = record { time = signed_at words (6 + 3 * row); weight = number_at words (6 + 3 * row + 1); variance = number_at words (6 + 3 * row + 2); row = row }

-- the picks, in their order
abbrev pub picks_of : Words → List ProblemPick
picks_of words = map (pick_in words) (range_with_len 0 (picks_in words))

-- the grid of the file
abbrev pub grid_in : Words → GridSize
grid_in words = grid_size (number_at words 2) (number_at words 3) (number_at words 4)

-- the grid of the file under one root, with the rows of travel times
abbrev pub field_in : Words → FieldTimes
field_in words = record { grid = grid_in words; roots = roots_of (grid_in words) 1 1 1; rows = rows_in words }
