-- What a look-up tells: the travel time of each pick at each node.
use Rattle.std.specs.Prelude.{ℕ, List, [], ◌∷◌, ◌+◌, option_map, unwrap_or, slice_get}
use Rattle.edt_score.specs.declared.problem.ProblemPick.{ProblemPick}
use Rattle.edt_score.specs.declared.problem.Problem.{Problem}
use Rattle.edt_score.specs.declared.look.FieldLook.{FieldLook}
use Rattle.edt_score.specs.Field.{FieldTimes, time_at}

-- the row of the pick at a place
abbrev pub row_at : List ProblemPick → ℕ → ℕ
row_at picks place = unwrap_or (option_map (λ pick. pick.row) (slice_get picks place)) 0

-- the travel time of the pick at a place, by the field
abbrev pub pick_time : FieldTimes → List ProblemPick → ℕ → ℕ → ℕ
pick_time field picks place = time_at field (row_at picks place)

-- the picks with their places as their rows, counted from a number
abbrev pub numbered_from : ℕ → List ProblemPick → List ProblemPick
numbered_from place [] = []
numbered_from place (pick ∷ picks) = record pick { row = place } ∷ numbered_from (place + 1) picks

-- the picks with their places as their rows: what times that are told for each pick are read by
abbrev pub numbered : List ProblemPick → List ProblemPick
numbered picks = numbered_from 0 picks

-- the field of a look-up
abbrev pub look_field : FieldLook → FieldTimes
look_field look = look.field.now

-- the problem of a look-up
abbrev pub look_problem : FieldLook → Problem
look_problem look = look.problem.now

-- how often it was asked
abbrev pub look_count : FieldLook → ℕ
look_count look = look.looked
