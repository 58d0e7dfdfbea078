-- The picks of one event.
use Rattle.std.specs.Prelude.{List, ◌≤◌, ◌<◌, ◌*◌, ◌^◌, ◌-ℤ◌, All, length, unsigned_abs}
use Rattle.std.specs.List.{AllPairs}
use Rattle.edt_score.specs.declared.problem.ProblemPick.{ProblemPick}
use Rattle.edt_score.specs.declared.problem.Problem.{Problem}
use Rattle.edt_score.specs.Field.{FieldTimes}

-- a pick with a weight and a variance within their limits and a row of the field
pub record IsValidPick (field : FieldTimes) (pick : ProblemPick) : Type 0 where
  pub some_weight : 1 ≤ pick.weight
  pub weight : pick.weight ≤ 2000
  pub variance : pick.variance ≤ 2 * 10 ^ 16
  pub row : pick.row < length field.rows

-- two picks whose times differ by at most 2,200,000,000,000 microseconds
abbrev pub AreNear : ProblemPick → ProblemPick → Type 0
AreNear a b = unsigned_abs (a.time -ℤ b.time) ≤ 2200000000000

-- 2 to 256 valid picks, any two of them near
pub record IsValidProblem (field : FieldTimes) (problem : Problem) : Type 0 where
  pub two : 2 ≤ length problem.picks.items
  pub few : length problem.picks.items ≤ 256
  pub picks : All (IsValidPick field) problem.picks.items
  pub times : AllPairs AreNear problem.picks.items

-- a pick with a weight and a variance within their limits
pub record IsSoundPick (pick : ProblemPick) : Type 0 where
  pub some_weight : 1 ≤ pick.weight
  pub weight : pick.weight ≤ 2000
  pub variance : pick.variance ≤ 2 * 10 ^ 16

-- 2 to 256 such picks, any two of them near: those of a problem that is valid but for its rows
pub record AreSoundPicks (picks : List ProblemPick) : Type 0 where
  pub two : 2 ≤ length picks
  pub few : length picks ≤ 256
  pub each : All IsSoundPick picks
  pub times : AllPairs AreNear picks
