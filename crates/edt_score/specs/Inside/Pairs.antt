-- How a scorer keeps the pairs of a problem's picks.
use Rattle.std.specs.Prelude.{◌≡◌, ℕ, ℤ, List, ◌+◌, ◌*◌, ◌^◌, ◌<◌, ◌≤◌, ◌-ℤ◌, zero, suc, length, unsigned_abs}
use Rattle.edt_score.specs.declared.problem.ProblemPick.{ProblemPick}
use Rattle.edt_score.specs.Field.{FieldTimes}

-- a pick whose weight and variance are within their limits
pub record IsPairable (pick : ProblemPick) : Type 0 where
  pub weight : pick.weight ≤ 2000
  pub variance : pick.variance ≤ 2 * 10 ^ 16

-- a pick with a row of the field and a time near the start
pub record IsReadable (field : FieldTimes) (start : ℤ) (pick : ProblemPick) : Type 0 where
  pub row : pick.row < length field.rows
  pub near : unsigned_abs (pick.time -ℤ start) ≤ 2200000000000

-- how many pairs there are of `n` items
abbrev pub pair_count : ℕ → ℕ
pair_count zero = 0
pair_count (suc n) = n + pair_count n

-- room for all pairs and all ends of 256 picks, with at most as many pairs kept
pub record HasRoom {P E : Type 0} (kept : ℕ) (pairs : List P) (ends : List E) : Type 0 where
  pub count : kept ≤ 32640
  pub pairs_room : length pairs ≡ 32640
  pub ends_room : length ends ≡ 256
