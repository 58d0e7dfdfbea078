-- The root of the weighted mean of the squares of residuals, rounded up.
use Rattle.std.specs.Prelude.{ℕ, suc, ◌*◌, ◌≤◌, ◌<◌, nat_le, ℤ, unsigned_abs, List, find, unwrap_or}
use Rattle.std.specs.List.{sum_by, range_with_len}
use Rattle.origin_time.specs.Weights.{total_weight}

-- the square of a residual, as often as its weight says
abbrev pub weighted_square : ℤ × ℕ → ℕ
weighted_square item = item.1 * (unsigned_abs item.0 * unsigned_abs item.0)

-- the sum of these
abbrev pub total_square : List (ℤ × ℕ) → ℕ
total_square items = sum_by weighted_square items

-- the least number whose square, as often as all weights say, reaches the sum of the squares
pub record IsRms (items : List (ℤ × ℕ)) (root : ℕ) : Type 0 where
  pub enough : total_square items ≤ root * root * total_weight items
  pub least : (smaller : ℕ) → smaller < root → smaller * smaller * total_weight items < total_square items

-- the first of the numbers from 0 to the sum of the squares whose square, as often as all weights say, reaches that sum
unfoldable pub rms_of : List (ℤ × ℕ) → ℕ
rms_of items =
    unwrap_or (find (λ root. nat_le (total_square items) (root * root * total_weight items)) (range_with_len 0 (suc (total_square items)))) 0

-- a residual of at most 10^13 in size, with a weight of at most 2000 thousandths
pub record IsResidual (item : ℤ × ℕ) : Type 0 where
  pub residual : unsigned_abs item.0 ≤ 10000000000000
  pub weight : item.1 ≤ 2000
