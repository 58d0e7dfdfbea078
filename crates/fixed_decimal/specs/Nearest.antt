-- The whole number nearest to a fraction, halves upward.
use Rattle.std.specs.Prelude.{ℕ, ◌+◌, ◌*◌, ◌/◌, ◌<◌, ◌≤◌}

-- twice the distance from n to top / bottom is at most one, and less than one where n lies below: no whole number is nearer, and of
-- two that are as near n is the greater
pub record IsNearest (top bottom n : ℕ) : Type 0 where
  pub above : 2 * (n * bottom) ≤ 2 * top + bottom
  pub below : 2 * top < 2 * (n * bottom) + bottom

-- that whole number
unfoldable pub nearest : ℕ → ℕ → ℕ
nearest top bottom = (2 * top + bottom) / (2 * bottom)
