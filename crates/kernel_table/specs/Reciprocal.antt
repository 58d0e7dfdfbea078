-- A factor that stands in for a division by a scale.
use Rattle.std.specs.Prelude.{◌≡◌, ℕ, ◌+◌, ◌*◌, ◌/◌, ◌^◌, ◌≤◌}

-- `factor` is `2^70 / scale`, rounded down, and 1 more, and the table ends at the misfit `last`
pub record IsReciprocal (scale factor last : ℕ) : Type 0 where
  pub at_least : 1000 ≤ scale
  pub at_most : scale ≤ 200000000
  pub factor_is : factor ≡ 2 ^ 70 / scale + 1
  pub last_is : last ≡ 4 * scale
