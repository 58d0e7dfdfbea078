-- What a pair of picks is worth by its misfit and its scale, in parts of 2^20.
use Rattle.std.specs.Prelude.{ℕ, zero, suc, ◌-◌, ◌*◌, ◌/◌, ◌^◌, if◌then◌else◌, nat_lt, nat_le}
use Rattle.kernel_table.specs.declared.kernels.Shape.{Shape}
use Rattle.kernel_table.specs.declared.kernels.Shape.TheVariants.{Gauss, Triangle, Count}

-- an entry of the Gaussian table, with the factor that leads to the next entry
pub record Row : Type 0 where
  pub entry : ℕ
  pub factor : ℕ

-- the row after a row: the entry falls by the factor, and the factor by one that stays, rounded down
abbrev pub next_row : Row → Row
next_row row = record { entry = row.entry * row.factor / 2 ^ 32; factor = row.factor * 4292870655 / 2 ^ 32 }

-- the i-th row of the recurrence
unfoldable pub gauss_row : ℕ → Row
gauss_row zero = record { entry = 1048576; factor = 4293918847 }
gauss_row (suc i) = next_row (gauss_row i)

-- the table: 256 entries, and 0 past them
unfoldable pub gauss_entry : ℕ → ℕ
gauss_entry i = if nat_lt i 256 then (gauss_row i).entry else 0

-- Gauss: the entry at 64 times the misfit over the scale
abbrev pub gauss_value : ℕ → ℕ → ℕ
gauss_value misfit scale = gauss_entry (64 * misfit / scale)

-- Triangle: what the misfit leaves of the scale
abbrev pub triangle_value : ℕ → ℕ → ℕ
triangle_value misfit scale = if nat_le misfit scale then 2 ^ 20 * (scale - misfit) / scale else 0

-- Count: 1 up to the limit
abbrev pub count_value : ℕ → ℕ → ℕ
count_value limit misfit = if nat_le misfit limit then 2 ^ 20 else 0

-- the value of a shape at a misfit and a scale
abbrev pub kernel_value : Shape → ℕ → ℕ → ℕ
kernel_value Gauss misfit scale = gauss_value misfit scale
kernel_value Triangle misfit scale = triangle_value misfit scale
kernel_value (Count limit) misfit scale = count_value limit misfit
