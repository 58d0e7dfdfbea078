-- The scale of a pair of picks, by their variances.
use Rattle.std.specs.Prelude.{ℕ, Bool, ◌≤◌, ◌+◌, ◌*◌, suc, zero, nat_le, if◌then◌else◌}

-- `scale` is the least number from 1000 on whose square is at least the sum of two variances
pub record IsScale (va vb scale : ℕ) : Type 0 where
  pub at_least : 1000 ≤ scale
  pub enough : va + vb ≤ scale * scale
  pub least : (s : ℕ) → 1000 ≤ s → va + vb ≤ s * s → scale ≤ s

-- the first number from `from` on that passes the test, or `from + steps` where none before it does
abbrev pub first_from : (ℕ → Bool) → ℕ → ℕ → ℕ
first_from test zero from = from
first_from test (suc steps) from = if test from then from else first_from test steps (from + 1)

-- the scale of a pair of picks with the variances `va` and `vb`, in microseconds
unfoldable pub scale_of : ℕ → ℕ → ℕ
scale_of va vb = first_from (λ s. nat_le (va + vb) (s * s)) (va + vb) 1000
