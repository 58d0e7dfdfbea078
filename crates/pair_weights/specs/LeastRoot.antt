-- The least number whose square reaches another.
use Rattle.std.specs.Prelude.{ℕ, ◌≤◌, ◌*◌}

-- `root` is the least number whose square is at least `n`
pub record IsLeastRoot (n root : ℕ) : Type 0 where
  pub enough : n ≤ root * root
  pub least : (k : ℕ) → n ≤ k * k → root ≤ k
