-- Times with weights.
use Rattle.std.specs.Prelude.{ℕ, ℤ, List}
use Rattle.std.specs.List.{sum_by}

-- the sum of the weights
abbrev pub total_weight : List (ℤ × ℕ) → ℕ
total_weight items = sum_by (λ (item : ℤ × ℕ). item.1) items
