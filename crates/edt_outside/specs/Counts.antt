-- Counts that rise and never fall. Each has a last value, 2 ^ 64 - 1, where it stays.
use Rattle.std.specs.Prelude.{◌≡◌, ℕ, ◌+◌, ◌-◌, ◌^◌, ◌≤◌, min, Bool, true, false}

-- the count rose: it is greater than before, or stands at its last value
abbrev pub Rose : ℕ → ℕ → Type 0
Rose before after = min (before + 1) (2 ^ 64 - 1) ≤ after

-- the count rose where the test is true, and stayed where it is false
abbrev pub RisesExactly : Bool → ℕ → ℕ → Type 0
RisesExactly true before after = (before ≤ after) × Rose before after
RisesExactly false before after = after ≡ before

-- a count after one more, up to its last value
abbrev pub one_more : ℕ → ℕ
one_more before = min (before + 1) (2 ^ 64 - 1)

-- a count after one more where the test is true
abbrev pub one_more_if : Bool → ℕ → ℕ
one_more_if true before = one_more before
one_more_if false before = before
