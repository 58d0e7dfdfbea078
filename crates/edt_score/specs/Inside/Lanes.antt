-- Eight boxes side by side.
use Rattle.std.specs.Prelude.{◌≡◌, ℕ, List, ◌<◌, ◌≤◌, map, slice_index, slice_index_or}
use Rattle.kernel_table.specs.declared.kernels.Shape.{Shape}
use Rattle.edt_score.specs.declared.ends.Ends.{Ends}
use Rattle.edt_score.specs.PairTerms.{PairTerms}
use Rattle.edt_score.specs.Inside.Ends.{row_total, table_total}

-- the ends of a pick over the box with this place
abbrev pub lane : ℕ → List Ends → Ends
lane k eight = slice_index_or eight k (record { low = 0; high = 0 })

-- each of eight numbers is what its place says, or at most that
abbrev pub EachIs : (ℕ → ℕ) → List ℕ → Type 0
EachIs value sums = (k : ℕ) → k < 8 → slice_index sums k ≡ value k

abbrev pub EachAtMost : (ℕ → ℕ) → List ℕ → Type 0
EachAtMost most sums = (k : ℕ) → k < 8 → slice_index sums k ≤ most k

-- what a row and what all pairs are worth over the box with this place
abbrev pub lane_row : Shape → List Ends → List (List Ends) → List PairTerms → ℕ → ℕ
lane_row shape first others pairs k = row_total shape (lane k first) (map (lane k) others) pairs

abbrev pub lane_total : Shape → List (List Ends) → List PairTerms → ℕ → ℕ
lane_total shape ends pairs k = table_total shape (map (lane k) ends) pairs
