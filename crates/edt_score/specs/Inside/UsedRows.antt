-- The rows that picks use, and the place of each pick's row among them.
use Rattle.std.specs.Prelude.{◌≡◌, ℕ, List, [], ◌∷◌, ◌++◌, ◌<◌, ◌⊎◌, All, length, map, slice_index}
use Rattle.edt_score.specs.declared.problem.ProblemPick.{ProblemPick}

-- the rows of picks
abbrev pub rows_of : List ProblemPick → List ℕ
rows_of picks = map (λ pick. pick.row) picks

-- each pick's row stands at its place, and the rows are no greater than those of the picks
pub record AreRowsOf (picks : List ProblemPick) (rows places : List ℕ) : Type 0 where
  pub placed : map (slice_index rows) places ≡ rows_of picks
  pub within : All (λ place. place < length rows) places
  pub limit : (n : ℕ) → All (λ row. row < n) (rows_of picks) → All (λ row. row < n) rows

-- rows that are as before, or have one more at the end, and have the row at the place
pub record IsKept (before : List ℕ) (row place : ℕ) (after : List ℕ) : Type 0 where
  pub rows : (after ≡ before) ⊎ (after ≡ before ++ row ∷ [])
  pub within : place < length after
  pub here : slice_index after place ≡ row
