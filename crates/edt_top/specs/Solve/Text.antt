-- The text that `solve` writes.
use Rattle.std.specs.Prelude.{ℕ, ◌++◌, ◌==◌, if◌then◌else◌, List, [], ◌∷◌, codes, decimal, unwrap_or}
use Rattle.kernel_table.specs.declared.kernels.Shape.TheVariants.{Gauss}
use Rattle.node_boxes.specs.Grid.{GridSize, node_count}
use Rattle.node_boxes.specs.GridOrder.{place_of}
use Rattle.edt_score.specs.declared.problem.ProblemPick.{ProblemPick}
use Rattle.edt_score.specs.Field.{FieldTimes, time_at}
use Rattle.edt_score.specs.Score.{score_of}
use Rattle.edt_score.specs.Best.{best_score, first_best}
use Rattle.edt_top.specs.Solve.ProblemFile.{Words}
use Rattle.edt_top.specs.Solve.ProblemValues.{field_in, picks_of}

-- a line is a text and a line feed
abbrev pub ended_line : List ℕ → List ℕ
ended_line text = text ++ 10 ∷ []

-- a node, its place and its score
abbrev pub place_line : ℕ → ℕ × ℕ × ℕ → ℕ → List ℕ
place_line node (ix, iy, iz) score =
    ended_line (codes "BEST " ++ decimal node ++ codes " " ++ decimal ix ++ codes " " ++ decimal iy ++ codes " " ++ decimal iz ++ codes " " ++ decimal score)

-- no node fits
abbrev pub no_fit_line : List ℕ
no_fit_line = ended_line (codes "NOFIT")

-- the line of a node with this score, which is that of no fit where the score is 0
abbrev pub node_line : GridSize → ℕ → ℕ → List ℕ
node_line grid node score = if score == 0 then no_fit_line else place_line node (place_of grid node) score

-- the first best node of a field for picks, with the Gaussian kernel, with its place and its score, or that every node scores 0
unfoldable pub answer_line : FieldTimes → List ProblemPick → List ℕ
answer_line field picks =
    let nodes : ℕ = node_count field.grid in
    let score : ℕ → ℕ = score_of Gauss (time_at field) picks in
    node_line field.grid (unwrap_or (first_best nodes score) 0) (best_score nodes score)

-- the line of the field and the picks of the file
abbrev pub solve_text : Words → List ℕ
solve_text words = answer_line (field_in words) (picks_of words)
