-- What a certificate is held against.
use Rattle.std.specs.Prelude.{ℕ, List}
use Rattle.kernel_table.specs.declared.kernels.Shape.{Shape}
use Rattle.node_boxes.specs.declared.node_box.NodeBox.{NodeBox}
use Rattle.node_boxes.specs.Grid.{GridSize}
use Rattle.node_boxes.specs.BoxNodes.{box_nodes}
use Rattle.edt_score.specs.declared.problem.ProblemPick.{ProblemPick}
use Rattle.edt_score.specs.Bound.{bound_over}
use Rattle.edt_score.specs.Field.{FieldTimes, time_at}
use Rattle.edt_score.specs.Score.{score_of}

-- the score of each node of a grid, and the bound of each box of its nodes
pub record Scoring : Type 0 where
  pub grid : GridSize
  pub score : ℕ → ℕ
  pub bound : NodeBox → ℕ

-- those of picks by a kernel, with the travel time of each row at each node; a bound comes from the times of
-- all nodes of the box
abbrev pub scoring_of : Shape → GridSize → (ℕ → ℕ → ℕ) → List ProblemPick → Scoring
scoring_of shape g times picks = record {
  grid = g;
  score = score_of shape times picks;
  bound = λ a. bound_over shape times picks (box_nodes g a);
}

-- those of picks by a kernel and the travel times of a field
abbrev pub field_scoring : Shape → FieldTimes → List ProblemPick → Scoring
field_scoring shape field picks = scoring_of shape field.grid (time_at field) picks
