-- The scores that the bounds of a field's boxes tell.
use Rattle.std.proofs.Common.{◌≡◌, ℕ, ◌<◌, List, arith}
use Rattle.kernel_table.specs.declared.kernels.Shape.{Shape}
use Rattle.node_boxes.specs.Grid.{node_count}
use Rattle.edt_score.specs.declared.problem.ProblemPick.{ProblemPick}
use Rattle.edt_score.specs.Best.{IsFirstBest}
use Rattle.edt_score.specs.BoxBound.{box_bound}
use Rattle.edt_score.specs.Field.{FieldTimes, time_at}
use Rattle.edt_score.specs.Judging.{judged_score}
use Rattle.edt_score.specs.Score.{score_of}
use Rattle.edt_score.specs.Inside.BoxDomination.{box_bound-node}

-- the first best node of the same scores
same_best : (n : ℕ) (one other : ℕ → ℕ) → ((node : ℕ) → node < n → one node ≡ other node) → (node : ℕ) → IsFirstBest n one node → IsFirstBest n other node
same_best n one other same node best =
    let inside = best.inside in
    record {
      inside = inside;
      best = λ k within. omega (arith, best.best k within, same k within, same node inside);
      first = λ k before. omega (arith, best.first k before, same k (omega arith), same node inside);
    }

-- the first best node by the bounds is that by the scores
pub first_by_scores : (shape : Shape) (field : FieldTimes) (picks : List ProblemPick) (node : ℕ)
    → IsFirstBest (node_count field.grid) (judged_score field.grid (box_bound shape field picks)) node
    → IsFirstBest (node_count field.grid) (score_of shape (time_at field) picks) node
first_by_scores shape field picks node best =
    same_best (node_count field.grid) (judged_score field.grid (box_bound shape field picks)) (score_of shape (time_at field) picks)
    (λ k within. box_bound-node shape field picks k within) node best
