-- What a scorer was made from, and the scores that it means.
use Rattle.std.specs.Prelude.{◌≡◌, ℕ}
use Rattle.node_boxes.specs.declared.node_box.NodeBox.{NodeBox}
use Rattle.kernel_table.specs.declared.stored.Falloff.{Falloff}
use Rattle.kernel_table.specs.Falloff.{shape_of}
use Rattle.edt_score.specs.declared.problem.Problem.{Problem}
use Rattle.edt_score.specs.declared.scorer.Scorer.{Scorer}
use Rattle.edt_score.specs.Field.{FieldTimes, time_at}
use Rattle.edt_score.specs.BoxBound.{box_bound}
use Rattle.edt_score.specs.Score.{score_of}

-- the field of a scorer
abbrev pub field_of : {F : Type 0} → Scorer F → FieldTimes
field_of scorer = scorer.field.now

-- the problem of a scorer
abbrev pub problem_of : {F : Type 0} → Scorer F → Problem
problem_of scorer = scorer.problem.now

-- the falloff of a scorer
abbrev pub falloff_of : {F : Type 0} → Scorer F → Falloff F
falloff_of scorer = scorer.falloff.now

-- the score of a node by the field, the problem and the kernel of a scorer
abbrev pub node_score : {F : Type 0} → Scorer F → ℕ → ℕ
node_score scorer = score_of (shape_of (falloff_of scorer)) (time_at (field_of scorer)) (problem_of scorer).picks.items

-- the bound of a box by the field, the problem and the kernel of a scorer
abbrev pub area_bound : {F : Type 0} → Scorer F → NodeBox → ℕ
area_bound scorer = box_bound (shape_of (falloff_of scorer)) (field_of scorer) (problem_of scorer).picks.items

-- two scorers of one field, one problem and one kernel
pub record IsSameScorer {F : Type 0} (one other : Scorer F) : Type 0 where
  pub field : field_of other ≡ field_of one
  pub problem : problem_of other ≡ problem_of one
  pub falloff : falloff_of other ≡ falloff_of one
