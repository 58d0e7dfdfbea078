-- The bound of a box of nodes.
use Rattle.std.specs.Prelude.{ℕ, List}
use Rattle.kernel_table.specs.declared.kernels.Shape.{Shape}
use Rattle.node_boxes.specs.declared.node_box.NodeBox.{NodeBox}
use Rattle.node_boxes.specs.BoxNodes.{box_nodes}
use Rattle.edt_score.specs.declared.problem.ProblemPick.{ProblemPick}
use Rattle.edt_score.specs.Bound.{bound_over}
use Rattle.minmax_pyramid.specs.Spans.{span_over}
use Rattle.edt_score.specs.Field.{FieldTimes, time_at}

-- the span of each row of a field over a box
abbrev pub box_spans : FieldTimes → NodeBox → ℕ → ℕ × ℕ
box_spans field a row = span_over (time_at field row) (box_nodes field.grid a)

-- the bound of the nodes of a box, by the times of a field
abbrev pub box_bound : Shape → FieldTimes → List ProblemPick → NodeBox → ℕ
box_bound shape field picks a = bound_over shape (time_at field) picks (box_nodes field.grid a)
