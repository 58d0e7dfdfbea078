-- Bounds from one span for each pick.
use Rattle.std.specs.Prelude.{ℕ, List, slice_index_or}
use Rattle.kernel_table.specs.declared.kernels.Shape.{Shape}
use Rattle.edt_score.specs.declared.problem.ProblemPick.{ProblemPick}
use Rattle.edt_score.specs.Bound.{bound_by}
use Rattle.edt_score.specs.Look.{numbered}

-- the span at a place
abbrev pub span_at : List (ℕ × ℕ) → ℕ → ℕ × ℕ
span_at spans place = slice_index_or spans place (0, 0)

-- the sum of the bounds of all pairs of picks, with one span for each pick
abbrev pub bound_of_spans : Shape → List ProblemPick → List (ℕ × ℕ) → ℕ
bound_of_spans shape picks spans = bound_by shape (span_at spans) (numbered picks)
