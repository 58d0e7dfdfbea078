-- What any of a list of nodes can be worth at most, by the least and the greatest travel times to
-- them.
use Rattle.std.specs.Prelude.{ℕ, ℤ, List, ◌*◌, ◌-ℤ◌, ◌<◌, ◌≤◌, pos, negsuc, max, length, Contains}
use Rattle.kernel_table.specs.declared.kernels.Shape.{Shape}
use Rattle.kernel_table.specs.Kernel.{kernel_value}
use Rattle.pair_weights.specs.Weight.{weight_of}
use Rattle.edt_score.specs.declared.problem.ProblemPick.{ProblemPick}
use Rattle.minmax_pyramid.specs.Spans.{span_over}
use Rattle.edt_score.specs.Score.{pair_scale, pair_sum}

-- a whole number, and 0 in place of one below 0
abbrev pub excess : ℤ → ℕ
excess (pos n) = n
excess (negsuc n) = 0

-- a span in order, of times that fit 32 bits
pub record IsTimeSpan (span : ℕ × ℕ) : Type 0 where
  pub order : span.0 ≤ span.1
  pub limit : span.1 ≤ 4294967295

-- the least misfit of a pair with the observed times `oa` and `ob` that travel times within the spans
-- allow
abbrev pub gap_of : ℤ → ℤ → ℕ × ℕ → ℕ × ℕ → ℕ
gap_of oa ob a b =
    max (excess ((pos a.0 -ℤ pos b.1) -ℤ (oa -ℤ ob))) (excess ((oa -ℤ ob) -ℤ (pos a.1 -ℤ pos b.0)))

-- the bound of a pair of picks: the weight at the scale of the least times by the value of the kernel
-- at the scale of the greatest
abbrev pub pair_bound : Shape → ProblemPick → ProblemPick → ℕ × ℕ → ℕ × ℕ → ℕ
pair_bound shape a b s t =
    weight_of a.weight b.weight (pair_scale a b s.0 t.0)
    * kernel_value shape (gap_of a.time b.time s t) (pair_scale a b s.1 t.1)

-- the sum of the bounds of all pairs of picks, with the span of each row
abbrev pub bound_by : Shape → (ℕ → ℕ × ℕ) → List ProblemPick → ℕ
bound_by shape spans picks = pair_sum (λ a b. pair_bound shape a b (spans a.row) (spans b.row)) picks

-- the bound of a list of nodes, with the travel time of each row at each node
abbrev pub bound_over : Shape → (ℕ → ℕ → ℕ) → List ProblemPick → List ℕ → ℕ
bound_over shape times picks nodes = bound_by shape (λ row. span_over (times row) nodes) picks

-- some of the nodes of a list, at least one
pub record IsPart (part nodes : List ℕ) : Type 0 where
  pub some : 0 < length part
  pub within : (node : ℕ) → Contains part node → Contains nodes node
