-- What a node is worth as the place of an event.
use Rattle.std.specs.Prelude.{ℕ, ℤ, List, [], ◌∷◌, ◌+◌, ◌*◌, ◌-ℤ◌, pos, unsigned_abs, sum_by}
use Rattle.kernel_table.specs.declared.kernels.Shape.{Shape}
use Rattle.kernel_table.specs.Kernel.{kernel_value}
use Rattle.pair_weights.specs.Scale.{scale_of}
use Rattle.pair_weights.specs.Weight.{weight_of}
use Rattle.edt_score.specs.declared.problem.ProblemPick.{ProblemPick}

-- the variance of a pick at a node with this travel time
abbrev pub variance_at : ProblemPick → ℕ → ℕ
variance_at pick time = pick.variance

-- the misfit of a pair of picks: how far the difference of the observed times `oa` and `ob` is from
-- the difference of the travel times `ta` and `tb`, so that the origin time cancels
abbrev pub misfit_of : ℤ → ℤ → ℕ → ℕ → ℕ
misfit_of oa ob ta tb = unsigned_abs ((oa -ℤ ob) -ℤ (pos ta -ℤ pos tb))

-- the scale of a pair of picks at a node with the travel times `ta` and `tb`
abbrev pub pair_scale : ProblemPick → ProblemPick → ℕ → ℕ → ℕ
pair_scale a b ta tb = scale_of (variance_at a ta) (variance_at b tb)

-- the score of a pair of picks at a node with the travel times `ta` and `tb`
abbrev pub pair_score : Shape → ProblemPick → ProblemPick → ℕ → ℕ → ℕ
pair_score shape a b ta tb =
    weight_of a.weight b.weight (pair_scale a b ta tb) * kernel_value shape (misfit_of a.time b.time ta tb) (pair_scale a b ta tb)

-- the sum over all pairs of items, each item before the other in the list
abbrev pub pair_sum : {X : Type 0} → (X → X → ℕ) → List X → ℕ
pair_sum value [] = 0
pair_sum value (item ∷ items) = sum_by (value item) items + pair_sum value items

-- the score of a node, with the travel time of each row at each node: the sum of the scores of all
-- pairs of picks
abbrev pub score_of : Shape → (ℕ → ℕ → ℕ) → List ProblemPick → ℕ → ℕ
score_of shape times picks node = pair_sum (λ a b. pair_score shape a b (times a.row node) (times b.row node)) picks
