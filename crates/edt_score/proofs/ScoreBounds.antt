-- No score and no bound of a valid problem reaches 9*10^18, and no misfit passes its limit.
use Rattle.std.proofs.Common.{ℕ, ℤ, List, [], ◌∷◌, ◌*◌, ◌^◌, ◌<◌, ◌≤◌, ◌-ℤ◌, All, arith, length, unsigned_abs}
use Rattle.std.proofs.Math.Nat.{mul-le-mul_right}
use Rattle.std.proofs.lemmas.Int.{ints}
use Rattle.std.proofs.lemmas.List.Elements.{All-head, All-tail}
use Rattle.std.proofs.lemmas.List.Sums.{sum_by-le}
use Rattle.node_boxes.specs.declared.limits.TheConstants.{GREATEST_TIME}
use Rattle.kernel_table.specs.declared.kernels.Shape.{Shape}
use Rattle.kernel_table.proofs.KernelLaws.{kernel_value-le}
use Rattle.pair_weights.specs.Scale.{IsScale}
use Rattle.pair_weights.proofs.Scales.{scale_of-is}
use Rattle.pair_weights.proofs.Weights.{weight_of-bound}
use Rattle.edt_score.specs.declared.problem.ProblemPick.{ProblemPick}
use Rattle.edt_score.specs.declared.problem.Problem.{Problem}
use Rattle.edt_score.specs.Bound.{bound_by, gap_of, pair_bound}
use Rattle.edt_score.specs.Field.{FieldTimes}
use Rattle.edt_score.specs.Inside.Pairs.{pair_count}
use Rattle.edt_score.specs.Problem.{IsValidPick, IsValidProblem}
use Rattle.edt_score.specs.Score.{misfit_of, pair_scale, pair_score, pair_sum, score_of, variance_at}
use Rattle.edt_score.proofs.RowTotals.{pair_count-le, term-le}

pub pair_scale-is : (a b : ProblemPick) (ta tb : ℕ) → IsScale (variance_at a ta) (variance_at b tb) (pair_scale a b ta tb)
pair_scale-is a b ta tb = scale_of-is (variance_at a ta) (variance_at b tb)

pub misfit_of-le : (oa ob : ℤ) (ta tb : ℕ) → unsigned_abs (oa -ℤ ob) ≤ 2200000000000 → ta ≤ GREATEST_TIME → tb ≤ GREATEST_TIME
    → misfit_of oa ob ta tb ≤ 2202000000000
misfit_of-le oa ob ta tb near first second = omega (arith, ints)

-- one pair
pub pair_score-le : (shape : Shape) (a b : ProblemPick) (ta tb : ℕ) → a.weight ≤ 2000 → b.weight ≤ 2000
    → pair_score shape a b ta tb ≤ 274877906944000
pair_score-le shape a b ta tb first second =
    let scale = pair_scale-is a b ta tb in
    term-le _ _ (weight_of-bound a.weight b.weight (pair_scale a b ta tb) first second scale.at_least)
    (kernel_value-le shape (misfit_of a.time b.time ta tb) (pair_scale a b ta tb))

-- all pairs
pub pair_sum-le : {X : Type 0} (value : X → X → ℕ) (P : X → Type 0) (most : ℕ) → ((a b : X) → P a → P b → value a b ≤ most)
    → (items : List X) → All P items → pair_sum value items ≤ pair_count (length items) * most
pair_sum-le value P most bound [] all = omega arith
pair_sum-le value P most bound (item ∷ items) all =
    let first = All-head P item items all in
    let rest = All-tail P item items all in
    let row = sum_by-le (value item) most items (λ k d below. bound item _ first (rest k d below)) in
    let later = pair_sum-le value P most bound items rest in
    omega arith

pub score_of-bound : (shape : Shape) (times : ℕ → ℕ → ℕ) (field : FieldTimes) (problem : Problem) (node : ℕ) → IsValidProblem field problem
    → score_of shape times problem.picks.items node < 9 * 10 ^ 18
score_of-bound shape times field problem node valid =
    let picks = problem.picks.items in
    let sum = pair_sum-le (λ a b. pair_score shape a b (times a.row node) (times b.row node)) (IsValidPick field) 274877906944000
    (λ a b first second. pair_score-le shape a b (times a.row node) (times b.row node) first.weight second.weight) picks valid.picks in
    let few = pair_count-le (length picks) valid.few in
    omega (arith, mul-le-mul_right 274877906944000 few)

-- one pair of a bound
pub pair_bound-le : (shape : Shape) (a b : ProblemPick) (s t : ℕ × ℕ) → a.weight ≤ 2000 → b.weight ≤ 2000 → pair_bound shape a b s t ≤ 274877906944000
pair_bound-le shape a b s t first second =
    let scale = pair_scale-is a b s.0 t.0 in
    term-le _ _ (weight_of-bound a.weight b.weight (pair_scale a b s.0 t.0) first second scale.at_least)
    (kernel_value-le shape (gap_of a.time b.time s t) (pair_scale a b s.1 t.1))

-- all pairs of a bound
pub bound_by-limit : (shape : Shape) (spans : ℕ → ℕ × ℕ) (field : FieldTimes) (problem : Problem) → IsValidProblem field problem
    → bound_by shape spans problem.picks.items < 9 * 10 ^ 18
bound_by-limit shape spans field problem valid =
    let picks = problem.picks.items in
    let sum = pair_sum-le (λ a b. pair_bound shape a b (spans a.row) (spans b.row)) (IsValidPick field) 274877906944000
    (λ a b first second. pair_bound-le shape a b (spans a.row) (spans b.row) first.weight second.weight) picks valid.picks in
    let few = pair_count-le (length picks) valid.few in
    omega (arith, mul-le-mul_right 274877906944000 few)
