use Rattle.std.proofs.Common.{ℕ, ◌<◌, ◌≤◌}
use Rattle.time_grid.specs.Numbers.{number_at}
use Rattle.node_boxes.specs.declared.limits.TheConstants.{GREATEST_TIME}
use Rattle.time_grid.proofs.numbers.first_over.Given as goal

abbrev pub invariant-loop-k : goal.invariant-loop-k
invariant-loop-k l = (j : ℕ) → j < l.k → number_at l.order l.piece j ≤ GREATEST_TIME
