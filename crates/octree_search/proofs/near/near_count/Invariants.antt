use Rattle.std.proofs.Common.{◌≤◌}
use Rattle.octree_search.proofs.near.near_count.Given as goal

abbrev pub invariant-loop-b : goal.invariant-loop-b
invariant-loop-b l = record { few : l.count ≤ l.b-index }
