use Rattle.std.proofs.Common.{◌≤◌}
use Rattle.octree_search.proofs.covering.leaf_count.Given as goal

abbrev pub invariant-loop-m : goal.invariant-loop-m
invariant-loop-m l = record { few : l.count ≤ l.m-index }
