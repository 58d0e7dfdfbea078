use Rattle.std.proofs.Common.{◌≡◌, ◌≤◌, drop, length}
use Rattle.cover_checker.specs.Findings.{first_difference}
use Rattle.cover_checker.specs.Inside.Walks.{near_walk}
use Rattle.cover_checker.proofs.near.near_fault.Given as goal

abbrev pub invariant-loop-node : goal.invariant-loop-node
invariant-loop-node l = record {
  few : l.at ≤ l.node;
  within : l.at ≤ length l.near;
  left : first_difference l.at (drop l.at l.near) (near_walk l.boxes l.least l.node (drop l.node l.marks))
      ≡ first_difference 0 l.near (near_walk l.boxes l.least 0 l.marks);
}
