use Rattle.std.proofs.Common.{◌≡◌, ◌<◌, ℕ, All, AllPairs, length}
use Rattle.std.specs.List.{find}
use Rattle.cover_checker.proofs.PlacingSteps.{is_marked, mark_after}
use Rattle.cover_checker.proofs.placing.mark_nodes.Given as goal

abbrev pub invariant-loop-node : goal.invariant-loop-node
invariant-loop-node l = record {
  inside : All (λ node. node < length l.initial.marks) l.nodes;
  order : AllPairs ◌<◌ l.nodes;
  kept : length l.marks ≡ length l.initial.marks;
  first : find (is_marked l.marks) l.nodes ≡ find (is_marked l.initial.marks) l.initial.nodes;
  marked : (k : ℕ) → k < length l.initial.marks → mark_after l.nodes l.mark l.marks k ≡ mark_after l.initial.nodes l.mark l.initial.marks k;
}

abbrev pub decreases-loop-node : goal.decreases-loop-node
decreases-loop-node l = length l.nodes
