use Rattle.std.proofs.Common.{◌≡◌, ◌==◌, drop}
use Rattle.std.specs.List.{position_from}
use Rattle.cover_checker.proofs.placing.first_zero.Given as goal

abbrev pub invariant-loop-node : goal.invariant-loop-node
invariant-loop-node l =
    position_from (λ mark. mark == 0) l.node (drop l.node l.marks) ≡ position_from (λ mark. mark == 0) 0 l.marks
